use Rattle.std.proofs.Common.{◌≡◌, sym, ap, subst, ◌∙◌}
use Rattle.std.specs.Prelude.{IfOk}
use Rattle.std.specs.List.Sorted.{IsStrictlyIncreasing}
use Rattle.cp_board.specs.Names.{rising}
use Rattle.cp_board.specs.Instances.{names_of_verts}
use Rattle.cp_board.specs.Changes.{verts_by_name}
use Rattle.cp_sync.proofs.Kept.{kept_verts-whole}
use Rattle.cp_sync.proofs.rewriting.verts_after.Goals as goal

pub in_order-requires : goal.in_order-requires
in_order-requires c =
    subst (λ vs. IsStrictlyIncreasing (names_of_verts (verts_by_name vs)))
    (sym (kept_verts-whole c.args.w.now.drop_verts c.args.w.now.set_kinds c.args.verts.now c.args.w.now.add_verts
    c.items-3.result.now c.items-6.result.now c.items-4.result.now c.items-7.result.now c.items-5.result.now
    c.new-kept.result.items c.append_kept_verts.new.to.items c.append_kept_verts-2.new.to.items
    c.requires.kinds_once
    (c.items-3.ensures ∙ c.in_ok-dropped.ensures.value ∙ ap rising c.items.ensures)
    (c.items-6.ensures ∙ c.in_ok-dropped.ensures.value ∙ ap rising c.items.ensures)
    (c.items-4.ensures ∙ c.in_ok-kinds.ensures.value ∙ ap verts_by_name c.items-2.ensures)
    (c.items-7.ensures ∙ c.in_ok-kinds.ensures.value ∙ ap verts_by_name c.items-2.ensures)
    c.items-5.ensures c.new-kept.ensures.items c.in_ok-append_kept_verts.ensures c.in_ok-append_kept_verts-2.ensures))
    c.requires.rising

pub returns : goal.returns
returns c =
    subst (λ vs. IfOk c.in_order.result (λ after. after ≡ verts_by_name vs))
    (kept_verts-whole c.args.w.now.drop_verts c.args.w.now.set_kinds c.args.verts.now c.args.w.now.add_verts
    c.items-3.result.now c.items-6.result.now c.items-4.result.now c.items-7.result.now c.items-5.result.now
    c.new-kept.result.items c.append_kept_verts.new.to.items c.append_kept_verts-2.new.to.items
    c.requires.kinds_once
    (c.items-3.ensures ∙ c.in_ok-dropped.ensures.value ∙ ap rising c.items.ensures)
    (c.items-6.ensures ∙ c.in_ok-dropped.ensures.value ∙ ap rising c.items.ensures)
    (c.items-4.ensures ∙ c.in_ok-kinds.ensures.value ∙ ap verts_by_name c.items-2.ensures)
    (c.items-7.ensures ∙ c.in_ok-kinds.ensures.value ∙ ap verts_by_name c.items-2.ensures)
    c.items-5.ensures c.new-kept.ensures.items c.in_ok-append_kept_verts.ensures c.in_ok-append_kept_verts-2.ensures)
    c.in_order.ensures
