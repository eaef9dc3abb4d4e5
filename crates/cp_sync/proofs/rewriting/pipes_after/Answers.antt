use Rattle.std.proofs.Common.{◌≡◌, map, sym, ap, subst, ◌∙◌}
use Rattle.std.specs.Prelude.{IfOk}
use Rattle.std.specs.List.Sorted.{IsStrictlyIncreasing}
use Rattle.cp_board.specs.declared.parts.Pipe.{Pipe}
use Rattle.cp_board.specs.Names.{rising}
use Rattle.cp_board.specs.Changes.{pipes_by_name}
use Rattle.cp_sync.proofs.Kept.{kept_pipes-whole}
use Rattle.cp_sync.proofs.rewriting.pipes_after.Goals as goal

pub in_order-requires : goal.in_order-requires
in_order-requires c =
    subst (λ ps. IsStrictlyIncreasing (map (λ (p : Pipe). p.name) (pipes_by_name ps)))
    (sym (kept_pipes-whole c.args.w.now.drop_pipes c.args.pipes.now c.args.w.now.add_pipes
    c.items-2.result.now c.items-3.result.now c.new-kept.result.items c.append_kept_pipes.new.to.items c.append_copies.new.to.items
    (c.items-2.ensures ∙ c.in_ok-dropped.ensures.value ∙ ap rising c.items.ensures)
    c.items-3.ensures c.new-kept.ensures.items c.in_ok-append_kept_pipes.ensures c.in_ok-append_copies.ensures))
    c.requires.rising

pub returns : goal.returns
returns c =
    subst (λ ps. IfOk c.in_order.result (λ after. after ≡ pipes_by_name ps))
    (kept_pipes-whole c.args.w.now.drop_pipes c.args.pipes.now c.args.w.now.add_pipes
    c.items-2.result.now c.items-3.result.now c.new-kept.result.items c.append_kept_pipes.new.to.items c.append_copies.new.to.items
    (c.items-2.ensures ∙ c.in_ok-dropped.ensures.value ∙ ap rising c.items.ensures)
    c.items-3.ensures c.new-kept.ensures.items c.in_ok-append_kept_pipes.ensures c.in_ok-append_copies.ensures)
    c.in_order.ensures
