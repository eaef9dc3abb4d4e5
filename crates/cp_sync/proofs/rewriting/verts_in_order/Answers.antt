use Rattle.std.proofs.Common.{◌≡◌, List, ◌++◌, sym, ap, subst, ◌∙◌}
use Rattle.std.specs.List.Sorted.{IsStrictlyIncreasing}
use Rattle.std.proofs.lemmas.Result.{IfOk-weaker}
use Rattle.cp_board.specs.declared.parts.Vert.{Vert}
use Rattle.cp_board.specs.Instances.{names_of_verts}
use Rattle.cp_board.specs.Changes.{verts_by_name}
use Rattle.cp_sync.proofs.NamedOrder.{rising-by_name}
use Rattle.cp_sync.proofs.rewriting.verts_in_order.Goals as goal

pub in_order-requires : goal.in_order-requires
in_order-requires c =
    subst (λ vs. IsStrictlyIncreasing (names_of_verts (verts_by_name vs)))
    (sym (c.in_ok-append_copies.ensures ∙ ap (λ vs. vs ++ c.args.verts.now) c.new-copies.ensures.items))
    (rising-by_name (λ (v : Vert). v.name) c.args.verts.now c.requires)

pub returns-clause-rising : goal.returns-clause-rising
returns-clause-rising c =
    IfOk-weaker c.in_order.result (λ list. list ≡ verts_by_name c.append_copies.new.to.items) (λ list. IsStrictlyIncreasing (names_of_verts list))
    (λ (list : List Vert) e. subst (λ vs. IsStrictlyIncreasing (names_of_verts vs))
    (sym (e ∙ ap verts_by_name (c.in_ok-append_copies.ensures ∙ ap (λ vs. vs ++ c.args.verts.now) c.new-copies.ensures.items)))
    (rising-by_name (λ (v : Vert). v.name) c.args.verts.now c.requires))
    c.in_order.ensures
