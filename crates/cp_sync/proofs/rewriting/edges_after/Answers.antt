use Rattle.std.proofs.Common.{sym, subst, ◌∙◌}
use Rattle.std.specs.List.{All, Contains}
use Rattle.cp_board.specs.declared.rewrite.EdgeMove.{EdgeMove}
use Rattle.cp_board.specs.Instances.{names_of_edges}
use Rattle.cp_sync.proofs.rewriting.edges_after.Goals as goal

pub move_ends-requires-clause-live : goal.move_ends-requires-clause-live
move_ends-requires-clause-live c =
    subst (λ es. All (λ (m : EdgeMove). Contains (names_of_edges es) m.edge) c.items.result.now)
    (sym (c.as_mut_slice.ensures.value ∙ c.in_ok-after.ensures.items))
    (subst (All (λ (m : EdgeMove). Contains (names_of_edges c.args.edges.now) m.edge)) (sym c.items.ensures) c.requires.live)
