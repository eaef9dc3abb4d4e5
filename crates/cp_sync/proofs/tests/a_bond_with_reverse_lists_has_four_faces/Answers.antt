use Rattle.std.proofs.Common.{ℕ, List, sym, subst}
use Rattle.std.specs.List.{All}
use Rattle.cp_board.specs.Instances.{Synchronized, graph, vert_names}
use Rattle.cp_board.specs.Rotations.{ArrangesEdges}
use Rattle.cp_board.specs.Solutions.{list_in}
use Rattle.cp_sync.specs.WorkedRows.{bond}
use Rattle.cp_sync.proofs.WorkedRows.{bond-arranged}
use Rattle.cp_sync.proofs.tests.a_bond_with_reverse_lists_has_four_faces.Goals as goal

pub rot_of-requires-clause-arranged : goal.rot_of-requires-clause-arranged
rot_of-requires-clause-arranged g c =
    subst (λ (j : Synchronized). All (λ v. ArrangesEdges (graph j) v (list_in c.in_ok-s.s v)) (vert_names j)) (sym c.in_ok-i.ensures)
    (subst (λ (lists : List (ℕ × List ℕ)). All (λ v. ArrangesEdges (graph bond) v (list_in lists v)) (vert_names bond))
    (sym c.in_ok-s.ensures) bond-arranged)
