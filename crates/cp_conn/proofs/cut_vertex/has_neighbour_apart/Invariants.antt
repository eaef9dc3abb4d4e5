-- The neighbours of v by the edges so far have the value.
use Rattle.std.proofs.Common.{◌≡◌, get_or}
use Rattle.cp_conn.proofs.Neighbours.{AllNear}
use Rattle.cp_conn.proofs.cut_vertex.has_neighbour_apart.Given as goal

abbrev pub invariant-loop-first : goal.invariant-loop-first
invariant-loop-first l = AllNear l.ends l.v (λ x. get_or l.least x 0 ≡ l.label) l.first-index
