-- The edges so far have no neighbour of v.
use Rattle.cp_conn.proofs.Neighbours.{AllNear}
use Rattle.cp_conn.proofs.cut_vertex.some_neighbour.Given as goal

abbrev pub invariant-loop-first : goal.invariant-loop-first
invariant-loop-first l = AllNear l.ends l.v (λ x. ⊥) l.first-index
