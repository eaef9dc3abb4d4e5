-- The edges so far have their numbers.
use Rattle.std.proofs.Common.{◌≡◌, map, slice_index, take}
use Rattle.cp_conn.specs.NamedGraphs.{rank}
use Rattle.cp_flip.proofs.crossing.numbers_along.Given as goal

abbrev pub invariant-loop-e : goal.invariant-loop-e
invariant-loop-e l = l.along.items ≡ map (λ e. slice_index l.numbers (rank l.edges e)) (take l.e-index l.list)
