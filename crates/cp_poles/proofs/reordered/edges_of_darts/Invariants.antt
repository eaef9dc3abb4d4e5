use Rattle.std.proofs.Common.{◌≡◌, ◌/◌, map, take, slice_index}
use Rattle.cp_poles.proofs.reordered.edges_of_darts.Given as goal

abbrev pub invariant-loop-d : goal.invariant-loop-d
invariant-loop-d l = l.names.items ≡ map (λ d. slice_index l.edges (d / 2)) (take l.d-index l.darts)
