-- The names of the edges so far stand behind the others.
use Rattle.std.proofs.Common.{◌≡◌, ◌++◌, map, slice_index, take}
use Rattle.cp_flip.proofs.gluing.push_named.Given as goal

abbrev pub invariant-loop-e : goal.invariant-loop-e
invariant-loop-e l = l.row ≡ l.initial.row ++ map (slice_index l.edges) (take l.e-index l.list)
