use Rattle.std.proofs.Common.{◌≡◌, map, take, slice_index}
use Rattle.cp_poles.proofs.rows.edges_at_places.Given as goal

abbrev pub invariant-loop-k : goal.invariant-loop-k
invariant-loop-k l = l.names.items ≡ map (slice_index l.edges) (take l.k-index l.places)
