use Rattle.std.proofs.Common.{◌≡◌, map, slice_index, take}
use Rattle.cp_join.proofs.vertex_parts.named_list.Given as goal

abbrev pub invariant-loop-k : goal.invariant-loop-k
invariant-loop-k l = l.list.items ≡ map (slice_index l.names) (take l.k-index l.part)
