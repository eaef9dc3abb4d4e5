use Rattle.std.proofs.Common.{◌≡◌, map, slice_index, take}
use Rattle.cp_join.proofs.vertex_parts.named_parts.Given as goal

abbrev pub invariant-loop-part : goal.invariant-loop-part
invariant-loop-part l = l.lists ≡ map (map (slice_index l.names)) (take l.part-index l.parts)
