use Rattle.std.proofs.Common.{◌≡◌, map, take, slice_index}
use Rattle.cp_rotlaw.proofs.star_parts.looked_up.Given as goal

abbrev pub invariant-loop-number : goal.invariant-loop-number
invariant-loop-number l = l.told.items ≡ map (slice_index l.places) (take l.number-index l.numbers)
