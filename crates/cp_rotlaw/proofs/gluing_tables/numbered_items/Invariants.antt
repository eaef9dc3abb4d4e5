use Rattle.std.proofs.Common.{◌≡◌, map, take, slice_index}
use Rattle.cp_rotlaw.proofs.gluing_tables.numbered_items.Given as goal

abbrev pub invariant-loop-i : goal.invariant-loop-i
invariant-loop-i l = l.new.items ≡ map (slice_index l.numbers) (take l.i l.items)
