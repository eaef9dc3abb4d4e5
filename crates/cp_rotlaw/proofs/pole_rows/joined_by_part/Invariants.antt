use Rattle.std.proofs.Common.{◌≡◌, ◌-◌, drop, length, slice_index}
use Rattle.cp_rotlaw.specs.PoleClasses.{joined_rows}
use Rattle.cp_rotlaw.proofs.pole_rows.joined_by_part.Given as goal

abbrev pub invariant-loop-i : goal.invariant-loop-i
invariant-loop-i l =
    l.row.items ≡ joined_rows (slice_index l.parts) l.fn.free l.fn.items (drop (length l.order - l.i) l.order)
