use Rattle.std.proofs.Common.{◌≡◌, ℕ, ◌<◌, slice_index}
use Rattle.cp_rotlaw.proofs.pole_rows.first_of_other_part.Given as goal

abbrev pub invariant-loop-i : goal.invariant-loop-i
invariant-loop-i l =
    (k : ℕ) → k < l.i → slice_index l.parts (slice_index l.items k) ≡ slice_index l.parts (slice_index l.items 0)
