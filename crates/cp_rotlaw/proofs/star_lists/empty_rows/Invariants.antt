use Rattle.std.proofs.Common.{◌≡◌, ℕ, [], length, slice_index_or}
use Rattle.cp_rotlaw.proofs.star_lists.empty_rows.Given as goal

abbrev pub invariant-loop-i : goal.invariant-loop-i
invariant-loop-i l = record {
  size : length l.rows.items ≡ l._i;
  empty : (i : ℕ) → slice_index_or l.rows.items i [] ≡ [];
}
