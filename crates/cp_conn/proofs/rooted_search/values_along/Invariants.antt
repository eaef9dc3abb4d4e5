-- The values of the items so far.
use Rattle.std.proofs.Common.{◌≡◌, ℕ, ◌<◌, length, get_or}
use Rattle.cp_conn.proofs.rooted_search.values_along.Given as goal

abbrev pub invariant-loop-item : goal.invariant-loop-item
invariant-loop-item l = record {
  size : length l.along.items ≡ l.item-index;
  each : (i : ℕ) → i < l.item-index → get_or l.along.items i 0 ≡ get_or l.values (get_or l.order i 0) 0;
}
