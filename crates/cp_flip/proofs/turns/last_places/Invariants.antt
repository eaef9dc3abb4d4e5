-- The places so far have theirs.
use Rattle.std.proofs.Common.{◌≡◌, ℕ, ◌<◌, length, slice_index}
use Rattle.cp_flip.specs.TakingTurns.{IsLastPlace}
use Rattle.cp_flip.proofs.turns.last_places.Given as goal

abbrev pub invariant-loop-place : goal.invariant-loop-place
invariant-loop-place l = record {
  one_each : length l.lasts.items ≡ l.place;
  each : (k : ℕ) → k < l.place → IsLastPlace l.numbers k (slice_index l.lasts.items k);
}
