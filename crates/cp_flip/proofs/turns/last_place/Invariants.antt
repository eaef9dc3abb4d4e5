-- Of the places so far it is the last of the number.
use Rattle.std.proofs.Common.{◌≡◌, ◌≢◌, ℕ, ◌<◌, slice_index}
use Rattle.cp_flip.proofs.turns.last_place.Given as goal

abbrev pub invariant-loop-k : goal.invariant-loop-k
invariant-loop-k l = record {
  within : l.last < l.k;
  same : slice_index l.numbers l.last ≡ slice_index l.numbers l.place;
  last : (m : ℕ) → l.last < m → m < l.k → slice_index l.numbers m ≢ slice_index l.numbers l.place;
}
