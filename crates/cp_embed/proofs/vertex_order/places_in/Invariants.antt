-- The vertices so far have their places.
use Rattle.std.proofs.Common.{◌≡◌, ℕ, ◌<◌, length, get_or}
use Rattle.cp_embed.proofs.vertex_order.places_in.Given as goal

abbrev pub invariant-loop-i : goal.invariant-loop-i
invariant-loop-i l = record {
  each : length l.places.items ≡ length l.order;
  places : (k : ℕ) → k < l.i → get_or l.places.items (get_or l.order k 0) 0 ≡ k;
}
