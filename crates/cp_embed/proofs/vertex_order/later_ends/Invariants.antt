-- The edges so far have their later ends.
use Rattle.std.proofs.Common.{◌≡◌, ℕ, ◌<◌, length, get_or}
use Rattle.cp_embed.specs.VertexOrders.{IsLaterEnd}
use Rattle.cp_embed.proofs.vertex_order.later_ends.Given as goal

abbrev pub invariant-loop-edge : goal.invariant-loop-edge
invariant-loop-edge l = record {
  each : length l.later.items ≡ l.edge;
  later_of : (k : ℕ) → k < l.edge → IsLaterEnd l.ends l.order k (get_or l.later.items k 0);
}
