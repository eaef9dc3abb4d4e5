-- Those so far whose later end is not the vertex.
use Rattle.std.proofs.Common.{◌≡◌, not, take}
use Rattle.std.specs.List.{filter}
use Rattle.cp_embed.specs.VertexOrders.{enters}
use Rattle.cp_embed.proofs.edge_lists.leaving.Given as goal

abbrev pub invariant-loop-edge : goal.invariant-loop-edge
invariant-loop-edge l = l.kept.items ≡ filter (λ k. not (enters l.later l.vertex k)) (take l.edge-index l.edges)
