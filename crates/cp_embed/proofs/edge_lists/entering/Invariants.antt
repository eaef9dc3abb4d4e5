-- Those so far whose later end is the vertex.
use Rattle.std.proofs.Common.{◌≡◌, take}
use Rattle.std.specs.List.{filter}
use Rattle.cp_embed.specs.VertexOrders.{enters}
use Rattle.cp_embed.proofs.edge_lists.entering.Given as goal

abbrev pub invariant-loop-edge : goal.invariant-loop-edge
invariant-loop-edge l = l.kept.items ≡ filter (enters l.later l.vertex) (take l.edge-index l.edges)
