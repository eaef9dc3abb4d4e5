use Rattle.std.proofs.Common.{◌≡◌, ◌++◌, map, take}
use Rattle.cp_skel.specs.declared.vertex.Vertex.TheVariants.{Node}
use Rattle.cp_skel.proofs.order.push_nodes.Given as goal

abbrev pub invariant-loop-v : goal.invariant-loop-v
invariant-loop-v l = l.vertices.items ≡ l.initial.vertices.items ++ map Node (take l.v-index l.own)
