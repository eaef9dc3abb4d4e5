-- The leaves so far.
use Rattle.std.proofs.Common.{◌≡◌, map, take}
use Rattle.cp_pq.specs.declared.node.Node.TheVariants.{Leaf}
use Rattle.cp_embed.proofs.nodes.leaf_nodes.Given as goal

abbrev pub invariant-loop-leaf : goal.invariant-loop-leaf
invariant-loop-leaf l = l.row ≡ map Leaf (take l.leaf-index l.leaves)
