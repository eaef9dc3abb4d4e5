-- Trees that are one P-node of leaves.
use Rattle.std.specs.Prelude.{◌≡◌, ℕ, Bool, true, false, List, map}
use Rattle.cp_pq.specs.declared.node.Node.{Node}
use Rattle.cp_pq.specs.declared.node.Node.TheOpen.{Node-F}
use Rattle.cp_pq.specs.declared.node.Node.TheFolds.{fold-Node}
use Rattle.cp_pq.specs.declared.node.Node.TheVariants.{Leaf, P}
use Rattle.cp_pq.specs.Trees.{PQTree}

-- the body is one P-node with this owner, whose kids are all leaves
abbrev pub IsSoleP : PQTree → ℕ → Type 0
IsSoleP tree owner = (xs : List ℕ) × (tree.body ≡ P owner (map Leaf xs))

-- whether the layer is a leaf
abbrev pub leaf_step : Node-F Bool → Bool
leaf_step (Node-F.Leaf x) = true
leaf_step (Node-F.P owner kids) = false
leaf_step (Node-F.Q var kids) = false

-- whether a node is a leaf
unfoldable pub is_leaf : Node → Bool
is_leaf = fold-Node Bool leaf_step
