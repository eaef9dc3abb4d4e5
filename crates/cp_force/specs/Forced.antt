-- What is put into a tree that is forced to an order.
use Rattle.std.specs.Prelude.{◌≢◌, ◌<◌, ℕ, List, [], ◌∷◌, map}
use Rattle.std.specs.List.Sorted.{IsPermutation}
use Rattle.cp_lists.specs.CyclicLists.{Has, Distinct}
use Rattle.cp_pq.specs.declared.node.Node.{Node}
use Rattle.cp_pq.specs.declared.node.Node.TheVariants.{Leaf, Q}
use Rattle.cp_pq.specs.declared.hole.Hole.{Hole}
use Rattle.cp_pq.specs.declared.part.Part.{Part}
use Rattle.cp_pq.specs.Nodes.{leaves}
use Rattle.cp_pq.specs.Trees.{PQTree, IsWellFormed}
use Rattle.cp_pq.specs.Promises.{IsReduced}
use Rattle.cp_pq.specs.Holes.{IsTakenOut}

-- the one leaf, or a Q-node with the leaves of the order
abbrev pub forced_node : ℕ → List ℕ → Node
forced_node var (x ∷ []) = Leaf x
forced_node var row = Q var (map Leaf row)

-- an order of leaves of a tree, and a var of the tree
pub record IsOrderOf (order : List ℕ) (var : ℕ) (tree : PQTree) : Type 0 where
  pub formed : IsWellFormed tree
  pub not_empty : order ≢ []
  pub distinct : Distinct order
  pub leaves_of : (x : ℕ) → Has x order → Has x (leaves tree.body)
  pub var_within : var < tree.vars

-- the part and the hole of the leaves of an order, in the tree reduced by them
pub record IsOpened (order : List ℕ) (var : ℕ) (tree : PQTree) (hole : Hole) (part : Part) : Type 0 where
  pub order_of : IsOrderOf order var tree
  pub set : List ℕ
  pub set_is : IsPermutation set order
  pub reduced_tree : PQTree
  pub formed : IsWellFormed reduced_tree
  pub reduced : IsReduced set tree reduced_tree
  pub opened : IsTakenOut set reduced_tree hole part
