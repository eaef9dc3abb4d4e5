-- Trees with a hole, where a part was taken out.
use Rattle.std.specs.Prelude.{◌≡◌, ◌≤◌, ℕ, Option, Some, None, length, List, [], ◌∷◌, ◌++◌}
use Rattle.std.specs.List.Sorted.{IsPermutation}
use Rattle.cp_pq.specs.declared.node.Node.{Node}
use Rattle.cp_pq.specs.declared.frame.Label.{Label}
use Rattle.cp_pq.specs.declared.frame.Frame.{Frame}
use Rattle.cp_pq.specs.declared.hole.Hole.{Hole}
use Rattle.cp_pq.specs.declared.part.Part.{Part}
use Rattle.cp_pq.specs.Nodes.{all_leaves}
use Rattle.cp_pq.specs.Trees.{PQTree}
use Rattle.cp_pq.specs.Orders.{outside}
use Rattle.cp_pq.specs.Frames.{fill, AreOutside}

-- the innermost frame is a Q-node with this var, and something stands beside the hole
abbrev pub IsInQ : ℕ → List Frame → Type 0
IsInQ v [] = ⊥
IsInQ v (f ∷ fs) = (f.label ≡ Label.Q v) × (1 ≤ length (f.before ++ f.after))

-- a part and its hole: one node, or two or more but not all of the kids of a Q-node with this var
abbrev pub IsPartAt : List Frame → Option ℕ → List Node → Type 0
IsPartAt frames None kids = (kid : Node) × (kids ≡ kid ∷ [])
IsPartAt frames (Some v) kids = (2 ≤ length kids) × IsInQ v frames

-- the tree is the hole filled with the part, whose leaves are those of the set
pub record IsTakenOut (set : List ℕ) (tree : PQTree) (hole : Hole) (part : Part) : Type 0 where
  pub root_is : hole.root ≡ tree.root
  pub vars_are : hole.vars ≡ tree.vars
  pub equations_are : hole.equations ≡ tree.equations
  pub body_is : tree.body ∷ [] ≡ fill hole.frames part.kids
  pub beside : AreOutside (outside set) hole.frames
  pub set_is : IsPermutation set (all_leaves part.kids)
  pub part_is : IsPartAt hole.frames part.var part.kids
