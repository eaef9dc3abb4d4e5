-- Nodes of order trees: their leaves, their vars and the nodes in them (Booth, Lueker 1976).
use Rattle.std.specs.Prelude.{◌≡◌, ℕ, Bool, true, ◌&&◌, nat_lt, length, List, [], ◌∷◌, ◌++◌}
use Rattle.std.specs.List.{flat_map, list_all}
use Rattle.cp_pq.specs.declared.node.Node.{Node}
use Rattle.cp_pq.specs.declared.node.Node.TheOpen.{Node-F}
use Rattle.cp_pq.specs.declared.node.Node.TheFolds.{fold-Node}
use Rattle.cp_pq.specs.declared.node.Node.TheVariants.{P, Q}

-- the leaves of a node, from those of its kids
abbrev pub leaves_step : Node-F (List ℕ) → List ℕ
leaves_step (Node-F.Leaf x) = x ∷ []
leaves_step (Node-F.P owner rows) = flat_map (λ row. row) rows
leaves_step (Node-F.Q var rows) = flat_map (λ row. row) rows

-- the leaves of a node, from left to right
unfoldable pub leaves : Node → List ℕ
leaves = fold-Node (List ℕ) leaves_step

-- the leaves of a row of nodes
unfoldable pub all_leaves : List Node → List ℕ
all_leaves row = flat_map leaves row

-- whether a node has at least two kids and its kids pass, or is a leaf
abbrev pub branching_step : Node-F Bool → Bool
branching_step (Node-F.Leaf x) = true
branching_step (Node-F.P owner kids) = nat_lt 1 (length kids) && list_all (λ b. b) kids
branching_step (Node-F.Q var kids) = nat_lt 1 (length kids) && list_all (λ b. b) kids

-- whether each inner node has at least two kids
unfoldable pub is_branching : Node → Bool
is_branching = fold-Node Bool branching_step

-- whether the var of a node is one of so many and its kids pass
abbrev pub below_step : ℕ → Node-F Bool → Bool
below_step vars (Node-F.Leaf x) = true
below_step vars (Node-F.P owner kids) = list_all (λ b. b) kids
below_step vars (Node-F.Q var kids) = nat_lt var vars && list_all (λ b. b) kids

-- whether each var of a node is one of so many
unfoldable pub has_vars_below : ℕ → Node → Bool
has_vars_below vars = fold-Node Bool (below_step vars)

-- k is one of the kids
abbrev pub IsKid : Node → List Node → Type 0
IsKid k kids = (before after : List Node) × (kids ≡ before ++ k ∷ after)

-- the first node is the second or stands in it
pub data IsIn (m : Node) : Node → Type 0 where
  itself : IsIn m m
  under_P : (owner : ℕ) (kids : List Node) (k : Node) → IsKid k kids → IsIn m k → IsIn m (P owner kids)
  under_Q : (var : ℕ) (kids : List Node) (k : Node) → IsKid k kids → IsIn m k → IsIn m (Q var kids)
