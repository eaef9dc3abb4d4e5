-- What a row of nodes keeps when it takes the place of another: leaves, two kids at inner nodes, vars, owners.
use Rattle.std.specs.Prelude.{◌≡◌, ℕ, true, List}
use Rattle.std.specs.List.{list_all}
use Rattle.std.specs.List.Sorted.{IsPermutation}
use Rattle.cp_lists.specs.CyclicLists.{Distinct}
use Rattle.cp_pq.specs.declared.node.Node.{Node}
use Rattle.cp_pq.specs.declared.node.Node.TheVariants.{P}
use Rattle.cp_pq.specs.Nodes.{all_leaves, is_branching, has_vars_below, IsKid, IsIn}
use Rattle.cp_pq.specs.Owners.{Fits}

-- the node stands in the row
abbrev pub IsInRow : Node → List Node → Type 0
IsInRow m row = (k : Node) × IsKid k row × IsIn m k

-- each P-node in the new row has a fitting P-node with its owner in the old row
abbrev pub RowKeepsOwners : List Node → List Node → Type 0
RowKeepsOwners old new = (owner : ℕ) (kids : List Node) → IsInRow (P owner kids) new
    → (old_kids : List Node) × IsInRow (P owner old_kids) old × Fits old_kids kids

-- no condition on a number of vars
abbrev pub any_bound : ℕ → Type 0
any_bound n = Unit {0}

-- the new row has the leaves of the old one, and branches and keeps owners where the old one does; where the vars of the
-- old one are among so many, and this number meets a condition, those of the new one are too
pub record Keeps (on_bound : ℕ → Type 0) (old new : List Node) : Type 0 where
  pub leaves_kept : IsPermutation (all_leaves old) (all_leaves new)
  pub branching : list_all is_branching old ≡ true → list_all is_branching new ≡ true
  pub vars_below : (vars : ℕ) → on_bound vars → list_all (has_vars_below vars) old ≡ true
      → list_all (has_vars_below vars) new ≡ true
  pub owners : Distinct (all_leaves old) → RowKeepsOwners old new
