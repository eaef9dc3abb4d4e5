-- What becomes of the node that holds a whole set, when the set is to be consecutive.
use Rattle.std.specs.Prelude.{◌≡◌, ℕ, ◌<◌, Bool, true, false, List, [], ◌∷◌}
use Rattle.std.specs.List.{list_any}
use Rattle.cp_pq.specs.declared.node.Node.{Node}
use Rattle.cp_pq.specs.declared.node.Node.TheVariants.{P, Q}
use Rattle.cp_pq.specs.declared.found.Found.{Found}
use Rattle.cp_pq.specs.declared.change.Change.{Change}
use Rattle.cp_pq.specs.Nodes.{has_vars_below}
use Rattle.cp_pq.specs.Words.{together, Licensed, IsNever}
use Rattle.cp_pq.specs.Changes.{IsDone}
use Rattle.cp_pq.specs.Keeping.{any_bound, Keeps}
use Rattle.cp_pq.specs.Founds.{is_torn, flat_line}
use Rattle.cp_pq.specs.Grants.{Grants}

-- a P-node with the kids c becomes a Q-node with the var y over the line of the row
pub record IsCore (q p : ℕ → Bool) (y o : ℕ) (c : List Node) (row : List Found) : Type 0 where
  pub done : IsDone q p false y (λ may. Grants may row) (P o c) (Q y (flat_line row))
  pub keeps : list_any is_torn row ≡ false → Keeps (λ n. y < n) (P o c ∷ []) (Q y (flat_line row) ∷ [])

-- what is said of a change of a node in a tree with so many vars
abbrev pub IsChange : (ℕ → Bool) → (ℕ → Bool) → ℕ → Node → Change → Type 0
IsChange q p vars k (Change.Kept m) = ((y : ℕ) → IsDone q p false y (λ may. Unit {0}) k m) × Keeps any_bound (k ∷ []) (m ∷ [])
IsChange q p vars k (Change.Old m y ties) = IsDone q p true y (λ may. Licensed false may ties) k m
    × Keeps any_bound (k ∷ []) (m ∷ []) × ((n : ℕ) → has_vars_below n k ≡ true → y < n)
IsChange q p vars k (Change.New m ties) = IsDone q p false vars (λ may. Licensed false may ties) k m
    × Keeps (λ n. vars < n) (k ∷ []) (m ∷ [])
IsChange q p vars k Change.Never = IsNever (together q p) (k ∷ [])
