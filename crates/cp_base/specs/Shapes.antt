-- Shapes of order trees (Booth, Lueker 1976).
use Rattle.std.specs.Prelude.{◌≡◌, ℕ, Bool, true, ◌&&◌, leb, List, [], ◌∷◌, ◌++◌, length, map, reverse}
use Rattle.std.specs.List.{flat_map, list_all}
use Rattle.std.specs.List.Sorted.{IsPermutation}
use Rattle.cp_lists.specs.Turns.{IsTurn}
use Rattle.cp_base.specs.declared.shape.Branch.{Branch}
use Rattle.cp_base.specs.declared.shape.Branch.TheVariants.{Leaf, P, Q}
use Rattle.cp_base.specs.declared.shape.Branch.TheOpen.{Branch-F}
use Rattle.cp_base.specs.declared.shape.Branch.TheFolds.{fold-Branch}
use Rattle.cp_base.specs.declared.shape.Shape.{Shape}

-- a reading of a branch: of a leaf the leaf, of a P-node readings of its kids in any order, of a Q-node
-- readings of its kids in the given order or its reverse
mutual
  pub data Reads : Branch → List ℕ → Type 0 where
    leaf : (x : ℕ) → Reads (Leaf x) (x ∷ [])
    any_order : (kids order : List Branch) (xs : List ℕ)
        → IsPermutation kids order
        → ReadsAll order xs
        → Reads (P kids) xs
    forward : (kids : List Branch) (xs : List ℕ) → ReadsAll kids xs → Reads (Q kids) xs
    backward : (kids : List Branch) (xs : List ℕ) → ReadsAll (reverse kids) xs → Reads (Q kids) xs

  pub data ReadsAll : List Branch → List ℕ → Type 0 where
    none : ReadsAll [] []
    more : (k : Branch) (ks : List Branch) (xs ys : List ℕ)
        → Reads k xs
        → ReadsAll ks ys
        → ReadsAll (k ∷ ks) (xs ++ ys)

-- the shape admits a cyclic order: it is the root followed by a reading of the body
pub record Admits (shape : Shape) (order : List ℕ) : Type 0 where
  pub word : List ℕ
  pub reads : Reads shape.body word
  pub turn : IsTurn (shape.root ∷ word) order

-- the leaves of a branch, from left to right
abbrev pub leaves_step : Branch-F (List ℕ) → List ℕ
leaves_step (Branch-F.Leaf x) = x ∷ []
leaves_step (Branch-F.P kids) = flat_map (λ ls. ls) kids
leaves_step (Branch-F.Q kids) = flat_map (λ ls. ls) kids

-- the leaves of a branch, from left to right
unfoldable pub leaves : Branch → List ℕ
leaves = fold-Branch (List ℕ) leaves_step

-- each inner node has at least two kids
abbrev pub branches_step : Branch-F Bool → Bool
branches_step (Branch-F.Leaf x) = true
branches_step (Branch-F.P kids) = leb 2 (length kids) && list_all (λ b. b) kids
branches_step (Branch-F.Q kids) = leb 2 (length kids) && list_all (λ b. b) kids

-- each inner node of a branch has at least two kids
unfoldable pub branches : Branch → Bool
branches = fold-Branch Bool branches_step

-- the branch is one P-node whose kids are leaves
abbrev pub IsStar : Branch → Type 0
IsStar body = (xs : List ℕ) × (body ≡ P (map Leaf xs))
