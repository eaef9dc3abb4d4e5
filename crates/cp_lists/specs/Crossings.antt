-- Items that stand crosswise in a cyclic list.
use Rattle.std.specs.Prelude.{◌≡◌, ℕ, ◌⊎◌, Bool, true, List, [], ◌∷◌}
use Rattle.cp_lists.specs.Turns.{IsTurn}

-- the items stand in the list in this order
abbrev pub InOrder : List ℕ → List ℕ → Type 0
InOrder [] xs = Unit {0}
InOrder (w ∷ ws) [] = ⊥
InOrder (w ∷ ws) (x ∷ xs) = ((x ≡ w) × InOrder ws xs) ⊎ InOrder (w ∷ ws) xs

-- in the cyclic list stand, in this order, an item that passes p, one that passes q, one that passes p, and one that
-- passes q
pub record Crosses (p q : ℕ → Bool) (xs : List ℕ) : Type 0 where
  pub first : ℕ
  pub second : ℕ
  pub third : ℕ
  pub fourth : ℕ
  pub turned : List ℕ
  pub turn : IsTurn xs turned
  pub order : InOrder (first ∷ second ∷ third ∷ fourth ∷ []) turned
  pub first_passes : p first ≡ true
  pub second_passes : q second ≡ true
  pub third_passes : p third ≡ true
  pub fourth_passes : q fourth ≡ true

-- no two classes of items stand crosswise
abbrev pub NoCross : (ℕ → ℕ) → List ℕ → Type 0
NoCross class xs = (w x y z : ℕ) → InOrder (w ∷ x ∷ y ∷ z ∷ []) xs → class w ≡ class y → class x ≡ class z → class w ≡ class x
