-- Orders of leaves: sets that are consecutive in them, and rows that stand in them.
use Rattle.std.specs.Prelude.{◌≡◌, ℕ, Bool, true, not, eqb, List, ◌++◌}
use Rattle.std.specs.List.{list_all, list_any}

-- whether a leaf is in the set
abbrev pub inside : List ℕ → ℕ → Bool
inside set x = list_any (λ y. eqb y x) set

-- whether a leaf is not in the set
abbrev pub outside : List ℕ → ℕ → Bool
outside set x = not (inside set x)

-- the set is consecutive in the order: before and after one run of leaves of the set there are none
pub record IsConsecutive (set order : List ℕ) : Type 0 where
  pub before : List ℕ
  pub run : List ℕ
  pub after : List ℕ
  pub order_is : order ≡ before ++ (run ++ after)
  pub none_before : list_all (outside set) before ≡ true
  pub all_inside : list_all (inside set) run ≡ true
  pub none_after : list_all (outside set) after ≡ true

-- the row stands in the order, from left to right and without a gap
abbrev pub HasRow : List ℕ → List ℕ → Type 0
HasRow row order = (before after : List ℕ) × (order ≡ before ++ (row ++ after))
