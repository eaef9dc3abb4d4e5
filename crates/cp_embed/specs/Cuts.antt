-- Cyclic lists cut into the items that pass a test and then the others.
use Rattle.std.specs.Prelude.{◌≡◌, ℕ, ◌-◌, ◌<◌, Bool, true, false, List, ◌++◌, length, slice_index}
use Rattle.cp_lists.specs.CyclicLists.{Has}
use Rattle.cp_lists.specs.Turns.{IsTurn}

-- the cyclic list is first and then second, and exactly the items of first pass
pub record IsCut (p : ℕ → Bool) (list first second : List ℕ) : Type 0 where
  pub turn : IsTurn list (first ++ second)
  pub first_passes : (k : ℕ) → Has k first → p k ≡ true
  pub second_fails : (k : ℕ) → Has k second → p k ≡ false

-- at place i an item that passes stands behind one that fails
pub record IsRise (p : ℕ → Bool) (list : List ℕ) (i : ℕ) : Type 0 where
  pub within : i < length list
  pub passes : p (slice_index list i) ≡ true
  pub fails : p (slice_index list (i - 1)) ≡ false

-- at none of the places from 1 on and below the bound an item that passes stands behind one that fails
abbrev pub HasNoRise : (ℕ → Bool) → List ℕ → ℕ → Type 0
HasNoRise p list bound =
    (i : ℕ) → 0 < i → i < bound → p (slice_index list i) ≡ true → p (slice_index list (i - 1)) ≡ true
