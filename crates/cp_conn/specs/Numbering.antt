-- Classes of a relation on numbers, numbered by their least members.
use Rattle.std.specs.Prelude.{◌≡◌, ℕ, ◌<◌, ◌≤◌, List, length, slice_index}
use Rattle.cp_lists.specs.Count.{IsCount}

-- l is the least number that R relates it to, so it stands for its class
abbrev pub IsLeast : (ℕ → ℕ → Type 0) → ℕ → Type 0
IsLeast R l = (y : ℕ) → R l y → l ≤ y

-- c is the number of the class of x: as many classes have a least member below that of the class of x
pub record HasNumber (R : ℕ → ℕ → Type 0) (x c : ℕ) : Type 0 where
  pub least : ℕ
  pub related : R least x
  pub leads : IsLeast R least
  pub counted : IsCount (IsLeast R) least c

-- the list gives each number below n the number of its class
pub record AreNumbered (R : ℕ → ℕ → Type 0) (n : ℕ) (numbers : List ℕ) : Type 0 where
  pub one_each : length numbers ≡ n
  pub by_least : (x : ℕ) → x < n → HasNumber R x (slice_index numbers x)
