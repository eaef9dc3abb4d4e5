-- Marks, and the table of the next dart.
use Rattle.std.specs.Prelude.{◌≡◌, ℕ, ◌<◌, ◌==◌, Bool, true, false, List, length, slice_index, slice_index_or}
use Rattle.cp_rot.specs.Systems.{System, IsRotation, darts, next}

-- number x is marked
abbrev pub IsMarked : List Bool → ℕ → Type 0
IsMarked marks x = slice_index_or marks x false ≡ true

-- number x is not marked
abbrev pub IsUnmarked : List Bool → ℕ → Type 0
IsUnmarked marks x = slice_index_or marks x false ≡ false

-- the system with these vertices of darts and these lists, one vertex for each list
abbrev pub system_of : List ℕ → List (List ℕ) → System
system_of at lists = record { vertices = length lists; at = at; lists = lists }

-- the table tells the next dart of each dart of a rotation system
pub record IsStored (r : System) (table : List ℕ) : Type 0 where
  pub rotation : IsRotation r
  pub size : length table ≡ darts r
  pub told : (d : ℕ) → d < darts r → slice_index table d ≡ next r d

-- the test whether a dart stands at vertex v
abbrev pub stands_at : List ℕ → ℕ → ℕ → Bool
stands_at at v d = slice_index at d == v
