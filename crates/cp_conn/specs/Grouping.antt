-- Numbers that are put into parts by a key.
use Rattle.std.specs.Prelude.{◌≡◌, ℕ, suc, ◌+◌, ◌<◌, ◌⊎◌, Bool, true, ◌||◌, eqb, cond, List, length, slice_index, slice_index_or, slice_set, [], ◌∷◌, ◌++◌}
use Rattle.std.specs.List.{Contains}

-- the edge touches v
abbrev pub touches : List (ℕ × ℕ) → ℕ → ℕ → Bool
touches es v e = eqb (slice_index_or es e (0, 0)).0 v || eqb (slice_index_or es e (0, 0)).1 v

-- the end of the edge that is not v
abbrev pub other_end : List (ℕ × ℕ) → ℕ → ℕ → ℕ
other_end es v e =
    cond (eqb (slice_index_or es e (0, 0)).0 v) (slice_index_or es e (0, 0)).1 (slice_index_or es e (0, 0)).0

-- what the list tells of the end of the edge that is not v
abbrev pub key_of : List (ℕ × ℕ) → ℕ → List ℕ → ℕ → ℕ
key_of es v least e = slice_index least (other_end es v e)

-- a rising list, not empty, of numbers below bound that pass and have one key
pub record IsPart (p : ℕ → Bool) (key : ℕ → ℕ) (bound : ℕ) (part : List ℕ) : Type 0 where
  pub member : (k : ℕ) → k < length part
      → (slice_index part k < bound) × (p (slice_index part k) ≡ true)
      × (key (slice_index part k) ≡ key (slice_index part 0))
  pub rising : (k l : ℕ) → k < l → l < length part → slice_index part k < slice_index part l
  pub filled : 0 < length part

-- the numbers below bound that pass, in parts of one key each, by their first items
pub record AreGrouped (p : ℕ → Bool) (key : ℕ → ℕ) (bound : ℕ) (parts : List (List ℕ)) : Type 0 where
  pub each : (i : ℕ) → i < length parts → IsPart p key bound (slice_index_or parts i [])
  pub all : (e : ℕ) → e < bound → p e ≡ true → (i : ℕ) × (i < length parts) × Contains (slice_index_or parts i []) e
  pub apart : (i j : ℕ) → i < length parts → j < length parts
      → key (slice_index (slice_index_or parts i []) 0) ≡ key (slice_index (slice_index_or parts j []) 0) → i ≡ j
  pub by_least : (i j : ℕ) → i < j → j < length parts
      → slice_index (slice_index_or parts i []) 0 < slice_index (slice_index_or parts j []) 0

-- for each key below n the table tells one more than the place of its part, or 0 where there is none
pub record IsPlaced (key : ℕ → ℕ) (n : ℕ) (parts : List (List ℕ)) (places : List ℕ) : Type 0 where
  pub size : length places ≡ n
  pub none : (l : ℕ) → l < n → slice_index places l ≡ 0 → (i : ℕ) → i < length parts
      → key (slice_index (slice_index_or parts i []) 0) ≡ l → ⊥
  pub some : (l k : ℕ) → l < n → slice_index places l ≡ suc k
      → (k < length parts) × (key (slice_index (slice_index_or parts k []) 0) ≡ l)

-- e is put into the part of the key, a new one where there is none
abbrev pub IsPut : ℕ → ℕ → List (List ℕ) → List ℕ → List (List ℕ) → List ℕ → Type 0
IsPut e l parts places more moved =
    ((slice_index places l ≡ 0) × (more ≡ parts ++ (e ∷ []) ∷ []) × (moved ≡ slice_set places l (length parts + 1)))
    ⊎ ((k : ℕ) × (slice_index places l ≡ suc k)
    × (more ≡ slice_set parts k (slice_index_or parts k [] ++ e ∷ [])) × (moved ≡ places))
