-- One merge of two vertices of a side.
use Rattle.std.specs.Prelude.{◌≡◌, ℕ, ◌⊎◌, List, ◌∷◌, ◌++◌, Bool, true, false}
use Rattle.cp_lists.specs.Turns.{IsTurn}
use Rattle.cp_maps.specs.Genus.{Becomes}

-- the two lists, each turned, can be put one behind the other: the genus stays
abbrev pub CanMerge : ℕ → (ℕ → ℕ) → List ℕ → List ℕ → List (List ℕ) → Type 0
CanMerge e f xs ys rows =
    (us : List ℕ) × (vs : List ℕ) × IsTurn xs us × IsTurn ys vs × Becomes e f ((us ++ vs) ∷ rows)

-- one of the lists, with those before and behind it, has the property
pub record Among (rows : List (List ℕ)) (good : List ℕ → Type 0) : Type 0 where
  pub before : List (List ℕ)
  pub row : List ℕ
  pub behind : List (List ℕ)
  pub whole : rows ≡ before ++ row ∷ behind
  pub fine : good row

-- two items of the list that follow each other, of which the test passes just one
pub record Changes (p : ℕ → Bool) (xs : List ℕ) : Type 0 where
  pub front : List ℕ
  pub x : ℕ
  pub y : ℕ
  pub behind : List ℕ
  pub whole : xs ≡ front ++ x ∷ y ∷ behind
  pub differ : ((p x ≡ true) × (p y ≡ false)) ⊎ ((p x ≡ false) × (p y ≡ true))

-- a list of the side can be merged with the first one
pub record NextMerge (e : ℕ) (f : ℕ → ℕ) (first : List ℕ) (side others : List (List ℕ)) : Type 0 where
  pub before : List (List ℕ)
  pub row : List ℕ
  pub behind : List (List ℕ)
  pub whole : side ≡ before ++ row ∷ behind
  pub merge : CanMerge e f first row ((before ++ behind) ++ others)
