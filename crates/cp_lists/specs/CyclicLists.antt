-- Lists that are meant up to turning: the item behind another, and distinct items, by recursion.
use Rattle.std.specs.Prelude.{◌≡◌, ◌≢◌, ◌⊎◌, ℕ, eqb, cond, not, List, [], ◌∷◌}
use Rattle.std.specs.List.{filter}

-- d is an item of the list
abbrev pub Has : ℕ → List ℕ → Type 0
Has d [] = ⊥
Has d (x ∷ xs) = (x ≡ d) ⊎ Has d xs

-- d is no item of the list
abbrev pub Lacks : ℕ → List ℕ → Type 0
Lacks d [] = Unit {0}
Lacks d (x ∷ xs) = (x ≢ d) × Lacks d xs

-- no two items are equal
abbrev pub Distinct : List ℕ → Type 0
Distinct [] = Unit {0}
Distinct (x ∷ xs) = Lacks x xs × Distinct xs

-- the list without z
abbrev pub but : ℕ → List ℕ → List ℕ
but z xs = filter (λ x. not (eqb x z)) xs

-- the first item, or d if there is none
abbrev pub head_or : ℕ → List ℕ → ℕ
head_or d [] = d
head_or d (x ∷ xs) = x

-- the item behind d, and first where d is the last
abbrev pub next_from : ℕ → List ℕ → ℕ → ℕ
next_from first [] d = first
next_from first (x ∷ xs) d = cond (eqb x d) (head_or first xs) (next_from first xs d)

-- the item behind d in a cyclic list: behind the last comes the first
abbrev pub follow : List ℕ → ℕ → ℕ
follow xs d = next_from (head_or 0 xs) xs d

-- m has behind a what was behind b in ys, behind b what was behind a in xs, and behind all others what was there
pub record MergesAt (xs ys m : List ℕ) (a b : ℕ) : Type 0 where
  pub behind_first : follow m a ≡ follow ys b
  pub behind_second : follow m b ≡ follow xs a
  pub in_first : (d : ℕ) → Has d xs → d ≢ a → follow m d ≡ follow xs d
  pub in_second : (d : ℕ) → Has d ys → d ≢ b → follow m d ≡ follow ys d
