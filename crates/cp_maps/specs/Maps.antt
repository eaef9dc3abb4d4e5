-- Maps of darts on a fixed stock of edges: edge i has the darts 2i and 2i + 1, a permutation leads from each dart to
-- the dart behind it, and a dart that is not used is loose: it stays.
use Rattle.std.specs.Prelude.{◌≡◌, ℕ, ◌<◌, false, ◌||◌, eqb, List, [], ◌∷◌, Bool, cond}
use Rattle.cp_lists.specs.CyclicLists.{Distinct, Has, Lacks, follow}
use Rattle.cp_lists.specs.Rows.{flat}
use Rattle.cp_orbits.specs.Orbits.{exchange}

-- f, with what leads to a and what leads to b exchanged
abbrev pub swapped : ℕ → ℕ → (ℕ → ℕ) → ℕ → ℕ
swapped a b f d = exchange a b (f d)

-- the darts of the list follow each other in a circle
pub record Ring (f : ℕ → ℕ) (xs : List ℕ) : Type 0 where
  pub distinct : Distinct xs
  pub along : (d : ℕ) → Has d xs → f d ≡ follow xs d

-- each list is a ring
abbrev pub Rings : (ℕ → ℕ) → List (List ℕ) → Type 0
Rings f [] = Unit {0}
Rings f (xs ∷ rows) = Ring f xs × Rings f rows

-- each item is below n
abbrev pub Below : ℕ → List ℕ → Type 0
Below n [] = Unit {0}
Below n (x ∷ xs) = (x < n) × Below n xs

-- f is the map of n darts with these lists: no dart stands twice, each list is a ring, and all other darts are loose
pub record IsMapOf (n : ℕ) (f : ℕ → ℕ) (rows : List (List ℕ)) : Type 0 where
  pub once : Distinct (flat rows)
  pub below : Below n (flat rows)
  pub rings : Rings f rows
  pub loose : (d : ℕ) → d < n → Lacks d (flat rows) → f d ≡ d

-- the test whether d is an item of the list
abbrev pub has : ℕ → List ℕ → Bool
has d [] = false
has d (x ∷ xs) = eqb x d || has d xs

-- the map made of lists: the dart behind d in its list, and d itself where it is in none
abbrev pub next_by : List (List ℕ) → ℕ → ℕ
next_by [] d = d
next_by (xs ∷ rows) d = cond (has d xs) (follow xs d) (next_by rows d)

-- f at the darts that pass the test, and all others loose
abbrev pub only : (ℕ → Bool) → (ℕ → ℕ) → ℕ → ℕ
only p f d = cond (p d) (f d) d

-- the lists are the same up to turns, order and bare vertices: each map with the first ones has the second ones
abbrev pub SameRings : ℕ → List (List ℕ) → List (List ℕ) → Type 0
SameRings n rows others = (f : ℕ → ℕ) → IsMapOf n f rows → IsMapOf n f others
