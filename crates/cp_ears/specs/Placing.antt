-- Places that the vertices of a search tree get in a bipolar order, the parents first (Tarjan 1986).
use Rattle.std.specs.Prelude.{◌≡◌, ◌≢◌, ℕ, zero, suc, ◌+◌, ◌<◌, ◌≤◌, ◌⊎◌, eqb, cond, List, length, slice_index}

-- each of n vertices but the first has its parent before it, and each from the third on its low point before its parent
pub record IsTree (n : ℕ) (up low : List ℕ) : Type 0 where
  pub up_size : length up ≡ n
  pub low_size : length low ≡ n
  pub up_lower : (i : ℕ) → 0 < i → i < n → slice_index up i < i
  pub second_low : slice_index low 1 ≡ 0
  pub low_lower : (i : ℕ) → 1 < i → i < n → slice_index low i < slice_index up i

-- each vertex has a place of its own, from the place of the first vertex, 0, to that of the second;
-- each other vertex stands between its low point and its parent
pub record ArePlaces (n : ℕ) (up low places : List ℕ) : Type 0 where
  pub size : length places ≡ n
  pub within : (x : ℕ) → x < n → slice_index places x < n
  pub apart : (x y : ℕ) → x < n → y < n → slice_index places x ≡ slice_index places y → x ≡ y
  pub first : slice_index places 0 ≡ 0
  pub last : slice_index places 1 + 1 ≡ n
  pub between : (x : ℕ) → 1 < x → x < n
      → ((slice_index places (slice_index low x) < slice_index places x)
      × (slice_index places x < slice_index places (slice_index up x)))
      ⊎ ((slice_index places (slice_index up x) < slice_index places x)
      × (slice_index places x < slice_index places (slice_index low x)))

-- how much room the children of p have, of so many vertices from k on
abbrev pub children_from : List ℕ → List ℕ → ℕ → ℕ → ℕ → ℕ
children_from up room p k zero = 0
children_from up room p k (suc more) =
    cond (eqb (slice_index up k) p) (slice_index room k) 0 + children_from up room p (suc k) more

-- how much room the first k vertices have
abbrev pub total : List ℕ → ℕ → ℕ
total room zero = 0
total room (suc k) = slice_index room k + total room k

-- each vertex has room for itself and for those of its children that are among the vertices from k on
pub record HaveRoom (n : ℕ) (up room : List ℕ) (k : ℕ) : Type 0 where
  pub size : length room ≡ n
  pub each : (p more : ℕ) → p < n → k + more ≡ n → slice_index room p ≡ 1 + children_from up room p k more

-- the same, and the first k vertices have all the room
pub record ShareRoom (n : ℕ) (up room : List ℕ) (k : ℕ) : Type 0 where
  pub have : HaveRoom n up room k
  pub whole : total room k ≡ n

-- the room of x ends before that of y
abbrev pub IsBefore : List ℕ → List ℕ → ℕ → ℕ → Type 0
IsBefore places room x y = slice_index places x + slice_index room x ≤ slice_index places y

-- the first k vertices have their room apart from one another, each from its place on; it is still for their further
-- children too
pub record IsPlacing (n : ℕ) (up low places room : List ℕ) (k : ℕ) : Type 0 where
  pub size : length places ≡ n
  pub have : HaveRoom n up room k
  pub within : (x : ℕ) → x < k → slice_index places x + slice_index room x ≤ n
  pub apart : (x y : ℕ) → x < k → y < k → x ≢ y → IsBefore places room x y ⊎ IsBefore places room y x
  pub between : (x : ℕ) → 1 < x → x < k
      → (IsBefore places room (slice_index low x) x × IsBefore places room x (slice_index up x))
      ⊎ (IsBefore places room (slice_index up x) x × IsBefore places room x (slice_index low x))
  pub first : slice_index places 0 ≡ 0
  pub alone : k ≡ 1 → slice_index room 0 ≡ n
  pub last : 1 < k → slice_index places 1 + slice_index room 1 ≡ n

-- so many items, each put at its place
pub record StandAt (items places order : List ℕ) (count : ℕ) : Type 0 where
  pub size : length order ≡ length items
  pub each : (i : ℕ) → i < count → slice_index order (slice_index places i) ≡ slice_index items i
