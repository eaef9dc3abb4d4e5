-- Search trees of biconnected graphs, over the places of the vertices in the order in which a depth-first search met
-- them (Hopcroft, Tarjan 1973).
use Rattle.std.specs.Prelude.{◌≡◌, ℕ, ◌<◌, ◌⊎◌, true, List, length, slice_index}
use Rattle.cp_lists.specs.Count.{Exactly}
use Rattle.cp_conn.specs.CutVertex.{IsNeighbour}

-- the vertices at two places of the order are adjacent
abbrev pub AreJoinedAt : List (ℕ × ℕ) → List ℕ → ℕ → ℕ → Type 0
AreJoinedAt es order i j = IsNeighbour es (slice_index order i) (slice_index order j)

-- place j is that of a child of the vertex at place i, and both have one low point
abbrev pub PassesLow : List ℕ → List ℕ → ℕ → ℕ → Type 0
PassesLow up low i j = (i < j) × (slice_index up j ≡ i) × (slice_index low j ≡ slice_index low i)

-- each of two or more vertices stands once in the order; each but the first is adjacent to the one above it, which
-- stands before it; each from the third on has its low point before the vertex above it, and is adjacent to it or has
-- a child with that low point
pub record IsSearchTree (es : List (ℕ × ℕ)) (n : ℕ) (order up low : List ℕ) : Type 0 where
  pub two : 1 < n
  pub each_once : Exactly n (λ v. true) order
  pub order_size : length order ≡ n
  pub up_size : length up ≡ n
  pub low_size : length low ≡ n
  pub up_lower : (i : ℕ) → 0 < i → i < n → slice_index up i < i
  pub up_joined : (i : ℕ) → 0 < i → i < n → AreJoinedAt es order i (slice_index up i)
  pub second_low : slice_index low 1 ≡ 0
  pub low_lower : (i : ℕ) → 1 < i → i < n → slice_index low i < slice_index up i
  pub low_reached : (i : ℕ) → 1 < i → i < n → AreJoinedAt es order i (slice_index low i)
      ⊎ ((j : ℕ) × (j < n) × PassesLow up low i j)
