-- Bipolar orders, also called st-orders (Lempel, Even, Cederbaum 1967).
use Rattle.std.specs.Prelude.{◌≡◌, ℕ, ◌+◌, ◌-◌, ◌<◌, true, List, length, slice_index}
use Rattle.std.specs.List.{Contains}
use Rattle.cp_base.specs.Graphs.{PlainGraph}
use Rattle.cp_lists.specs.Count.{Exactly}
use Rattle.cp_orbits.specs.Connected.{Joins}
use Rattle.cp_conn.specs.Blocks.{AreInOneBlock, Touches}

-- all edges are in one block
abbrev pub IsOneBlock : List (ℕ × ℕ) → Type 0
IsOneBlock es = (e f : ℕ) → e < length es → f < length es → AreInOneBlock es e f

-- each of n vertices is an end of some edge
abbrev pub HaveEdges : ℕ → List (ℕ × ℕ) → Type 0
HaveEdges n es = (v : ℕ) → v < n → (e : ℕ) × (e < length es) × Touches es v e

-- some edge joins x and y
pub record AreAdjacent (es : List (ℕ × ℕ)) (x y : ℕ) : Type 0 where
  pub pair : ℕ × ℕ
  pub contained : Contains es pair
  pub joined : Joins pair x y

-- the order holds each vertex exactly once, s first and t last; each vertex between them is adjacent to one
-- that stands before it and to one that stands after it
pub record IsBipolar (g : PlainGraph) (s t : ℕ) (order : List ℕ) : Type 0 where
  pub each_once : Exactly g.vertices (λ v. true) order
  pub first : slice_index order 0 ≡ s
  pub last : slice_index order (length order - 1) ≡ t
  pub before : (i : ℕ) → 0 < i → i + 1 < length order
      → (j : ℕ) × (j < i) × AreAdjacent g.ends (slice_index order i) (slice_index order j)
  pub after : (i : ℕ) → 0 < i → i + 1 < length order
      → (j : ℕ) × (i < j) × (j < length order) × AreAdjacent g.ends (slice_index order i) (slice_index order j)
