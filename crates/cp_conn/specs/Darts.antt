-- Darts: an edge in one of its two directions. Edge e has the darts 2 e, from its first end to its second, and 2 e + 1.
use Rattle.std.specs.Prelude.{◌≡◌, ℕ, suc, ◌/◌, ◌%◌, ◌<◌, ◌≤◌, cond, eqb, List, length, slice_index, slice_index_or}

-- the vertex that dart d starts at
abbrev pub start : List (ℕ × ℕ) → ℕ → ℕ
start ends d = cond (eqb (d % 2) 0) (slice_index_or ends (d / 2) (0, 0)).0 (slice_index_or ends (d / 2) (0, 0)).1

-- the vertex that dart d ends at
abbrev pub finish : List (ℕ × ℕ) → ℕ → ℕ
finish ends d = cond (eqb (d % 2) 0) (slice_index_or ends (d / 2) (0, 0)).1 (slice_index_or ends (d / 2) (0, 0)).0

-- entry is one more than the highest dart below bound that starts at v, or 0 where there is none
pub record IsEntry (ends : List (ℕ × ℕ)) (v bound entry : ℕ) : Type 0 where
  pub below : entry ≤ bound
  pub starts : (d : ℕ) → suc d ≡ entry → start ends d ≡ v
  pub highest : (d : ℕ) → entry ≤ d → d < bound → start ends d ≡ v → ⊥

-- the darts below bound are chained by their start vertices: from the entry of a vertex, and from each of its darts to
-- the next lower
pub record AreChained (vertices : ℕ) (ends : List (ℕ × ℕ)) (bound : ℕ) (entries lower : List ℕ) : Type 0 where
  pub entry_each : length entries ≡ vertices
  pub lower_each : length lower ≡ bound
  pub entry_of : (v : ℕ) → v < vertices → IsEntry ends v bound (slice_index entries v)
  pub lower_of : (d : ℕ) → d < bound → IsEntry ends (start ends d) d (slice_index lower d)
