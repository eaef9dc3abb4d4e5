-- Plain graphs.
use Rattle.std.specs.Prelude.{ℕ, ◌<◌, List, length, slice_index_or}

-- a number of vertices, and the two ends of each edge
pub record PlainGraph : Type 0 where
  pub vertices : ℕ
  pub ends : List (ℕ × ℕ)

-- each end of an edge is one of so many vertices
abbrev pub AreWithin : ℕ → List (ℕ × ℕ) → Type 0
AreWithin vertices ends = (e : ℕ) → e < length ends → ((slice_index_or ends e (0, 0)).0 < vertices) × ((slice_index_or ends e (0, 0)).1 < vertices)
