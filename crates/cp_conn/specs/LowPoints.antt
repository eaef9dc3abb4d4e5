-- The low points of the vertices of a search forest (Hopcroft, Tarjan 1973).
use Rattle.std.specs.Prelude.{◌≡◌, ℕ, ◌*◌, ◌<◌, ◌≤◌, List, length, slice_index}
use Rattle.cp_conn.specs.Darts.{start, finish}
use Rattle.cp_conn.specs.SearchForest.{Forest, Above}

-- some edge leads to number k from v or from a vertex below it
abbrev pub IsReached : List (ℕ × ℕ) → Forest → ℕ → ℕ → Type 0
IsReached es forest v k =
    (d : ℕ) × (d < 2 * length es) × Above forest v (start es d) × (slice_index forest.number (finish es d) ≡ k)

-- low points: from a vertex or from one below it no edge leads to a lower number than its low point,
-- and some edge leads to that where it is lower than the vertex
pub record AreLowPoints (es : List (ℕ × ℕ)) (n : ℕ) (forest : Forest) (low : List ℕ) : Type 0 where
  pub each : length low ≡ n
  pub darts : (d : ℕ) → d < 2 * length es → slice_index low (start es d) ≤ slice_index forest.number (finish es d)
  pub rises : (v : ℕ) → v < n → slice_index low (slice_index forest.parent v) ≤ slice_index low v
  pub reached : (v : ℕ) → v < n → slice_index low v < slice_index forest.number v
      → IsReached es forest v (slice_index low v)

-- each low point that is lower than its vertex is reached
pub record AreReached (es : List (ℕ × ℕ)) (n : ℕ) (forest : Forest) (low : List ℕ) : Type 0 where
  pub each : length low ≡ n
  pub reached : (v : ℕ) → v < n → slice_index low v < slice_index forest.number v
      → IsReached es forest v (slice_index low v)

-- the first darts lead to no lower number than the low point of their vertex
abbrev pub AreLow : List (ℕ × ℕ) → Forest → List ℕ → ℕ → Type 0
AreLow es forest low darts =
    (d : ℕ) → d < darts → slice_index low (start es d) ≤ slice_index forest.number (finish es d)
