-- Graphs with some vertices removed.
use Rattle.std.specs.Prelude.{ℕ, Bool, false, not, ◌&&◌, List, filter, slice_index_or}

-- neither end of the pair is removed
abbrev pub is_left : List Bool → ℕ × ℕ → Bool
is_left removed e = not (slice_index_or removed e.0 false) && not (slice_index_or removed e.1 false)

-- the pairs that touch no removed vertex: what is left of a graph
abbrev pub without_removed : List Bool → List (ℕ × ℕ) → List (ℕ × ℕ)
without_removed removed es = filter (is_left removed) es
