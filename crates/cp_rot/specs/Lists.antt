-- Lists of darts, taken vertex by vertex.
use Rattle.std.specs.Prelude.{ℕ, ◌<◌, List, [], length, slice_index_or}
use Rattle.cp_rot.specs.Systems.{Arranges}

-- vertex v has a list, of exactly its darts
abbrev pub HasList : List ℕ → List (List ℕ) → ℕ → Type 0
HasList at lists v = (v < length lists) × Arranges at v (slice_index_or lists v [])

-- the list of vertex v
abbrev pub list_at : List (List ℕ) → ℕ → List ℕ
list_at lists v = slice_index_or lists v []
