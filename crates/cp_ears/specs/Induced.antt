-- Graphs that some of the vertices induce.
use Rattle.std.specs.Prelude.{ℕ, ◌<◌, Bool, false, ◌||◌, ◌&&◌, eqb, List, [], ◌∷◌, length, slice_index, filter}
use Rattle.cp_orbits.specs.Connected.{Connected}

-- x is one of the items
abbrev pub is_item : List ℕ → ℕ → Bool
is_item [] x = false
is_item (y ∷ ys) x = eqb y x || is_item ys x

-- the edges that have both ends among the vertices
abbrev pub induced : List ℕ → List (ℕ × ℕ) → List (ℕ × ℕ)
induced vertices es = filter (λ e. is_item vertices e.0 && is_item vertices e.1) es

-- the vertices induce a connected graph: a walk along edges that have both ends among them joins any two of them
abbrev pub InduceConnected : List (ℕ × ℕ) → List ℕ → Type 0
InduceConnected es vertices =
    (i j : ℕ) → i < length vertices → j < length vertices
    → Connected (induced vertices es) (slice_index vertices i) (slice_index vertices j)
