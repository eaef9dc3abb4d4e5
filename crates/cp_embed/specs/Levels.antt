-- Whether an order of the vertices of a graph is bipolar, by the ends of its edges.
use Rattle.std.specs.Prelude.{◌≡◌, ℕ, ◌+◌, ◌<◌, true, false, Bool, List, length, slice_index, slice_index_or}
use Rattle.cp_embed.specs.ListedBlocks.{other_end}

-- each vertex with a flag is the later end of some edge
abbrev pub AreLater : List (ℕ × ℕ) → List ℕ → List Bool → Type 0
AreLater ends later flags = (v : ℕ) → slice_index_or flags v false ≡ true
    → (k : ℕ) × (k < length ends) × (slice_index later k ≡ v)

-- each vertex with a flag is the other end of some edge than the later one
abbrev pub AreEarlier : List (ℕ × ℕ) → List ℕ → List Bool → Type 0
AreEarlier ends later flags = (v : ℕ) → slice_index_or flags v false ≡ true
    → (k : ℕ) × (k < length ends) × (other_end ends (slice_index later k) k ≡ v)

-- each vertex of the order but the first and the last has a flag
abbrev pub HaveFlags : List ℕ → List Bool → Type 0
HaveFlags order flags = (i : ℕ) → 0 < i → i + 1 < length order
    → slice_index_or flags (slice_index order i) false ≡ true

-- the vertices with each end of each edge are so many
abbrev pub EndWithin : ℕ → List (ℕ × ℕ) → List ℕ → Type 0
EndWithin n ends later = (k : ℕ) → k < length ends
    → (slice_index later k < n) × (other_end ends (slice_index later k) k < n)
