-- Links between the edges of a graph along a search forest.
use Rattle.std.specs.Prelude.{◌≡◌, ℕ, ◌<◌, ◌⊎◌, List, [], ◌∷◌, ◌++◌, cond, nat_lt, slice_index, slice_index_or}
use Rattle.std.specs.List.{Contains}
use Rattle.cp_conn.specs.SearchForest.{Forest}

-- the end of an edge that has the higher number
abbrev pub deeper : List ℕ → ℕ × ℕ → ℕ
deeper number e = cond (nat_lt (slice_index number e.0) (slice_index number e.1)) e.1 e.0

-- the link of an edge with the tree edge of its deeper end
abbrev pub edge_link : List (ℕ × ℕ) → Forest → ℕ → ℕ × ℕ
edge_link es forest e = (e, slice_index forest.edge (deeper forest.number (slice_index_or es e (0, 0))))

-- the link of the tree edges of v and of its parent
abbrev pub tree_link : Forest → ℕ → ℕ × ℕ
tree_link forest v = (slice_index forest.edge v, slice_index forest.edge (slice_index forest.parent v))

-- some edge leads from v or from below it past the parent of v
abbrev pub LeadsPast : Forest → List ℕ → ℕ → Type 0
LeadsPast forest low v = slice_index low v < slice_index forest.number (slice_index forest.parent v)

-- the links of the first edges, each with the tree edge of its deeper end
pub record AreEdgeLinks (es : List (ℕ × ℕ)) (forest : Forest) (edges : ℕ) (links : List (ℕ × ℕ)) : Type 0 where
  pub each : (e : ℕ) → e < edges → Contains links (edge_link es forest e)
  pub only : (p : ℕ × ℕ) → Contains links p → (e : ℕ) × (e < edges) × (edge_link es forest e ≡ p)

-- the links before, and of the first vertices each that leads past its parent, with that by their tree edges
pub record AddsTreeLinks (forest : Forest) (low : List ℕ) (vertices : ℕ) (before links : List (ℕ × ℕ)) : Type 0 where
  pub kept : (p : ℕ × ℕ) → Contains before p → Contains links p
  pub each : (v : ℕ) → v < vertices → LeadsPast forest low v → Contains links (tree_link forest v)
  pub only : (p : ℕ × ℕ) → Contains links p → Contains before p
      ⊎ ((v : ℕ) × (v < vertices) × LeadsPast forest low v × (tree_link forest v ≡ p))

-- the link of v with its parent is added, where v leads past that
abbrev pub LinksUp : Forest → List ℕ → ℕ → List (ℕ × ℕ) → List (ℕ × ℕ) → Type 0
LinksUp forest low v before links =
    (LeadsPast forest low v × (links ≡ before ++ tree_link forest v ∷ []))
    ⊎ ((LeadsPast forest low v → ⊥) × (links ≡ before))
