-- Search forests: each vertex hangs below another or is a root, and each edge goes up or down within a tree
-- (Tarjan 1972; Hopcroft, Tarjan 1973).
use Rattle.std.specs.Prelude.{◌≡◌, ℕ, ◌*◌, ◌<◌, ◌⊎◌, List, [], ◌∷◌, ◌++◌, length, replicate, slice_index, slice_index_or, slice_set}
use Rattle.cp_orbits.specs.Connected.{Joins}
use Rattle.cp_conn.specs.declared.search_forest.SearchForest.{SearchForest}
use Rattle.cp_conn.specs.Darts.{start, finish}

-- a forest as far as a search has grown it: for each vertex its number, its parent and the edge to that, and the
-- vertices that were met in their order; a vertex that was not met has the number of vertices as its own, and a root
-- is its own parent
pub record Forest : Type 0 where
  pub number : List ℕ
  pub parent : List ℕ
  pub edge : List ℕ
  pub order : List ℕ

-- the forest of four lists
abbrev pub forest_with : List ℕ → List ℕ → List ℕ → List ℕ → Forest
forest_with numbers parents edges order = record { number = numbers; parent = parents; edge = edges; order = order }

-- the forest that a program holds
abbrev pub forest_of : SearchForest → Forest
forest_of f = forest_with f.number.items f.parent.items f.edge.items f.order.items

-- the forest in which none of n vertices was met
abbrev pub no_forest : ℕ → Forest
no_forest n = forest_with (replicate n n) (replicate n 0) (replicate n 0) []

-- the forest has a place for the vertex
abbrev pub IsVertex : Forest → ℕ → Type 0
IsVertex forest v = (v < length forest.number) × (v < length forest.parent) × (v < length forest.edge)

-- the forest with one vertex more, which hangs by an edge below its parent
abbrev pub with_vertex : Forest → ℕ → ℕ → ℕ → Forest
with_vertex forest v parent edge = forest_with (slice_set forest.number v (length forest.order))
    (slice_set forest.parent v parent) (slice_set forest.edge v edge) (forest.order ++ v ∷ [])

-- a is b, or going up from b leads to a
pub data Above (forest : Forest) (a : ℕ) : ℕ → Type 0 where
  itself : Above forest a a
  child : {b : ℕ} → Above forest a (slice_index forest.parent b) → Above forest a b

-- v hangs by an edge below a vertex of lower number
pub record Hangs (es : List (ℕ × ℕ)) (n : ℕ) (forest : Forest) (v : ℕ) : Type 0 where
  pub within : slice_index forest.parent v < n
  pub lower : slice_index forest.number (slice_index forest.parent v) < slice_index forest.number v
  pub edge_within : slice_index forest.edge v < length es
  pub joined : Joins (slice_index_or es (slice_index forest.edge v) (0, 0)) v (slice_index forest.parent v)

-- v is a root, above itself alone, or hangs below another vertex
abbrev pub IsPlacedBelow : List (ℕ × ℕ) → ℕ → Forest → ℕ → Type 0
IsPlacedBelow es n forest v = (slice_index forest.parent v ≡ v) ⊎ Hangs es n forest v

-- one end of the dart is above the other
abbrev pub IsUpright : List (ℕ × ℕ) → Forest → ℕ → Type 0
IsUpright es forest d = Above forest (start es d) (finish es d) ⊎ Above forest (finish es d) (start es d)

-- all vertices are placed, and the ends of each edge are one above the other
pub record IsSearchForest (es : List (ℕ × ℕ)) (n : ℕ) (forest : Forest) : Type 0 where
  pub placed : (v : ℕ) → v < n → IsPlacedBelow es n forest v
  pub upright : (d : ℕ) → d < 2 * length es → IsUpright es forest d
