-- Tables of the border graph.
use Rattle.std.specs.Prelude.{◌≡◌, ℕ, ◌+◌, ◌*◌, ◌^◌, ◌<◌, ◌≤◌, ◌==◌, List, length, slice_index}
use Rattle.std.specs.List.{flat_map, position_or_len, range_with_len}
use Rattle.cp_cgraph.specs.Clustered.{Clustered, nodes, edges}
use Rattle.cp_cgraph.specs.Crossings.{crossings}
use Rattle.cp_cgraph.specs.declared.layout.Layout.{Layout}
use Rattle.cp_border.specs.Borders.{sum_below, crossed, border_vertex, segment_ends, cluster_list, border_list}

-- the first n places of the list hold the first n values of f
pub record HoldsTable (n : ℕ) (xs : List ℕ) (f : ℕ → ℕ) : Type 0 where
  pub size : n ≤ length xs
  pub told : (i : ℕ) → i < n → slice_index xs i ≡ f i

-- The tables: for each edge the number of border vertices before it, for each dart its vertex and the dart
-- behind it, for each border vertex the first dart of its list.
pub record Tables : Type 0 where
  pub first : List ℕ
  pub at : List ℕ
  pub following : List ℕ
  pub begins : List ℕ

-- the tables have the places of the border graph of so many nodes, edges and border vertices, and no sum of
-- these numbers overflows
pub record HasPlaces (nodes edges borders : ℕ) (t : Tables) : Type 0 where
  pub few_vertices : nodes + borders < 2 ^ 59
  pub few_edges : edges + 2 * borders < 2 ^ 59
  pub first_places : length t.first ≡ edges + 1
  pub at_places : length t.at ≡ 2 * (edges + 2 * borders)
  pub following_places : length t.following ≡ 2 * (edges + 2 * borders)
  pub begins_places : length t.begins ≡ borders

-- the tables have the places for a graph
abbrev pub HasPlacesFor : Clustered → Tables → Type 0
HasPlacesFor g t = HasPlaces (nodes g) (edges g) (sum_below (crossed g) (edges g)) t

-- the vertices at which the darts of the segments stand
abbrev pub segment_vertices : Clustered → List ℕ
segment_vertices g = flat_map (segment_ends g) (range_with_len 0 (edges g))

-- the list of the border vertex of the edge at place k of the list of cluster c
abbrev pub list_at : Clustered → Layout → ℕ → ℕ → List ℕ
list_at g l c k = let e = slice_index (cluster_list l c) k in border_list g l e
    (position_or_len (λ x. x == c) (crossings g e))

-- the border vertex of the edge at place k of the list of cluster c
abbrev pub border_at : Clustered → Layout → ℕ → ℕ → ℕ
border_at g l c k = border_vertex g (slice_index (cluster_list l c) k) c
