-- Tables by which the border graph is looked up without being stored.
use Rattle.std.specs.Prelude.{◌≡◌, ℕ, ◌+◌, ◌-◌, ◌<◌, ◌≤◌, List, length, slice_index}
use Rattle.cp_cgraph.specs.Clustered.{Clustered, IsClustered, nodes, edges}
use Rattle.cp_cgraph.specs.declared.layout.Layout.{Layout}
use Rattle.cp_rot.specs.Systems.{System, darts, list_of, next, vertex_of}
use Rattle.cp_border.specs.Borders.{borders, sum_below, cluster_list, crossed, first_border}
use Rattle.cp_border.specs.Good.{IsArranged}
use Rattle.cp_border.specs.Tables.{Tables, HoldsTable, HasPlacesFor, border_at}

-- the table tells the next dart of each dart that stands at vertex v
abbrev pub HasTurn : System → List ℕ → ℕ → Type 0
HasTurn r table v = (d : ℕ) → d < darts r → vertex_of r d ≡ v → slice_index table d ≡ next r d

-- it does so at border vertex v, and the first dart of the list of v is noted behind those of the border vertices
-- before it
pub record IsViewed (g : Clustered) (l : Layout) (table begins : List ℕ) (v : ℕ) : Type 0 where
  pub turn : HasTurn (borders g l) table v
  pub begin : slice_index begins (v - nodes g) ≡ slice_index (list_of (borders g l) v) 0

-- the border vertices of the clusters below c, and of the first k edges of the list of c, have a property
pub record OnBorders (g : Clustered) (l : Layout) (c k : ℕ) (P : ℕ → Type 0) : Type 0 where
  pub earlier : (b j : ℕ) → 0 < b → b < c → j < length (cluster_list l b) → P (border_at g l b j)
  pub here : (j : ℕ) → j < k → P (border_at g l c j)

-- all nodes are written, and the border vertices as far as that
pub record IsViewedUpto (g : Clustered) (l : Layout) (c k : ℕ) (table begins : List ℕ) : Type 0 where
  pub nodes_turned : (v : ℕ) → v < nodes g → HasTurn (borders g l) table v
  pub borders_viewed : OnBorders g l c k (IsViewed g l table begins)

-- a graph and a layout of it
pub record Drawn : Type 0 where
  pub graph : Clustered
  pub layout : Layout

-- The tables tell the border graph of an arranged layout: for each edge the border vertices before it,
-- for each dart its vertex and the next dart, for each border vertex the first dart of its list.
pub record IsTold (g : Clustered) (l : Layout) (t : Tables) : Type 0 where
  pub clustered : IsClustered g
  pub arranged : IsArranged g l
  pub places : HasPlacesFor g t
  pub first_told : HoldsTable (edges g + 1) t.first (sum_below (crossed g))
  pub at_told : HoldsTable (darts (borders g l)) t.at (vertex_of (borders g l))
  pub next_told : HoldsTable (darts (borders g l)) t.following (next (borders g l))
  pub begins_told : (v : ℕ) → nodes g ≤ v → v < first_border g (edges g)
      → slice_index t.begins (v - nodes g) ≡ slice_index (list_of (borders g l) v) 0
