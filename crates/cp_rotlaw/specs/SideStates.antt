-- Some vertices of a side merged into one list.
use Rattle.std.specs.Prelude.{◌≡◌, ℕ, ◌<◌, ◌&&◌, Bool, true, false, not, List, ◌∷◌, ◌++◌, drop, length, map, slice_index_or, take}
use Rattle.std.specs.List.{filter}
use Rattle.cp_lists.specs.CyclicLists.{Has}
use Rattle.cp_faces.specs.Twins.{twin}
use Rattle.cp_maps.specs.Genus.{Becomes}
use Rattle.cp_mergelaw.specs.Sides.{IsMergeOf}
use Rattle.cp_rot.specs.Rewrites.{values}
use Rattle.cp_rot.specs.Systems.{System, darts, edges, list_of, next, vertex_of}
use Rattle.cp_rot.specs.Tables.{IsMarked}
use Rattle.cp_rotlaw.specs.SideOrders.{in_side, rows_where}

-- vertex w is in the side and not marked as merged
abbrev pub is_left : List Bool → List Bool → ℕ → Bool
is_left side merged w = in_side side w && not (slice_index_or merged w false)

-- the vertices of the side that are not merged
abbrev pub vertices_left : System → List Bool → List Bool → List ℕ
vertices_left r side merged = filter (is_left side merged) (values r.vertices (λ v. v))

-- the lists of the vertices that are not in the side
abbrev pub other_rows : System → List Bool → List (List ℕ)
other_rows r side = rows_where r (λ v. not (in_side side v))

-- the list first has the darts of the marked vertices of the side: with it in their place the genus is that of r, and
-- what is put together of it and of the lists of the others is put together of all lists of the side
pub record IsMerging (r : System) (side merged : List Bool) (first : List ℕ) : Type 0 where
  pub size : length merged ≡ r.vertices
  pub within : (w : ℕ) → IsMarked merged w → in_side side w ≡ true
  pub items : (d : ℕ) → Has d first → (d < darts r) × IsMarked merged (vertex_of r d)
  pub all : (d : ℕ) → d < darts r → IsMarked merged (vertex_of r d) → Has d first
  pub becomes : Becomes (edges r) (next r)
      (first ∷ (map (list_of r) (vertices_left r side merged) ++ other_rows r side))
  pub refines : (whole : List ℕ) → IsMergeOf whole (first ∷ map (list_of r) (vertices_left r side merged))
      → IsMergeOf whole (rows_where r (in_side side))

-- a list turned to its place i
abbrev pub turned_at : ℕ → List ℕ → List ℕ
turned_at i xs = drop i xs ++ take i xs

-- dart x stands at a vertex of the other side and leads to a merged vertex, and the dart behind it to one that is not
pub record IsCorner (r : System) (side merged : List Bool) (x : ℕ) : Type 0 where
  pub within : x < darts r
  pub out : in_side side (vertex_of r x) ≡ false
  pub first : IsMarked merged (vertex_of r (twin x))
  pub second : slice_index_or merged (vertex_of r (twin (next r x))) false ≡ false

-- no vertex of the side is left
abbrev pub NoneLeft : System → List Bool → List Bool → Type 0
NoneLeft r side merged = (w : ℕ) → Has w (vertices_left r side merged) → ⊥

-- the list has the darts of all vertices of the side, merged one after the other
pub record IsMerged (r : System) (side : List Bool) (row : List ℕ) : Type 0 where
  pub merged : List Bool
  pub state : IsMerging r side merged row
  pub none : NoneLeft r side merged
