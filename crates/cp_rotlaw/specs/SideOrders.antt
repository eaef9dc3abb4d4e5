-- The vertices of one side of a bipartite rotation system made one: a cyclic order of all edges.
use Rattle.std.specs.Prelude.{◌≡◌, ◌≢◌, ℕ, ◌+◌, ◌*◌, ◌<◌, Bool, true, false, not, cond, List, [], length, map, slice_index_or}
use Rattle.std.specs.List.{filter}
use Rattle.cp_lists.specs.Count.{Exactly}
use Rattle.cp_faces.specs.Twins.{twin}
use Rattle.cp_mergelaw.specs.Sides.{IsMergedSide}
use Rattle.cp_rot.specs.Rewrites.{values}
use Rattle.cp_rot.specs.Systems.{System, darts, edges, list_of, vertex_of}

-- vertex v is in the side
abbrev pub in_side : List Bool → ℕ → Bool
in_side side v = slice_index_or side v false

-- each edge has exactly one end in the side, some vertex is in it, and each vertex has an edge
pub record IsSideOf (r : System) (side : List Bool) : Type 0 where
  pub size : length side ≡ r.vertices
  pub across : (d : ℕ) → d < darts r → in_side side (vertex_of r (twin d)) ≡ not (in_side side (vertex_of r d))
  pub some : (v : ℕ) × (v < r.vertices) × (in_side side v ≡ true)
  pub filled : (v : ℕ) → v < r.vertices → list_of r v ≢ []

-- the lists of the vertices that pass a test
abbrev pub rows_where : System → (ℕ → Bool) → List (List ℕ)
rows_where r p = map (list_of r) (filter p (values r.vertices (λ v. v)))

-- the dart of edge e that stands at a vertex of the side
abbrev pub side_dart : System → List Bool → ℕ → ℕ
side_dart r side e = cond (in_side side (vertex_of r (2 * e))) (2 * e) (2 * e + 1)

-- the order has each edge once; the side made one vertex with this order has genus zero, the order restricted to a
-- vertex of the side is its list, its reverse restricted to another vertex is the list of that one, and on neither side
-- two of the lists cross in it
pub record IsSideOrder (r : System) (side : List Bool) (order : List ℕ) : Type 0 where
  pub arranged : Exactly (edges r) (λ e. true) order
  pub merged : IsMergedSide (edges r) (rows_where r (in_side side)) (rows_where r (λ v. not (in_side side v)))
      (map (side_dart r side) order)
