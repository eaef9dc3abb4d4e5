-- The lists that a layout, and that a solution, gives the vertices of the skeletons, as lists of darts of segments.
use Rattle.std.specs.Prelude.{ℕ, ◌+◌, ◌*◌, ◌/◌, ◌%◌, Bool, cond, eqb, List, [], map, reverse, slice_index_or}
use Rattle.std.specs.List.{filter}
use Rattle.cp_lists.specs.CyclicLists.{Has}
use Rattle.cp_lists.specs.Turns.{IsTurn}
use Rattle.cp_conn.specs.NamedGraphs.{NamedGraph}
use Rattle.cp_board.specs.Instances.{graph}
use Rattle.cp_board.specs.Rotations.{dart}
use Rattle.cp_cgraph.specs.Clustered.{Clustered}
use Rattle.cp_cgraph.specs.declared.layout.Layout.{Layout}
use Rattle.cp_border.specs.Borders.{cluster_list, end_dart, node_list}
use Rattle.cp_maps.specs.Maps.{has}
use Rattle.cp_skel.specs.SkeletonLists.{in_dart, out_dart}
use Rattle.cp_skel.specs.declared.vertex.Vertex.{Vertex}
use Rattle.cp_skel.specs.declared.vertex.Vertex.TheVariants.{Child, Node, Outside}
use Rattle.cp_skel.specs.Skeletons.{all_vertices, dart_vertex, kept_segments, segment_name, vertex_name}

-- the edges that a layout lists for cluster c, and none for the root
abbrev pub border_edges : Layout → ℕ → List ℕ
border_edges l c = cond (eqb c 0) [] (cluster_list l c)

-- the list that a layout gives a vertex of the skeletons: that of a node; that of a cluster, as it is seen from its
-- parent; and the same the other way round, as it is seen from inside
abbrev pub vertex_list : Clustered → Layout → Vertex → List ℕ
vertex_list g l (Node v) = map (end_dart g) (node_list l v)
vertex_list g l (Child c) = map (out_dart g c) (border_edges l c)
vertex_list g l (Outside c) = reverse (map (in_dart g c) (border_edges l c))

-- the segment of the dart belongs to no loop
abbrev pub keeps : Clustered → ℕ → Bool
keeps g d = has (d / 2) (kept_segments g)

-- the list without the darts of loops
abbrev pub kept_list : Clustered → Layout → Vertex → List ℕ
kept_list g l p = filter (keeps g) (vertex_list g l p)

-- the darts of the segments in the list that s gives vertex v
abbrev pub stock_dart : Clustered → ℕ → ℕ
stock_dart g d = 2 * slice_index_or (kept_segments g) (d / 2) 0 + d % 2

-- the list that s gives vertex v, as darts of segments
abbrev pub stock_list : NamedGraph → Clustered → (ℕ → List ℕ) → ℕ → List ℕ
stock_list graph g s v = map (stock_dart g) (map (dart graph v) (s v))

-- s and a layout agree: each vertex where a dart stands has, up to a turn, the list of the layout without the darts of
-- loops
abbrev pub Agree : NamedGraph → Clustered → Layout → (ℕ → List ℕ) → Type 0
Agree graph g l s =
    (d : ℕ) → Has (d / 2) (kept_segments g)
    → IsTurn (stock_list graph g s (vertex_name g (dart_vertex g d))) (kept_list g l (dart_vertex g d))

-- the list of names of segments that a layout gives the vertex with name v
abbrev pub layout_list : Clustered → Layout → ℕ → List ℕ
layout_list g l v =
    let p = slice_index_or (all_vertices g) v (Node 0) in
    cond (eqb (vertex_name g p) v) (map (segment_name g) (kept_list g l p)) []
