-- The skeletons of a clustered graph (Bläsius, Rutter 2016) as one instance of synchronized planarity (Bläsius, Fink,
-- Rutter 2021).
use Rattle.std.specs.Prelude.{◌≡◌, ◌<◌, ℕ, ◌+◌, ◌*◌, ◌/◌, Bool, false, not, cond, eqb, ◌&&◌, List, [], ◌∷◌, ◌++◌, map, length, slice_index_or}
use Rattle.std.specs.List.{filter, flat_map, list_any, position_or_len, range_with_len, zip}
use Rattle.cp_conn.specs.NamedGraphs.{rank}
use Rattle.cp_board.specs.declared.parts.Kind.TheVariants.{P}
use Rattle.cp_board.specs.declared.parts.EdgeRow.{EdgeRow}
use Rattle.cp_board.specs.declared.parts.Pipe.{Pipe}
use Rattle.cp_board.specs.Instances.{Synchronized}
use Rattle.cp_cgraph.specs.Clustered.{Clustered, clusters, edges, home, nodes, parent, source, target}
use Rattle.cp_cgraph.specs.Crossings.{contains, crossings, leaves}
use Rattle.cp_border.specs.Borders.{crossed, first_segment}
use Rattle.cp_skel.specs.SkeletonLists.{in_dart, out_dart}
use Rattle.cp_skel.specs.declared.vertex.Vertex.{Vertex}
use Rattle.cp_skel.specs.declared.vertex.Vertex.TheVariants.{Child, Node, Outside}

-- both stand for the same
abbrev pub is_vertex : Vertex → Vertex → Bool
is_vertex (Node v) (Node w) = eqb v w
is_vertex (Node v) (Child d) = false
is_vertex (Node v) (Outside d) = false
is_vertex (Child c) (Node w) = false
is_vertex (Child c) (Child d) = eqb c d
is_vertex (Child c) (Outside d) = false
is_vertex (Outside c) (Node w) = false
is_vertex (Outside c) (Child d) = false
is_vertex (Outside c) (Outside d) = eqb c d

-- the numbers below n
abbrev pub below : ℕ → List ℕ
below n = range_with_len 0 n

-- some edge leaves cluster c, which is not the root
abbrev pub is_left : Clustered → ℕ → Bool
is_left g c = not (eqb c 0) && list_any (leaves g c) (below (edges g))

-- the clusters that some edge leaves
abbrev pub left : Clustered → List ℕ
left g = filter (is_left g) (below (clusters g))

-- the vertices of the skeleton of cluster c: its nodes, its children that some edge leaves, and the outside
abbrev pub vertices_in : Clustered → ℕ → List Vertex
vertices_in g c =
    map Node (filter (λ v. eqb (home g v) c) (below (nodes g)))
    ++ (map Child (filter (λ d. eqb (parent g d) c) (left g)) ++ cond (is_left g c) (Outside c ∷ []) [])

-- the vertices of all skeletons, by clusters
abbrev pub all_vertices : Clustered → List Vertex
all_vertices g = flat_map (vertices_in g) (below (clusters g))

-- the name of a vertex: its place among these
abbrev pub vertex_name : Clustered → Vertex → ℕ
vertex_name g p = position_or_len (is_vertex p) (all_vertices g)

-- p is a vertex of the skeletons
pub record IsVertex (g : Clustered) (p : Vertex) : Type 0 where
  pub within : vertex_name g p < length (all_vertices g)
  pub at : slice_index_or (all_vertices g) (vertex_name g p) (Node 0) ≡ p

-- where the segments of edge e stand at the border of cluster c: the one that ends there, and the one that begins there
abbrev pub ends_at_border : Clustered → ℕ → ℕ → Vertex
ends_at_border g e c = cond (contains g c (source g e)) (Outside c) (Child c)

-- where the segment of edge e stands that begins at the border of cluster c
abbrev pub begins_at_border : Clustered → ℕ → ℕ → Vertex
begins_at_border g e c = cond (contains g c (source g e)) (Child c) (Outside c)

-- where the segments of edge e begin and end, in turn
abbrev pub edge_vertices : Clustered → ℕ → List Vertex
edge_vertices g e =
    Node (source g e) ∷ (flat_map (λ c. ends_at_border g e c ∷ begins_at_border g e c ∷ []) (crossings g e)
    ++ Node (target g e) ∷ [])

-- where each dart of a segment stands
abbrev pub dart_vertices : Clustered → List Vertex
dart_vertices g = flat_map (edge_vertices g) (below (edges g))

-- the vertex at which a dart of a segment stands
abbrev pub dart_vertex : Clustered → ℕ → Vertex
dart_vertex g d = slice_index_or (dart_vertices g) d (Node 0)

-- the segments of all edges that are no loops, by edges and along each
abbrev pub segments_of : Clustered → ℕ → List ℕ
segments_of g e = cond (eqb (source g e) (target g e)) [] (range_with_len (first_segment g e) (crossed g e + 1))

-- the segments of all edges that are no loops
abbrev pub kept_segments : Clustered → List ℕ
kept_segments g = flat_map (segments_of g) (below (edges g))

-- the name of the segment of a dart: its place among these
abbrev pub segment_name : Clustered → ℕ → ℕ
segment_name g d = rank (kept_segments g) (d / 2)

-- the edge of a segment
abbrev pub skeleton_edge : Clustered → ℕ → EdgeRow
skeleton_edge g t = record {
  name = segment_name g (2 * t);
  a = vertex_name g (dart_vertex g (2 * t));
  b = vertex_name g (dart_vertex g (2 * t + 1));
}

-- the edges that leave cluster c: the names of their segments outside and inside
abbrev pub border_pairs : Clustered → ℕ → List (ℕ × ℕ)
border_pairs g c =
    map (λ e. (segment_name g (out_dart g c e), segment_name g (in_dart g c e))) (filter (leaves g c) (below (edges g)))

-- the pipe of a cluster that some edge leaves
abbrev pub skeleton_pipe : Clustered → ℕ → ℕ → Pipe
skeleton_pipe g name c = record {
  name = name;
  a = vertex_name g (Child c);
  b = vertex_name g (Outside c);
  pairs = border_pairs g c;
}

-- the instance: all are P-vertices
abbrev pub skeletons : Clustered → Synchronized
skeletons g = record {
  verts = map (λ v. record { name = v; kind = P }) (below (length (all_vertices g)));
  edges = map (skeleton_edge g) (kept_segments g);
  pipes = map (λ x. skeleton_pipe g x.0 x.1) (zip (below (length (left g))) (left g));
}
