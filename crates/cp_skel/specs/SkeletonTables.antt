-- Tables of the skeletons, as they are looked up, and what is known of them while they are made.
use Rattle.std.specs.Prelude.{◌≡◌, ℕ, ◌+◌, ◌*◌, ◌<◌, Bool, cond, eqb, ◌&&◌, false, List, [], ◌++◌, map, length, slice_index_or, Option, Some, None}
use Rattle.std.specs.List.{filter, flat_map, zip}
use Rattle.cp_board.specs.declared.parts.EdgeRow.{EdgeRow}
use Rattle.cp_board.specs.declared.parts.Pipe.{Pipe}
use Rattle.cp_board.specs.Instances.{Synchronized}
use Rattle.cp_cgraph.specs.Clustered.{Clustered, clusters, edges, nodes, source, target}
use Rattle.cp_cgraph.specs.Crossings.{leaves}
use Rattle.cp_border.specs.Borders.{sum_below, crossed}
use Rattle.cp_skel.specs.LoopLists.{loop_darts}
use Rattle.cp_skel.specs.SkeletonLists.{in_dart, out_dart}
use Rattle.cp_skel.specs.declared.vertex.Vertex.{Vertex}
use Rattle.cp_skel.specs.declared.vertex.Vertex.TheVariants.{Child, Node, Outside}
use Rattle.cp_skel.specs.Skeletons.{all_vertices, below, is_left, kept_segments, segment_name, segments_of, skeleton_edge, skeleton_pipe, skeletons, vertex_name}
use Rattle.cp_skel.specs.SolutionLayouts.{name_edge}

-- the name of the vertex of each node
abbrev pub node_names : Clustered → List ℕ
node_names g = map (λ v. vertex_name g (Node v)) (below (nodes g))

-- the name of the vertex of cluster c as F tells it, where some edge leaves the cluster
abbrev pub name_if_left : Clustered → (ℕ → Vertex) → ℕ → Option ℕ
name_if_left g F c = cond (is_left g c) (Some (vertex_name g (F c))) None

-- for each cluster that some edge leaves the name of its vertex in the skeleton of its parent
abbrev pub child_names : Clustered → List (Option ℕ)
child_names g = map (name_if_left g Child) (below (clusters g))

-- for each cluster that some edge leaves the name of its outside
abbrev pub outside_names : Clustered → List (Option ℕ)
outside_names g = map (name_if_left g Outside) (below (clusters g))

-- the edge of the graph for the name of each segment
abbrev pub graph_edges : Clustered → List ℕ
graph_edges g = map (name_edge g) (below (length (kept_segments g)))

-- An instance with what its vertices and edges stand for: the vertices in the order of their names, the name of the
-- vertex of each node, the names of the two vertices of each cluster, if there are any, and the edge of the graph of
-- each edge.
pub record Told : Type 0 where
  pub instance : Synchronized
  pub vertices : List Vertex
  pub nodes : List ℕ
  pub children : List (Option ℕ)
  pub outsides : List (Option ℕ)
  pub edges : List ℕ

-- the skeletons of a clustered graph, so told
abbrev pub told_skeletons : Clustered → Told
told_skeletons g = record {
  instance = skeletons g;
  vertices = all_vertices g;
  nodes = node_names g;
  children = child_names g;
  outsides = outside_names g;
  edges = graph_edges g;
}

-- whether some edge leaves each cluster
abbrev pub left_clusters : Clustered → List Bool
left_clusters g = map (is_left g) (below (clusters g))

-- how many segments of edge e are kept: all, or none where it is a loop
abbrev pub kept_count : Clustered → ℕ → ℕ
kept_count g e = cond (eqb (source g e) (target g e)) 0 (crossed g e + 1)

-- the name of the first segment of edge e, if it is no loop
abbrev pub first_name : Clustered → ℕ → ℕ
first_name g e = sum_below (kept_count g) e

-- the same for each edge
abbrev pub first_names : Clustered → List ℕ
first_names g = map (first_name g) (below (edges g))

-- the names of the segments of edge e outside and inside the border of cluster c
abbrev pub border_pair_of : Clustered → ℕ → ℕ → ℕ × ℕ
border_pair_of g c e = (segment_name g (out_dart g c e), segment_name g (in_dart g c e))

-- the pairs of those of the first n edges that leave cluster c
abbrev pub first_pairs : Clustered → ℕ → ℕ → List (ℕ × ℕ)
first_pairs g n c = map (border_pair_of g c) (filter (leaves g c) (below n))

-- the pairs of the first n edges, for each cluster, and besides those of edge n at the borders cs
pub record ArePaired (g : Clustered) (n : ℕ) (cs : List ℕ) (pairs : List (List (ℕ × ℕ))) : Type 0 where
  pub size : length pairs ≡ clusters g
  pub each : (c : ℕ) → c < clusters g
      → slice_index_or pairs c [] ≡ first_pairs g n c ++ map (λ x. border_pair_of g x n) (filter (λ x. eqb x c) cs)

-- the numbers xs by their values under f, which are below m: those of each value in their order
pub record AreGathered (f : ℕ → ℕ) (m : ℕ) (xs : List ℕ) (lists : List (List ℕ)) : Type 0 where
  pub size : length lists ≡ m
  pub each : (k : ℕ) → k < m → slice_index_or lists k [] ≡ filter (λ x. eqb (f x) k) xs

-- n lists without items, of any type
pub record AreEmpty {A : Type 0} (n : ℕ) (lists : List (List A)) : Type 0 where
  pub size : length lists ≡ n
  pub each : (k : ℕ) → k < n → slice_index_or lists k [] ≡ []

-- the names of those of the first k vertices that are nodes
pub record AreNodesTold (g : Clustered) (k : ℕ) (names : List ℕ) : Type 0 where
  pub size : length names ≡ nodes g
  pub told : (j v : ℕ) → j < k → slice_index_or (all_vertices g) j (Node 0) ≡ Node v → slice_index_or names v 0 ≡ j

-- the names of those of the first k vertices that F tells of clusters; no other cluster has one
pub record AreClustersTold (g : Clustered) (F : ℕ → Vertex) (k : ℕ) (names : List (Option ℕ)) : Type 0 where
  pub size : length names ≡ clusters g
  pub told : (j c : ℕ) → j < k → slice_index_or (all_vertices g) j (Node 0) ≡ F c → slice_index_or names c None ≡ Some j
  pub only : (c : ℕ) → is_left g c ≡ false → slice_index_or names c None ≡ None

-- the edges of the segments of the first n edges
abbrev pub first_rows : Clustered → ℕ → List EdgeRow
first_rows g n = map (skeleton_edge g) (flat_map (segments_of g) (below n))

-- the pipes of some clusters, named from 0 on
abbrev pub pipes_of : Clustered → List ℕ → List Pipe
pipes_of g cs = map (λ x. skeleton_pipe g x.0 x.1) (zip (below (length cs)) cs)

-- the loops at node v among the first n edges
abbrev pub first_loops : Clustered → ℕ → ℕ → List ℕ
first_loops g n v = filter (λ e. eqb (source g e) v && eqb (target g e) v) (below n)

-- for each node the darts of its loops among the first n edges, each source before its target
pub record AreLoopsTold (g : Clustered) (n : ℕ) (lists : List (List ℕ)) : Type 0 where
  pub size : length lists ≡ nodes g
  pub each : (v : ℕ) → v < nodes g → slice_index_or lists v [] ≡ loop_darts (map (λ e. 2 * e) (first_loops g n v))
