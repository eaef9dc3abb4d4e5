-- How many names the skeletons have of each kind.
use Rattle.std.proofs.Common.{◌≡◌, ℕ, ◌<◌, Bool, List, length, ap, ◌∙◌, arith}
use Rattle.std.specs.Prelude.{None, slice_index_or}
use Rattle.std.proofs.lemmas.List.FromFn.{get_or-map-range_with_len, length-map-range_with_len}
use Rattle.cp_cgraph.specs.Clustered.{Clustered, clusters, edges, nodes}
use Rattle.cp_skel.specs.declared.vertex.Vertex.TheVariants.{Child, Node, Outside}
use Rattle.cp_skel.specs.Skeletons.{is_left, kept_segments, vertex_name}
use Rattle.cp_skel.specs.SkeletonTables.{child_names, first_name, first_names, graph_edges, left_clusters, name_if_left, node_names, outside_names}
use Rattle.cp_skel.specs.SolutionLayouts.{name_edge}

-- one for each node
pub length-node_names : (g : Clustered) → length (node_names g) ≡ nodes g
length-node_names g = length-map-range_with_len (λ v. vertex_name g (Node v)) 0 (nodes g)

-- at the place of a node stands the name of its vertex
pub node_names-at : (g : Clustered) (v d : ℕ) → v < nodes g → slice_index_or (node_names g) v d ≡ vertex_name g (Node v)
node_names-at g v d lt = get_or-map-range_with_len (λ v. vertex_name g (Node v)) 0 (nodes g) v v d lt (omega arith)

-- at most one for each cluster, as it is seen from its parent
pub length-child_names : (g : Clustered) → length (child_names g) ≡ clusters g
length-child_names g = length-map-range_with_len (name_if_left g Child) 0 (clusters g)

-- at the place of a cluster stands the name of its vertex in its parent, if some edge leaves it
pub child_names-at : (g : Clustered) (c : ℕ) → c < clusters g
    → slice_index_or (child_names g) c None ≡ name_if_left g Child c
child_names-at g c lt = get_or-map-range_with_len (name_if_left g Child) 0 (clusters g) c c None lt (omega arith)

-- and for its outside
pub length-outside_names : (g : Clustered) → length (outside_names g) ≡ clusters g
length-outside_names g = length-map-range_with_len (name_if_left g Outside) 0 (clusters g)

-- at the place of a cluster stands the name of its outside, if some edge leaves it
pub outside_names-at : (g : Clustered) (c : ℕ) → c < clusters g
    → slice_index_or (outside_names g) c None ≡ name_if_left g Outside c
outside_names-at g c lt = get_or-map-range_with_len (name_if_left g Outside) 0 (clusters g) c c None lt (omega arith)

-- one for each segment
pub length-graph_edges : (g : Clustered) → length (graph_edges g) ≡ length (kept_segments g)
length-graph_edges g = length-map-range_with_len (name_edge g) 0 (length (kept_segments g))

-- at the place of a name stands the edge of the graph of its segment
pub graph_edges-at : (g : Clustered) (n d : ℕ) → n < length (kept_segments g)
    → slice_index_or (graph_edges g) n d ≡ name_edge g n
graph_edges-at g n d lt = get_or-map-range_with_len (name_edge g) 0 (length (kept_segments g)) n n d lt (omega arith)

-- the first name of each edge
pub length-first_names : (g : Clustered) → length (first_names g) ≡ edges g
length-first_names g = length-map-range_with_len (first_name g) 0 (edges g)

-- at the place of an edge stands the name of its first segment
pub first_names-at : (g : Clustered) (e d : ℕ) → e < edges g → slice_index_or (first_names g) e d ≡ first_name g e
first_names-at g e d lt = get_or-map-range_with_len (first_name g) 0 (edges g) e e d lt (omega arith)

-- whether each cluster is left
pub length-left_clusters : (g : Clustered) → length (left_clusters g) ≡ clusters g
length-left_clusters g = length-map-range_with_len (is_left g) 0 (clusters g)

-- at the place of a cluster stands whether some edge leaves it
pub left_clusters-at : (g : Clustered) (left : List Bool) (c : ℕ) (d : Bool) → left ≡ left_clusters g → c < clusters g
    → slice_index_or left c d ≡ is_left g c
left_clusters-at g left c d is lt =
    ap (λ (xs : List Bool). slice_index_or xs c d) is
    ∙ get_or-map-range_with_len (is_left g) 0 (clusters g) c c d lt (omega arith)
