-- The layout that a solution of the skeletons gives.
use Rattle.std.specs.Prelude.{ℕ, ◌+◌, ◌*◌, cond, eqb, ◌&&◌, List, [], ◌++◌, map, slice_index_or}
use Rattle.std.specs.List.{filter, flat_map, range_with_len}
use Rattle.cp_lists.specs.Turns.{turned_to_least}
use Rattle.cp_cgraph.specs.Clustered.{Clustered, edges, nodes, source, target}
use Rattle.cp_cgraph.specs.declared.layout.Layout.{Layout}
use Rattle.cp_border.specs.Borders.{crossed}
use Rattle.cp_skel.specs.LoopLists.{loop_darts}
use Rattle.cp_skel.specs.SkeletonLists.{inner_clusters}
use Rattle.cp_skel.specs.declared.vertex.Vertex.TheVariants.{Child, Node}
use Rattle.cp_skel.specs.Skeletons.{below, is_left, kept_segments, vertex_name}

-- the edge of each segment, and of the segment with a name
abbrev pub segment_edges : Clustered → List ℕ
segment_edges g = flat_map (λ e. map (λ k. e) (range_with_len 0 (crossed g e + 1))) (below (edges g))

-- the edge of the segment with a name
abbrev pub name_edge : Clustered → ℕ → ℕ
name_edge g n = slice_index_or (segment_edges g) (slice_index_or (kept_segments g) n 0) 0

-- the dart of that edge at node v
abbrev pub name_dart : Clustered → ℕ → ℕ → ℕ
name_dart g v n = 2 * name_edge g n + cond (eqb (source g (name_edge g n)) v) 0 1

-- the loops at a node
abbrev pub loops_at : Clustered → ℕ → List ℕ
loops_at g v = filter (λ e. eqb (source g e) v && eqb (target g e) v) (below (edges g))

-- the list of a node: the darts of the edges that are no loops, as the solution has them, and behind them the loops,
-- each with its first dart before its second
abbrev pub solved_darts : Clustered → (ℕ → List ℕ) → ℕ → List ℕ
solved_darts g s v = map (name_dart g v) (s (vertex_name g (Node v)))

-- the whole list of a node: these darts, and behind them those of its loops
abbrev pub solved_node : Clustered → (ℕ → List ℕ) → ℕ → List ℕ
solved_node g s v = solved_darts g s v ++ loop_darts (map (λ e. 2 * e) (loops_at g v))

-- the list of a cluster: the edges as the solution has them round the cluster, seen from its parent
abbrev pub solved_cluster : Clustered → (ℕ → List ℕ) → ℕ → List ℕ
solved_cluster g s c = cond (is_left g c) (map (name_edge g) (s (vertex_name g (Child c)))) []

-- the layout
abbrev pub solution_layout : Clustered → (ℕ → List ℕ) → Layout
solution_layout g s = record {
  nodes = map (solved_node g s) (below (nodes g));
  clusters = map (solved_cluster g s) (inner_clusters g);
}

-- each list turned so that the first of its least items stands first
abbrev pub from_least : Layout → Layout
from_least l = record { nodes = map turned_to_least l.nodes; clusters = map turned_to_least l.clusters }
