-- The border graph: the clustered graph and the borders of its clusters as one rotation system.
use Rattle.std.specs.Prelude.{ℕ, zero, suc, ◌+◌, ◌-◌, ◌*◌, ◌/◌, ◌%◌, ◌==◌, cond, List, [], ◌∷◌, ◌++◌, map, length, slice_index, slice_index_or}
use Rattle.std.specs.List.{flat_map, position_or_len, range_with_len}
pub use Rattle.cp_cgraph.specs.Crossings.{crossed}
use Rattle.cp_cgraph.specs.Clustered.{Clustered, nodes, edges, source, target}
use Rattle.cp_cgraph.specs.Crossings.{contains, crossings}
use Rattle.cp_cgraph.specs.declared.layout.Layout.{Layout}
use Rattle.cp_rot.specs.Systems.{System, place_after}

-- the sum of the first n values of f
abbrev pub sum_below : (ℕ → ℕ) → ℕ → ℕ
sum_below f zero = 0
sum_below f (suc n) = sum_below f n + f n

-- the list of a node, and of a cluster other than the root
abbrev pub node_list : Layout → ℕ → List ℕ
node_list l v = slice_index_or l.nodes v []

-- the border list of cluster k
abbrev pub cluster_list : Layout → ℕ → List ℕ
cluster_list l c = slice_index_or l.clusters (c - 1) []

-- Vertices: the nodes, and behind them one border vertex for each crossing, by edge and along it.
abbrev pub first_border : Clustered → ℕ → ℕ
first_border g e = nodes g + sum_below (crossed g) e

-- where edge e crosses the border of cluster c
abbrev pub border_vertex : Clustered → ℕ → ℕ → ℕ
border_vertex g e c = first_border g e + position_or_len (λ x. x == c) (crossings g e)

-- Edges: the segments, by edge and along it in its direction, and behind them the border edges.
abbrev pub first_segment : Clustered → ℕ → ℕ
first_segment g e = e + sum_below (crossed g) e

-- the number of segments of all edges
abbrev pub segments : Clustered → ℕ
segments g = first_segment g (edges g)

-- the dart of a segment that touches the node where dart d of the graph stands
abbrev pub end_dart : Clustered → ℕ → ℕ
end_dart g d = cond (d % 2 == 0) (2 * first_segment g (d / 2)) (2 * (first_segment g (d / 2) + crossed g (d / 2)) + 1)

-- the border edges of cluster c, by its place in the list of c where each begins
abbrev pub first_border_edge : Clustered → Layout → ℕ → ℕ
first_border_edge g l c = segments g + sum_below (λ k. length (cluster_list l (k + 1))) (c - 1)

-- the place before place i in a cyclic list of n items
abbrev pub place_before : ℕ → ℕ → ℕ
place_before n i = cond (i == 0) (n - 1) (i - 1)

-- the vertices of the segments of edge e: each segment runs from one border vertex to the next
abbrev pub segment_ends : Clustered → ℕ → List ℕ
segment_ends g e = source g e ∷ flat_map (λ b. b ∷ b ∷ []) (range_with_len (first_border g e) (crossed g e)) ++ target g
    e ∷ []

-- the vertices of the border edges of cluster c: from each item of its list to the item behind it
abbrev pub border_ends : Clustered → Layout → ℕ → List ℕ
border_ends g l c =
    let xs = cluster_list l c in
    flat_map (λ i. border_vertex g (slice_index xs i) c ∷ border_vertex g (slice_index xs (place_after (length xs) i)) c
    ∷ []) (range_with_len 0 (length xs))

-- The list of the border vertex at the i-th crossing of edge e: the border edge that begins there,
-- the segment inside the cluster, the border edge that ends there, the segment outside.
abbrev pub border_list : Clustered → Layout → ℕ → ℕ → List ℕ
border_list g l e i =
    let c = slice_index (crossings g e) i in
    let xs = cluster_list l c in
    let k = position_or_len (λ x. x == e) xs in
    let toward_source = 2 * (first_segment g e + i) + 1 in
    let toward_target = 2 * (first_segment g e + i + 1) in
    let begins = 2 * (first_border_edge g l c + k) in
    let ends = 2 * (first_border_edge g l c + place_before (length xs) k) + 1 in
    cond (contains g c (source g e)) (begins ∷ toward_source ∷ ends ∷ toward_target ∷ [])
    (begins ∷ toward_target ∷ ends ∷ toward_source ∷ [])

-- the whole border graph
abbrev pub borders : Clustered → Layout → System
borders g l = record {
  vertices = first_border g (edges g);
  at = flat_map (segment_ends g) (range_with_len 0 (edges g)) ++ flat_map (border_ends g l)
      (range_with_len 1 (length g.parents));
  lists = map (map (end_dart g)) l.nodes ++ flat_map (λ e. map (border_list g l e) (range_with_len 0 (crossed g e)))
      (range_with_len 0 (edges g));
}
