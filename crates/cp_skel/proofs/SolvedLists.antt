-- The lists of a solution of the skeletons, and the layout made of them with each list from its least item on.
use Rattle.std.proofs.Common.{◌≡◌, ℕ, zero, suc, ◌-◌, ◌*◌, ◌/◌, ◌<◌, Bool, true, false, List, [], ◌∷◌, length, map, sym, refl, ap, ◌∙◌, subst, ⊎_elim, arith}
use Rattle.std.specs.Prelude.{slice_index, slice_index_or, Some, None}
use Rattle.std.specs.List.{All}
use Rattle.std.proofs.lemmas.Bool.{cases_Bool, cond-false, cond-true}
use Rattle.std.proofs.lemmas.List.{get_or_default, length-map}
use Rattle.cp_conn.specs.NamedGraphs.{rank}
use Rattle.cp_lists.specs.CyclicLists.{Has}
use Rattle.cp_lists.specs.Turns.{IsTurn, turned_to_least}
use Rattle.cp_lists.proofs.DistinctLists.{Has_at}
use Rattle.cp_lists.proofs.LeastItems.{turned_to_least-IsTurn}
use Rattle.cp_lists.proofs.TurnedLists.{turn-filter, turn-map, turn-sym}
use Rattle.cp_board.specs.Rotations.{IsRotationOf}
use Rattle.cp_board.specs.Solutions.{IsSolution, list_in}
use Rattle.cp_cgraph.specs.Clustered.{Clustered, IsClustered, edges, nodes}
use Rattle.cp_cgraph.specs.declared.layout.Layout.{Layout}
use Rattle.cp_border.specs.Borders.{end_dart, node_list}
use Rattle.cp_border.specs.Good.{IsGood}
use Rattle.cp_skel.specs.declared.vertex.Vertex.{Vertex}
use Rattle.cp_skel.specs.declared.vertex.Vertex.TheVariants.{Node}
use Rattle.cp_skel.specs.Skeletons.{all_vertices, below, dart_vertex, is_left, kept_segments, segment_name, skeletons, vertex_name}
use Rattle.cp_skel.specs.SkeletonTables.{name_if_left}
use Rattle.cp_skel.specs.SolutionLayouts.{from_least, name_edge, solution_layout}
use Rattle.cp_skel.specs.VertexLists.{keeps, kept_list}
use Rattle.cp_skel.proofs.DartVertices.{StandsAt}
use Rattle.cp_skel.proofs.KeptSegments.{IsSegmentOf, kept-segment}
use Rattle.cp_skel.proofs.NumberedSystems.{AreEdgeLists, arranged-AreEdgeLists}
use Rattle.cp_skel.proofs.SkeletonGraph.{graph-skeletons, vert_names-skeletons}
use Rattle.cp_skel.proofs.PlanarSkeletons.{solution_layout-node}
use Rattle.cp_skel.proofs.SolutionGood.{Solves-good}
use Rattle.cp_skel.proofs.SolutionLists.{name_edge-is}
use Rattle.cp_skel.proofs.StockDarts.{edge_count, ends, name_kept, name_of, skeleton_graph, vertex_count}
use Rattle.cp_skel.proofs.TurnedLayouts.{from_least-IsTurnedLayout, turned-IsGood}

-- each name stands for an edge
pub name_edge-lt : (g : Clustered) (n : ℕ) → n < length (kept_segments g) → name_edge g n < edges g
name_edge-lt g n lt =
    let t : ℕ = slice_index_or (kept_segments g) n 0 in
    let h : Has t (kept_segments g) = name_kept g n lt in
    let r = kept-segment g t h in
    let half : 2 * t / 2 ≡ t = omega arith in
    let of : IsSegmentOf g (2 * t / 2) r.0 r.1 = subst (λ (u : ℕ). IsSegmentOf g u r.0 r.1) (sym half) r.2 in
    let stands : StandsAt g (2 * t) r.0 (dart_vertex g (2 * t)) = record { place = r.1; of = of; at = refl } in
    let same : segment_name g (2 * t) ≡ n = ap (rank (kept_segments g)) half ∙ name_of g n lt in
    let is : name_edge g n ≡ r.0 =
    ap (name_edge g) (sym same) ∙ name_edge-is g (2 * t) r.0 (dart_vertex g (2 * t)) stands in
    omega (arith, is, of.edge)

-- a cluster that has a name is left by some edge
pub name_if_left-some : (g : Clustered) (F : ℕ → Vertex) (c v : ℕ) → name_if_left g F c ≡ Some v
    → (is_left g c ≡ true) × (v ≡ vertex_name g (F c))
name_if_left-some g F c v at =
    let b : Bool = is_left g c in
    ⊎_elim
    (λ t. let same : Some v ≡ Some (vertex_name g (F c)) = sym at ∙ cond-true b (Some (vertex_name g (F c))) None t in
    (t, cc))
    (λ f. let none : Some v ≡ None = sym at ∙ cond-false b (Some (vertex_name g (F c))) None f in absurd (cc))
    (cases_Bool b)

-- and one that has none is not
pub name_if_left-none : (g : Clustered) (F : ℕ → Vertex) (c : ℕ) → name_if_left g F c ≡ None → is_left g c ≡ false
name_if_left-none g F c at =
    let b : Bool = is_left g c in
    ⊎_elim
    (λ t. let some : Some (vertex_name g (F c)) ≡ None = sym (cond-true b (Some (vertex_name g (F c))) None t) ∙ at in
    absurd (cc))
    (λ f. f)
    (cases_Bool b)

-- a solution of the skeletons
module _ (g : Clustered) (is : IsClustered g) (lists : List (ℕ × List ℕ)) (solution : IsSolution (skeletons g)
    lists) where
  -- its names are those of the vertices
  pub solution-names : map (λ x. x.0) lists ≡ below (length (all_vertices g))
  solution-names = solution.names ∙ vert_names-skeletons g

  -- each list is one of names of segments
  pub solution-segments : (v : ℕ) → v < length (all_vertices g)
      → All (λ n. n < length (kept_segments g)) (list_in lists v)
  solution-segments v lt k d within =
      let rot : IsRotationOf (skeleton_graph g) (list_in lists) =
      subst (λ i. IsRotationOf i (list_in lists)) (graph-skeletons g) solution.solves.rotation in
      let are : AreEdgeLists (vertex_count g) (edge_count g) (ends g) (list_in lists) =
      arranged-AreEdgeLists (vertex_count g) (edge_count g) (ends g) (list_in lists) rot.arranged in
      let item = are.item v (slice_index (list_in lists v) k) lt (Has_at (list_in lists v) k within) in
      subst (λ (n : ℕ). n < length (kept_segments g)) (get_or_default (list_in lists v) k 0 d within) item.0

  -- the layout is good
  pub from_least-IsGood : IsGood g (from_least (solution_layout g (list_in lists)))
  from_least-IsGood =
      let l : Layout = solution_layout g (list_in lists) in
      turned-IsGood g l (from_least l) is (from_least-IsTurnedLayout l) (Solves-good g (list_in lists) is
      solution.solves)

  -- and it has at each node, up to a turn, the list of the solution
  pub from_least-node : (v : ℕ) → v < nodes g
      → IsTurn (map (segment_name g) (kept_list g (from_least (solution_layout g (list_in lists))) (Node v)))
      (list_in lists (vertex_name g (Node v)))
  from_least-node v lt =
      let l : Layout = solution_layout g (list_in lists) in
      let turn : IsTurn (node_list l v) (node_list (from_least l) v) = (from_least-IsTurnedLayout l).nodes_turned v in
      let darts : IsTurn (map (end_dart g) (node_list l v)) (map (end_dart g) (node_list (from_least l) v)) =
      turn-map (end_dart g) (node_list l v) (node_list (from_least l) v) turn in
      let kept : IsTurn (kept_list g l (Node v)) (kept_list g (from_least l) (Node v)) =
      turn-filter (keeps g) (map (end_dart g) (node_list l v)) (map (end_dart g) (node_list (from_least l) v)) darts in
      let named : IsTurn (map (segment_name g) (kept_list g l (Node v)))
      (map (segment_name g) (kept_list g (from_least l) (Node v))) =
      turn-map (segment_name g) (kept_list g l (Node v)) (kept_list g (from_least l) (Node v)) kept in
      turn-sym (list_in lists (vertex_name g (Node v)))
      (map (segment_name g) (kept_list g (from_least l) (Node v)))
      (subst (λ (xs : List ℕ). IsTurn xs (map (segment_name g) (kept_list g (from_least l) (Node v))))
      (solution_layout-node g (list_in lists) is solution.solves v lt) named)
