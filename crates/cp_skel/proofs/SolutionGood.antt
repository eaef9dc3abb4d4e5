-- A solution of the skeletons gives a good layout.
use Rattle.std.proofs.Common.{◌≡◌, ℕ, zero, suc, ◌+◌, ◌*◌, ◌/◌, ◌<◌, ◌≤◌, Bool, true, false, List, [], ◌∷◌, ◌++◌, map, reverse, sym, refl, ap, ap₂, ◌∙◌, subst, inl, inr, ⊎_elim, arith}
use Rattle.std.specs.Prelude.{slice_index}
use Rattle.std.specs.List.{All, filter, flat_map, range_with_len}
use Rattle.std.proofs.lemmas.Bool.{cases_Bool, cases_eq, cond-true}
use Rattle.std.proofs.lemmas.List.{append-nil, map-append}
use Rattle.std.proofs.lemmas.List.Elements.{filter-append}
use Rattle.cp_lists.specs.CyclicLists.{Has}
use Rattle.cp_lists.specs.Turns.{IsTurn}
use Rattle.cp_lists.proofs.FilteredLists.{filter_all, filter_no}
use Rattle.cp_lists.proofs.MappedLists.{map_agree_on, map_on-Has}
use Rattle.cp_lists.proofs.ReversedLists.{map-reverse}
use Rattle.cp_lists.proofs.TurnedLists.{turn-map, turn-refl, turn-sym}
use Rattle.cp_board.specs.Rotations.{IsRotationOf, dart}
use Rattle.cp_board.specs.Solutions.{IsMirror, Solves, second_of}
use Rattle.cp_cgraph.specs.Clustered.{Clustered, IsClustered, clusters, edges, node_of, nodes, source, target}
use Rattle.cp_cgraph.specs.Crossings.{crossings, leaves}
use Rattle.cp_cgraph.specs.declared.layout.Layout.{Layout}
use Rattle.cp_border.specs.Borders.{crossed, end_dart, first_segment, segments}
use Rattle.cp_border.specs.Good.{IsArranged, IsGood}
use Rattle.cp_border.proofs.Rotation.{crossing_at}
use Rattle.cp_maps.specs.Genus.{IsFlat}
use Rattle.cp_maps.specs.Maps.{IsMapOf, next_by}
use Rattle.cp_faces.specs.Twins.{twin}
use Rattle.cp_maps.proofs.ListFacts.{has_yes}
use Rattle.cp_faces.proofs.Twins.{twin_even}
use Rattle.cp_skel.specs.LoopLists.{AllTurned, Looped, bare_lists, loop_darts, looped_lists}
use Rattle.cp_skel.specs.SkeletonLists.{border_pair, in_dart, inner_clusters, out_dart, skeleton_lists}
use Rattle.cp_skel.specs.declared.vertex.Vertex.{Vertex}
use Rattle.cp_skel.specs.declared.vertex.Vertex.TheVariants.{Child, Node, Outside}
use Rattle.cp_skel.specs.Skeletons.{below, dart_vertex, is_left, kept_segments, segment_name, skeleton_pipe, skeletons, vertex_name}
use Rattle.cp_skel.specs.SolutionLayouts.{loops_at, name_dart, name_edge, solution_layout, solved_darts, solved_node}
use Rattle.cp_skel.specs.VertexLists.{Agree, border_edges, keeps, kept_list, stock_dart, stock_list, vertex_list}
use Rattle.cp_skel.proofs.AgreeingLists.{IsMapOf-kept, IsMapOf-stock, pair-is, stock-IsFlat, stock_lists}
use Rattle.cp_skel.proofs.ClosedBorders.{inner_cluster}
use Rattle.cp_skel.proofs.DartVertices.{StandsAt-kept, leaves-no_loop, end_dart-StandsAt, in_dart-StandsAt, out_dart-StandsAt}
use Rattle.cp_skel.proofs.GoodLayouts.{good_from}
use Rattle.cp_skel.proofs.KeptDarts.{DartKind, at_node, dart_kind, first_end, inside, outside, second_end}
use Rattle.cp_skel.proofs.LayoutSolutions.{edge_count-le, kept_list-child, kept_list-outside}
use Rattle.cp_skel.proofs.NumberedSystems.{AreEdgeLists, arranged-AreEdgeLists}
use Rattle.cp_skel.proofs.SkeletonGraph.{graph-skeletons}
use Rattle.cp_skel.proofs.SkeletonPipes.{pipe-of, second_of-pipe}
use Rattle.cp_skel.proofs.SkeletonVertices.{child-IsVertex, is_left-from, node_of-lt, outside-IsVertex}
use Rattle.cp_skel.proofs.SolutionArranged.{IsArranged-solution, cluster_list-solved, loops_at-Has, node_list-solved}
use Rattle.cp_skel.proofs.SolutionLists.{child_name, dart_at, dart_named, loop-Has, named_dart, node_name, solved-Has}
use Rattle.cp_skel.proofs.StockDarts.{edge_count, ends, skeleton_graph, vertex_count}
use Rattle.cp_skel.proofs.TabledLists.{map_twice}
use Rattle.cp_skel.proofs.TurnedMaps.{IsMapOf-blocks}
use Rattle.cp_skel.proofs.VertexLists.{border_edges-inner, end_dart-no_loop, has-true}

-- where no item passes, none is kept
filter_none : (p : ℕ → Bool) (xs : List ℕ) → ((d : ℕ) → Has d xs → p d ≡ false) → filter p xs ≡ []
filter_none p [] none = refl
filter_none p (x ∷ xs) none = filter_no p x xs (none x (inl refl)) ∙ filter_none p xs (λ d h. none d (inr h))

-- lists are turns of themselves
AllTurned-refl : (rows : List (List ℕ)) → AllTurned rows rows
AllTurned-refl [] = tt
AllTurned-refl (xs ∷ rows) = (turn-refl xs, AllTurned-refl rows)

-- the darts of loops at a node
loop_ends-are : (g : Clustered) (es : List ℕ) → ((e : ℕ) → Has e es → crossed g e ≡ 0)
    → map (end_dart g) (loop_darts (map (λ e. 2 * e) es)) ≡ loop_darts (map (λ e. 2 * first_segment g e) es)
loop_ends-are g [] none = refl
loop_ends-are g (e ∷ es) none =
    let second : end_dart g (twin (2 * e)) ≡ twin (2 * first_segment g e) =
    ap (end_dart g) (twin_even (2 * e) (omega arith)) ∙ second_end g e
    ∙ (let h : 2 * (first_segment g e + crossed g e) + 1 ≡ 2 * first_segment g e + 1 =
    omega (arith, none e (inl refl)) in h)
    ∙ sym (twin_even (2 * first_segment g e) (omega arith)) in
    ap₂ (λ (x : ℕ) (xs : List ℕ). x ∷ xs) (first_end g e)
    (ap₂ (λ (x : ℕ) (xs : List ℕ). x ∷ xs) second (loop_ends-are g es (λ d h. none d (inr h))))

-- a loop crosses no border
loop-crossed : (g : Clustered) → IsClustered g → (e : ℕ) → e < edges g → source g e ≡ target g e → crossed g e ≡ 0
loop-crossed g is e lt same = ⊎_elim
    (λ none. none)
    (λ some. let c = crossing_at g is e 0 lt (omega arith) in
    absurd (leaves-no_loop g (slice_index (crossings g e) 0) e c.left same))
    (cases_eq (crossed g e) 0)

-- lists of the edges of the instance
module _ (g : Clustered) (is : IsClustered g) (s : ℕ → List ℕ)
    (are : AreEdgeLists (vertex_count g) (edge_count g) (ends g) s) where
  -- the layout
  abbrev l : Layout
  l = solution_layout g s

  -- it is arranged
  ar : IsArranged g l
  ar = IsArranged-solution g is s are

  -- the darts of segments at a vertex
  pub stock-is : (p : Vertex) → stock_list (skeleton_graph g) g s (vertex_name g p)
      ≡ map (dart_at g is s are p) (s (vertex_name g p))
  stock-is p = map_twice (dart (skeleton_graph g) (vertex_name g p)) (stock_dart g) (s (vertex_name g p))

  -- the darts of a node without loops are those of the solution
  pub ends-are : (v : ℕ) → v < nodes g
      → map (end_dart g) (solved_darts g s v) ≡ stock_list (skeleton_graph g) g s (vertex_name g (Node v))
  ends-are v lt =
      let names : List ℕ = s (vertex_name g (Node v)) in
      map_twice (name_dart g v) (end_dart g) names
      ∙ map_agree_on (λ n. end_dart g (name_dart g v n)) (dart_at g is s are (Node v)) names
      (λ n h. let w = node_name g is s are v n lt h in ap (end_dart g) w.5 ∙ sym w.4)
      ∙ sym (stock-is (Node v))

  -- with loops they are those of the layout
  looped-are : (v : ℕ) → v < nodes g → map (end_dart g) (solved_node g s v)
      ≡ map (end_dart g) (solved_darts g s v) ++ loop_darts (map (λ e. 2 * first_segment g e) (loops_at g v))
  looped-are v lt =
      map-append (end_dart g) (solved_darts g s v) (loop_darts (map (λ e. 2 * e) (loops_at g v)))
      ∙ ap (λ ys. map (end_dart g) (solved_darts g s v) ++ ys)
      (loop_ends-are g (loops_at g v)
      (λ e h. let w = loops_at-Has g v e h in loop-crossed g is e w.0 (w.1 ∙ sym w.2)))

  -- the loops left out, the first are left
  pub kept_node-is : (v : ℕ) → v < nodes g
      → filter (keeps g) (map (end_dart g) (solved_node g s v)) ≡ map (end_dart g) (solved_darts g s v)
  kept_node-is v lt =
      let xs : List ℕ = map (end_dart g) (solved_darts g s v) in
      let loops : List ℕ = loop_darts (map (λ e. 2 * e) (loops_at g v)) in
      let ys : List ℕ = map (end_dart g) loops in
      ap (filter (keeps g)) (map-append (end_dart g) (solved_darts g s v) loops)
      ∙ filter-append (keeps g) xs ys
      ∙ ap₂ (λ (us : List ℕ) (ws : List ℕ). us ++ ws)
      (filter_all (keeps g) xs (λ d h.
      let m = map_on-Has (end_dart g) d (solved_darts g s v) h in
      let w = solved-Has g is s are v lt m.0 m.1 in
      has_yes (d / 2) (kept_segments g)
      (subst (λ x. Has (x / 2) (kept_segments g)) m.2
      (StandsAt-kept g (end_dart g m.0) (m.0 / 2) (Node (node_of g m.0)) (end_dart-StandsAt g m.0 w.0 w.1)))))
      (filter_none (keeps g) ys (λ d h.
      let m = map_on-Has (end_dart g) d loops h in
      let loop = loops_at-Has g v (m.0 / 2) (loop-Has (loops_at g v) m.0 m.1) in
      ⊎_elim
      (λ kept. absurd (end_dart-no_loop g m.0
      (subst (λ x. Has (x / 2) (kept_segments g)) (sym m.2) (has-true (d / 2) (kept_segments g) kept))
      (loop.1 ∙ sym loop.2)))
      (λ left. left)
      (cases_Bool (keeps g d))))
      ∙ append-nil xs

  -- the edges that the layout lists for a cluster that edge e leaves
  edges-are : (c e : ℕ) → 0 < c → c < clusters g → e < edges g → leaves g c e ≡ true
      → border_edges l c ≡ map (name_edge g) (s (vertex_name g (Child c)))
  edges-are c e above cluster lt leave =
      border_edges-inner l c above ∙ cluster_list-solved g is s are c above cluster
      ∙ cond-true (is_left g c) (map (name_edge g) (s (vertex_name g (Child c)))) [] (is_left-from g c e above lt leave)

  -- the list at a cluster, seen from its parent
  child-are : (c e : ℕ) → 0 < c → c < clusters g → e < edges g → leaves g c e ≡ true
      → kept_list g l (Child c) ≡ stock_list (skeleton_graph g) g s (vertex_name g (Child c))
  child-are c e above cluster lt leave =
      let names : List ℕ = s (vertex_name g (Child c)) in
      kept_list-child g l is ar c ∙ ap (map (out_dart g c)) (edges-are c e above cluster lt leave)
      ∙ map_twice (name_edge g) (out_dart g c) names
      ∙ map_agree_on (λ n. out_dart g c (name_edge g n)) (dart_at g is s are (Child c)) names
      (λ n h. let w = child_name g is s are c e n above cluster lt leave h in ap (out_dart g c) w.4 ∙ sym w.3)
      ∙ sym (stock-is (Child c))

  -- where the ends of pipes mirror each other
  module _ (mirrored : All (λ p. IsMirror (second_of p) (s p.a) (s p.b)) (skeletons g).pipes) where
    -- the list seen from inside, up to a turn
    outside-turn : (c e : ℕ) → 0 < c → c < clusters g → e < edges g → leaves g c e ≡ true
        → IsTurn (stock_list (skeleton_graph g) g s (vertex_name g (Outside c))) (kept_list g l (Outside c))
    outside-turn c e above cluster lt leave =
        let names : List ℕ = s (vertex_name g (Child c)) in
        let at : ℕ → ℕ = dart_at g is s are (Outside c) in
        let pipe = pipe-of g (λ p. IsMirror (second_of p) (s p.a) (s p.b)) c e above cluster lt leave mirrored in
        let second : ℕ → ℕ = second_of (skeleton_pipe g pipe.0 c) in
        let partner : (n : ℕ) → Has n names → at (second n) ≡ in_dart g c (name_edge g n) =
        λ n h.
        let w = child_name g is s are c e n above cluster lt leave h in
        let name : n ≡ segment_name g (out_dart g c w.0) =
        sym (named_dart g is s are (Child c) n (child-IsVertex g is c e above cluster lt leave) h).2
        ∙ ap (segment_name g) w.3 in
        let stands = in_dart-StandsAt g is c w.0 w.1 cluster w.2 in
        ap (λ m. at (second m)) name
        ∙ ap at (second_of-pipe g is c cluster pipe.0 w.0 w.1 w.2)
        ∙ (dart_named g is s are (Outside c) (in_dart g c w.0) (outside-IsVertex g c e above cluster lt leave)
        (StandsAt-kept g (in_dart g c w.0) w.0 (Outside c) stands) stands.at).1
        ∙ ap (in_dart g c) (sym w.4) in
        let whole : map at (reverse (map second names)) ≡ kept_list g l (Outside c) =
        map-reverse at (map second names)
        ∙ ap reverse
        (map_twice second at names ∙ map_agree_on (λ n. at (second n)) (λ n. in_dart g c (name_edge g n)) names
        partner ∙ sym (map_twice (name_edge g) (in_dart g c) names)
        ∙ ap (map (in_dart g c)) (sym (edges-are c e above cluster lt leave)))
        ∙ sym (kept_list-outside g l is ar c) in
        subst (λ xs. IsTurn xs (kept_list g l (Outside c))) (sym (stock-is (Outside c)))
        (turn-sym (kept_list g l (Outside c)) (map at (s (vertex_name g (Outside c))))
        (subst (λ xs. IsTurn xs (map at (s (vertex_name g (Outside c))))) whole
        (turn-map at (reverse (map second names)) (s (vertex_name g (Outside c))) pipe.1)))

    -- the solution agrees with the layout
    Agree-solution : Agree (skeleton_graph g) g l s
    Agree-solution d h = by (dart_kind g is d h)
      where
        turned : Vertex → Type 0
        turned p = IsTurn (stock_list (skeleton_graph g) g s (vertex_name g p)) (kept_list g l p)

        equal : (p : Vertex) → kept_list g l p ≡ stock_list (skeleton_graph g) g s (vertex_name g p) → turned p
        equal p same =
            subst (IsTurn (stock_list (skeleton_graph g) g s (vertex_name g p))) (sym same)
            (turn-refl (stock_list (skeleton_graph g) g s (vertex_name g p)))

        by : DartKind g d → turned (dart_vertex g d)
        by (at_node x lt ne at) =
            let v : ℕ = node_of g x in
            let less : node_of g x < nodes g = node_of-lt g is x lt in
            subst turned (sym (ap (dart_vertex g) at ∙ (end_dart-StandsAt g x lt ne).at))
            (equal (Node v)
            (ap (λ xs. filter (keeps g) (map (end_dart g) xs)) (node_list-solved g is s are v less)
            ∙ kept_node-is v less ∙ ends-are v less))
        by (inside c e above cluster lt leave at) =
            subst turned (sym (ap (dart_vertex g) at ∙ (in_dart-StandsAt g is c e lt cluster leave).at))
            (outside-turn c e above cluster lt leave)
        by (outside c e above cluster lt leave at) =
            subst turned (sym (ap (dart_vertex g) at ∙ (out_dart-StandsAt g is c e lt cluster leave).at))
            (equal (Child c) (child-are c e above cluster lt leave))

  -- the lists of nodes, with their loops
  abbrev node_pairs : List Looped
  node_pairs = map (λ v. (map (end_dart g) (solved_darts g s v), map (λ e. 2 * first_segment g e) (loops_at g v)))
      (below (nodes g))

  -- with loops they are the lists of the layout, and without loops those of the solution
  looped_lists-are : (k n : ℕ) → k + n ≤ nodes g
      → map (map (end_dart g)) (map (solved_node g s) (range_with_len k n))
      ≡ looped_lists (map (λ v. (
        map (end_dart g) (solved_darts g s v),
        map (λ e. 2 * first_segment g e) (loops_at g v),
      )) (range_with_len k n))
  looped_lists-are k zero le = refl
  looped_lists-are k (suc n) le =
      ap₂ (λ (xs : List ℕ) (rows : List (List ℕ)). xs ∷ rows) (looped-are k (omega arith))
      (looped_lists-are (k + 1) n (omega arith))

  -- and without loops they are those of the solution
  bare_lists-are : (k n : ℕ) → k + n ≤ nodes g
      → map (filter (keeps g)) (map (map (end_dart g)) (map (solved_node g s) (range_with_len k n)))
      ≡ bare_lists (map (λ v. (
        map (end_dart g) (solved_darts g s v),
        map (λ e. 2 * first_segment g e) (loops_at g v),
      )) (range_with_len k n))
  bare_lists-are k zero le = refl
  bare_lists-are k (suc n) le =
      ap₂ (λ (xs : List ℕ) (rows : List (List ℕ)). xs ∷ rows) (kept_node-is k (omega arith))
      (bare_lists-are (k + 1) n (omega arith))

  -- no loop stands in the lists of borders
  kept_pairs : (cs : List ℕ) → ((c : ℕ) → Has c cs → 0 < c)
      → map (filter (keeps g)) (flat_map (border_pair g l) cs) ≡ flat_map (border_pair g l) cs
  kept_pairs [] all = refl
  kept_pairs (c ∷ cs) all =
      let rest : List (List ℕ) = flat_map (border_pair g l) cs in
      let pair : List (List ℕ) = vertex_list g l (Outside c) ∷ vertex_list g l (Child c) ∷ [] in
      let same : border_pair g l c ≡ pair = pair-is g l c (all c (inl refl)) in
      ap (λ p. map (filter (keeps g)) (p ++ rest)) same
      ∙ ap₂ (λ (xs : List ℕ) (rows : List (List ℕ)). xs ∷ rows) (kept_list-outside g l is ar c)
      (ap₂ (λ (xs : List ℕ) (rows : List (List ℕ)). xs ∷ rows) (kept_list-child g l is ar c)
      (kept_pairs cs (λ b h. all b (inr h))))
      ∙ ap (λ p. p ++ rest) (sym same)

  -- a flat map of the lists of the layout without loops makes the layout good
  good-kept : (f : ℕ → ℕ) → IsMapOf (2 * segments g) f (map (filter (keeps g)) (skeleton_lists g l))
      → IsFlat (segments g) f → IsGood g l
  good-kept f m flat_f =
      let pairs : List (List ℕ) = flat_map (border_pair g l) (inner_clusters g) in
      let rows : List (List ℕ) = map (map (end_dart g)) l.nodes in
      let looped : skeleton_lists g l ≡ pairs ++ looped_lists node_pairs =
      ap (λ xs. pairs ++ xs) (looped_lists-are 0 (nodes g) (omega arith)) in
      let bare : map (filter (keeps g)) (skeleton_lists g l) ≡ pairs ++ bare_lists node_pairs =
      map-append (filter (keeps g)) pairs rows
      ∙ ap₂ (λ (xs : List (List ℕ)) (ys : List (List ℕ)). xs ++ ys)
      (kept_pairs (inner_clusters g) (λ c h. (inner_cluster g c h).0)) (bare_lists-are 0 (nodes g) (omega arith)) in
      good_from g l is ar f node_pairs pairs
      (subst (λ xs. AllTurned xs (pairs ++ looped_lists node_pairs)) (sym looped)
      (AllTurned-refl (pairs ++ looped_lists node_pairs)))
      (IsMapOf-blocks (2 * segments g) f pairs (bare_lists node_pairs)
      (subst (IsMapOf (2 * segments g) f) bare m)) flat_f

-- the layout of a solution is good
pub Solves-good : (g : Clustered) (s : ℕ → List ℕ) → IsClustered g → Solves (skeletons g) s
    → IsGood g (solution_layout g s)
Solves-good g s is solves =
    let rot : IsRotationOf (skeleton_graph g) s = subst (λ i. IsRotationOf i s) (graph-skeletons g) solves.rotation in
    let are : AreEdgeLists (vertex_count g) (edge_count g) (ends g) s =
    arranged-AreEdgeLists (vertex_count g) (edge_count g) (ends g) s rot.arranged in
    let rows : List (List ℕ) = stock_lists g is s are in
    let f : ℕ → ℕ = next_by rows in
    let m : IsMapOf (2 * segments g) f rows = IsMapOf-stock g is s are in
    good-kept g is s are f
    (IsMapOf-kept g is s are (solution_layout g s) (IsArranged-solution g is s are)
    (Agree-solution g is s are solves.mirrored) f m)
    ((stock-IsFlat g is s are f m (edge_count-le g)).0 rot.flat)
