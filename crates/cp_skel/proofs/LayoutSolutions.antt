-- A good layout solves the skeletons.
use Rattle.std.proofs.Common.{◌≡◌, ◌⊎◌, ℕ, ◌+◌, ◌*◌, ◌/◌, ◌<◌, ◌≤◌, Bool, true, false, List, [], map, reverse, sym, refl, ap, ◌∙◌, subst, inl, inr, ⊎_elim, arith}
use Rattle.std.specs.Prelude.{cond, eqb, slice_index_or}
use Rattle.std.specs.List.{All, range_with_len}
use Rattle.std.proofs.lemmas.Bool.{cases_eq, cond-false, cond-true, eq-eqb, ne_eqb}
use Rattle.std.proofs.lemmas.List.FromFn.{get_or-map-range_with_len, length-map-range_with_len, length-range_with_len}
use Rattle.cp_lists.specs.CyclicLists.{Distinct, Has}
use Rattle.cp_lists.specs.Turns.{IsTurn}
use Rattle.cp_lists.proofs.FilteredLists.{filter_all}
use Rattle.cp_lists.proofs.MappedLists.{Distinct-map_on, Has-map_on, map_agree_on, map_on-Has, map_undone}
use Rattle.cp_lists.proofs.ReversedLists.{map-reverse, reverse-Has}
use Rattle.cp_lists.proofs.TurnedLists.{turn-refl}
use Rattle.cp_conn.specs.NamedGraphs.{rank}
use Rattle.cp_conn.proofs.DistinctSubsets.{subset_length}
use Rattle.cp_board.specs.Rotations.{IsRotationOf, dart}
use Rattle.cp_board.specs.Solutions.{IsInDirection, IsMirror, Solves, second_of}
use Rattle.cp_board.specs.declared.parts.Kind.TheVariants.{P}
use Rattle.cp_board.specs.declared.parts.Vert.{Vert}
use Rattle.cp_cgraph.specs.Clustered.{Clustered, IsClustered, clusters, edges}
use Rattle.cp_cgraph.specs.Crossings.{leaves}
use Rattle.cp_cgraph.specs.declared.layout.Layout.{Layout}
use Rattle.cp_border.specs.Borders.{segments}
use Rattle.cp_border.specs.Good.{IsArranged, IsGood}
use Rattle.cp_maps.specs.Genus.{IsFlat}
use Rattle.cp_maps.specs.Maps.{IsMapOf, next_by}
use Rattle.cp_maps.proofs.ListFacts.{has_yes}
use Rattle.cp_skel.specs.SkeletonLists.{in_dart, out_dart}
use Rattle.cp_skel.specs.declared.vertex.Vertex.{Vertex}
use Rattle.cp_skel.specs.declared.vertex.Vertex.TheVariants.{Child, Node, Outside}
use Rattle.cp_skel.specs.Skeletons.{IsVertex, all_vertices, dart_vertex, kept_segments, segment_name, skeleton_pipe, skeletons, vertex_name}
use Rattle.cp_skel.specs.VertexLists.{Agree, border_edges, keeps, kept_list, layout_list, stock_dart, stock_list}
use Rattle.cp_skel.proofs.AgreeingLists.{IsMapOf-kept, IsMapOf-stock, stock-IsFlat, stock_lists}
use Rattle.cp_skel.proofs.DartVertices.{StandsAt-kept, in_dart-StandsAt, out_dart-StandsAt}
use Rattle.cp_skel.proofs.GoodLayouts.{kept_skeletons}
use Rattle.cp_skel.proofs.KeptDarts.{segment-differ}
use Rattle.cp_skel.proofs.KeptSegments.{kept-segment, kept_segment-lt, kept_segments-Distinct}
use Rattle.cp_skel.proofs.NumberedSystems.{AreEdgeLists, AreEdgeLists-arranged, dart_cases}
use Rattle.cp_skel.proofs.Ranges.{Has-range}
use Rattle.cp_skel.proofs.SkeletonGraph.{graph-skeletons}
use Rattle.cp_skel.proofs.SkeletonPipes.{All-pipes, second_of-pipe}
use Rattle.cp_skel.proofs.SkeletonVertices.{child-IsVertex, kept-IsVertex, outside-IsVertex}
use Rattle.cp_skel.proofs.StockDarts.{edge_count, ends, ends_at, kept-stock, kept_name, name_kept, name_of, skeleton_graph, vertex_count}
use Rattle.cp_skel.proofs.TabledLists.{map_twice}
use Rattle.cp_skel.proofs.VertexLists.{border_edge, kept-Has, kept_list-Distinct, kept_list-stands}

-- there are no more segments that are kept than segments
pub edge_count-le : (g : Clustered) → edge_count g ≤ segments g
edge_count-le g =
    let h = subset_length (kept_segments g) (range_with_len 0 (segments g)) (kept_segments-Distinct g)
    (λ t k. Has-range t 0 (segments g) (omega arith) (omega (arith, kept_segment-lt g t k))) in
    omega (arith, h, length-range_with_len 0 (segments g))

-- each vertex is a P-vertex, so all directions are right
pub in_direction-skeletons : (g : Clustered) (back : ℕ → Bool) (s : ℕ → List ℕ)
    → All (λ v. IsInDirection back (s v.name) v.kind) (skeletons g).verts
in_direction-skeletons g back s i d lt =
    let vert : ℕ → Vert = λ v. record { name = v; kind = P } in
    let less : i < vertex_count g = omega (arith, lt, length-map-range_with_len vert 0 (vertex_count g)) in
    subst (λ v. IsInDirection back (s v.name) v.kind)
    (sym (get_or-map-range_with_len vert 0 (vertex_count g) i i d less (omega arith))) tt

-- darts of one segment at one vertex are equal
same_dart : (g : Clustered) → IsClustered g → (d b : ℕ) → Has (d / 2) (kept_segments g) → d / 2 ≡ b / 2
    → dart_vertex g d ≡ dart_vertex g b → d ≡ b
same_dart g is d b h half same =
    let r = kept-segment g (d / 2) h in
    ⊎_elim
    (λ even. ⊎_elim
    (λ even_b. even ∙ ap (λ t. 2 * t) half ∙ sym even_b)
    (λ odd_b. absurd (segment-differ g is (d / 2) r.0 r.1 r.2
    (ap (dart_vertex g) (sym even) ∙ same ∙ ap (dart_vertex g) (odd_b ∙ ap (λ t. 2 * t + 1) (sym half)))))
    (dart_cases b))
    (λ odd. ⊎_elim
    (λ even_b. absurd (segment-differ g is (d / 2) r.0 r.1 r.2
    (ap (dart_vertex g) (ap (λ t. 2 * t) half ∙ sym even_b) ∙ sym same ∙ ap (dart_vertex g) odd)))
    (λ odd_b. odd ∙ ap (λ t. 2 * t + 1) half ∙ sym odd_b)
    (dart_cases b))
    (dart_cases d)

-- the dart of a segment at an end of its edge
end_dart-of : (g : Clustered) (v n : ℕ) → n < edge_count g → ((ends g n).0 ≡ v) ⊎ ((ends g n).1 ≡ v)
    → (d : ℕ) × Has (d / 2) (kept_segments g) × (vertex_name g (dart_vertex g d) ≡ v) × (segment_name g d ≡ n)
end_dart-of g v n lt end =
    let t : ℕ = slice_index_or (kept_segments g) n 0 in
    let first_half : 2 * t / 2 ≡ t = omega arith in
    let second_half : (2 * t + 1) / 2 ≡ t = omega arith in
    ⊎_elim
    (λ first. (
      2 * t,
      subst (λ u. Has u (kept_segments g)) (sym first_half) (name_kept g n lt),
      sym (ap (λ (p : ℕ × ℕ). p.0) (ends_at g n lt)) ∙ first,
      ap (rank (kept_segments g)) first_half ∙ name_of g n lt,
    ))
    (λ second. (
      2 * t + 1,
      subst (λ u. Has u (kept_segments g)) (sym second_half) (name_kept g n lt),
      sym (ap (λ (p : ℕ × ℕ). p.1) (ends_at g n lt)) ∙ second,
      ap (rank (kept_segments g)) second_half ∙ name_of g n lt,
    ))
    end

-- the list of a vertex
pub layout_list-at : (g : Clustered) (l : Layout) (p : Vertex) → IsVertex g p
    → layout_list g l (vertex_name g p) ≡ map (segment_name g) (kept_list g l p)
layout_list-at g l p is_p =
    let v : ℕ = vertex_name g p in
    ap (λ q. cond (eqb (vertex_name g q) v) (map (segment_name g) (kept_list g l q)) []) is_p.at
    ∙ cond-true (eqb v v) (map (segment_name g) (kept_list g l p)) [] (eq-eqb v v refl)

-- an arranged layout
module _ (g : Clustered) (l : Layout) (is : IsClustered g) (ar : IsArranged g l) where
  -- the names of the segments in a list are distinct
  names-Distinct : (p : Vertex) → Distinct (map (segment_name g) (kept_list g l p))
  names-Distinct p = Distinct-map_on (segment_name g) (kept_list g l p)
      (λ d b hd hb same.
      let x = kept_list-stands g l is ar p d hd in
      let y = kept_list-stands g l is ar p b hb in
      same_dart g is d b x.0
      (sym (kept_name g (d / 2) x.0).1 ∙ ap (λ n. slice_index_or (kept_segments g) n 0) same
      ∙ (kept_name g (b / 2) y.0).1)
      (x.1 ∙ sym y.1))
      (kept_list-Distinct g l is ar p)

  -- the lists of the layout have exactly the edges of their vertices
  pub AreEdgeLists-layout : AreEdgeLists (vertex_count g) (edge_count g) (ends g) (layout_list g l)
  AreEdgeLists-layout = record {
    distinct = λ v lt.
        let p : Vertex = slice_index_or (all_vertices g) v (Node 0) in
        let names : List ℕ = map (segment_name g) (kept_list g l p) in
        ⊎_elim
        (λ same. subst Distinct (sym (cond-true (eqb (vertex_name g p) v) names [] (eq-eqb (vertex_name g p) v same)))
        (names-Distinct p))
        (λ ne. subst Distinct (sym (cond-false (eqb (vertex_name g p) v) names [] (ne_eqb (vertex_name g p) v ne))) tt)
        (cases_eq (vertex_name g (slice_index_or (all_vertices g) v (Node 0))) v);
    item = λ v n lt h.
        let p : Vertex = slice_index_or (all_vertices g) v (Node 0) in
        let names : List ℕ = map (segment_name g) (kept_list g l p) in
        ⊎_elim
        (λ same.
        let m = map_on-Has (segment_name g) n (kept_list g l p)
        (subst (Has n) (cond-true (eqb (vertex_name g p) v) names [] (eq-eqb (vertex_name g p) v same)) h) in
        let w = kept_list-stands g l is ar p m.0 m.1 in
        let k = kept-stock g is m.0 w.0 in
        let at : vertex_name g (dart_vertex g m.0) ≡ v = ap (vertex_name g) w.1 ∙ same in
        subst (λ x. (x < edge_count g) × (((ends g x).0 ≡ v) ⊎ ((ends g x).1 ≡ v))) m.2
        (k.0, ⊎_elim (λ e. inl (e ∙ at)) (λ e. inr (e ∙ at)) k.1))
        (λ ne. absurd (subst (Has n)
        (cond-false (eqb (vertex_name g p) v) names [] (ne_eqb (vertex_name g p) v ne)) h))
        (cases_eq (vertex_name g (slice_index_or (all_vertices g) v (Node 0))) v);
    own = λ v n lt less end.
        let w = end_dart-of g v n less end in
        let p : Vertex = dart_vertex g w.0 in
        let names : List ℕ = map (segment_name g) (kept_list g l p) in
        subst (λ x. Has n (layout_list g l x)) w.2
        (subst (Has n) (sym (layout_list-at g l p (kept-IsVertex g is w.0 w.1)))
        (subst (λ x. Has x names) w.3
        (Has-map_on (segment_name g) w.0 (kept_list g l p) (kept-Has g l is ar w.0 w.1))));
  }

  -- they agree with the layout
  pub Agree-layout : Agree (skeleton_graph g) g l (layout_list g l)
  Agree-layout b kept =
      let p : Vertex = dart_vertex g b in
      let is_p : IsVertex g p = kept-IsVertex g is b kept in
      let v : ℕ = vertex_name g p in
      let xs : List ℕ = kept_list g l p in
      let stock : ℕ → ℕ = λ n. stock_dart g (dart (skeleton_graph g) v n) in
      let whole : stock_list (skeleton_graph g) g (layout_list g l) v ≡ xs =
      ap (λ ns. map (stock_dart g) (map (dart (skeleton_graph g) v) ns)) (layout_list-at g l p is_p)
      ∙ map_twice (dart (skeleton_graph g) v) (stock_dart g) (map (segment_name g) xs)
      ∙ map_undone (segment_name g) stock xs
      (λ d h. let w = kept_list-stands g l is ar p d h in
      ap (λ q. stock_dart g (dart (skeleton_graph g) (vertex_name g q) (segment_name g d))) (sym w.1)
      ∙ (kept-stock g is d w.0).2) in
      subst (λ ys. IsTurn ys xs) (sym whole) (turn-refl xs)

  -- no edge that leaves a cluster is a loop, so all its darts are kept
  pub kept_list-child : (c : ℕ) → kept_list g l (Child c) ≡ map (out_dart g c) (border_edges l c)
  kept_list-child c = filter_all (keeps g) (map (out_dart g c) (border_edges l c))
      (λ d h.
      let m = map_on-Has (out_dart g c) d (border_edges l c) h in
      let a = border_edge g l is ar c m.0 m.1 in
      has_yes (d / 2) (kept_segments g)
      (subst (λ x. Has (x / 2) (kept_segments g)) m.2
      (StandsAt-kept g (out_dart g c m.0) m.0 (Child c) (out_dart-StandsAt g is c m.0 a.2 a.1 a.3))))

  -- the same from inside
  pub kept_list-outside : (c : ℕ) → kept_list g l (Outside c) ≡ reverse (map (in_dart g c) (border_edges l c))
  kept_list-outside c = filter_all (keeps g) (reverse (map (in_dart g c) (border_edges l c)))
      (λ d h.
      let m = map_on-Has (in_dart g c) d (border_edges l c) (reverse-Has d (map (in_dart g c) (border_edges l c)) h) in
      let a = border_edge g l is ar c m.0 m.1 in
      has_yes (d / 2) (kept_segments g)
      (subst (λ x. Has (x / 2) (kept_segments g)) m.2
      (StandsAt-kept g (in_dart g c m.0) m.0 (Outside c) (in_dart-StandsAt g is c m.0 a.2 a.1 a.3))))

  -- the ends of a pipe mirror each other
  mirrored-layout : (n c e : ℕ) → 0 < c → c < clusters g → e < edges g → leaves g c e ≡ true
      → IsMirror (second_of (skeleton_pipe g n c)) (layout_list g l (vertex_name g (Child c)))
      (layout_list g l (vertex_name g (Outside c)))
  mirrored-layout n c e above cluster lt leave =
      let es : List ℕ = border_edges l c in
      let second : ℕ → ℕ = second_of (skeleton_pipe g n c) in
      let name : ℕ → ℕ = segment_name g in
      let child : layout_list g l (vertex_name g (Child c)) ≡ map name (map (out_dart g c) es) =
      layout_list-at g l (Child c) (child-IsVertex g is c e above cluster lt leave) ∙ ap (map name)
      (kept_list-child c) in
      let outer : layout_list g l (vertex_name g (Outside c)) ≡ map name (reverse (map (in_dart g c) es)) =
      layout_list-at g l (Outside c) (outside-IsVertex g c e above cluster lt leave)
      ∙ ap (map name) (kept_list-outside c) in
      let partners : map second (map name (map (out_dart g c) es)) ≡ map name (map (in_dart g c) es) =
      ap (map second) (map_twice (out_dart g c) name es)
      ∙ map_twice (λ x. name (out_dart g c x)) second es
      ∙ map_agree_on (λ x. second (name (out_dart g c x))) (λ x. name (in_dart g c x)) es
      (λ x h. let a = border_edge g l is ar c x h in second_of-pipe g is c cluster n x a.2 a.3)
      ∙ sym (map_twice (in_dart g c) name es) in
      let whole : reverse (map second (layout_list g l (vertex_name g (Child c))))
      ≡ layout_list g l (vertex_name g (Outside c)) =
      ap (λ xs. reverse (map second xs)) child ∙ ap reverse partners
      ∙ sym (map-reverse name (map (in_dart g c) es)) ∙ sym outer in
      subst (λ xs. IsTurn xs (layout_list g l (vertex_name g (Outside c)))) (sym whole)
      (turn-refl (layout_list g l (vertex_name g (Outside c))))

-- the lists of a good layout solve the skeletons
pub good-Solves : (g : Clustered) (l : Layout) → IsClustered g → IsGood g l → Solves (skeletons g) (layout_list g l)
good-Solves g l is good =
    let s : ℕ → List ℕ = layout_list g l in
    let ar : IsArranged g l = good.arranged in
    let are = AreEdgeLists-layout g l is ar in
    let rows : List (List ℕ) = stock_lists g is s are in
    let f : ℕ → ℕ = next_by rows in
    let m : IsMapOf (2 * segments g) f rows = IsMapOf-stock g is s are in
    let flat_f : IsFlat (segments g) f =
    kept_skeletons g l is good (keeps g) f (IsMapOf-kept g is s are l ar (Agree-layout g l is ar) f m) in
    record {
      rotation = subst (λ i. IsRotationOf i s) (sym (graph-skeletons g)) record {
        arranged = AreEdgeLists-arranged (vertex_count g) (edge_count g) (ends g) s are;
        flat = (stock-IsFlat g is s are f m (edge_count-le g)).1 flat_f;
      };
      mirrored = All-pipes g (λ p. IsMirror (second_of p) (s p.a) (s p.b))
          (λ n c e above cluster lt leave. mirrored-layout g l is ar n c e above cluster lt leave);
      back = λ c. false;
      in_direction = in_direction-skeletons g (λ c. false) s;
    }
