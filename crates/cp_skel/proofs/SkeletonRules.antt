-- The skeletons keep the rules of an instance.
use Rattle.std.proofs.Common.{◌≡◌, ◌≢◌, ◌⊎◌, ℕ, zero, suc, ◌+◌, ◌*◌, ◌/◌, ◌^◌, ◌<◌, ◌≤◌, true, List, [], ◌∷◌, map, length, sym, refl, ap, ◌∙◌, subst, inl, inr, ⊎_elim, arith, IsPermutation}
use Rattle.std.specs.Prelude.{slice_index, slice_index_or, Some}
use Rattle.std.specs.List.{All, Contains, filter, flat_map, range_with_len, zip}
use Rattle.std.specs.Option.{option_map}
use Rattle.std.proofs.lemmas.Bool.{cases_eq, cases_order}
use Rattle.std.proofs.lemmas.List.Elements.{All-cons, All-nil}
use Rattle.std.proofs.lemmas.List.FromFn.{get_or-range_with_len, length-range_with_len}
use Rattle.cp_lists.specs.CyclicLists.{Distinct, Has, Lacks}
use Rattle.cp_lists.proofs.DistinctLists.{Has-Contains, Lacks-from, has_lacks}
use Rattle.cp_lists.proofs.FilteredLists.{Has-filter, filter-Distinct, filter-Has}
use Rattle.cp_lists.proofs.MappedLists.{Distinct-map_on, Has-map_on, map_on-Has}
use Rattle.cp_conn.specs.NamedGraphs.{edges_at, ends_at, rank}
use Rattle.cp_board.specs.Instances.{AreNames, HasRightEnds, HasRightPairs, IsRightKind, IsSynchronized, cell_of, graph, kind_in, vert_names}
use Rattle.cp_board.specs.Rotations.{dart}
use Rattle.cp_board.specs.declared.parts.Kind.TheVariants.{P}
use Rattle.cp_board.specs.declared.parts.Vert.{Vert}
use Rattle.cp_cgraph.specs.Clustered.{Clustered, IsClustered, clusters, edges, source, target}
use Rattle.cp_cgraph.specs.Crossings.{leaves}
use Rattle.cp_border.specs.Borders.{crossed, first_segment}
use Rattle.cp_border.proofs.Numbering.{sum_below-next}
use Rattle.cp_skel.specs.SkeletonLists.{in_dart, out_dart}
use Rattle.cp_skel.specs.declared.vertex.Vertex.{Vertex}
use Rattle.cp_skel.specs.declared.vertex.Vertex.TheVariants.{Child, Outside}
use Rattle.cp_skel.specs.Skeletons.{IsVertex, below, dart_vertex, is_left, kept_segments, left, segment_name, segments_of, skeleton_edge, skeleton_pipe, skeletons, vertex_name}
use Rattle.cp_skel.specs.VertexLists.{stock_dart}
use Rattle.cp_skel.proofs.DartVertices.{StandsAt, StandsAt-kept, in_dart-StandsAt, out_dart-StandsAt}
use Rattle.cp_skel.proofs.KeptDarts.{segment-differ}
use Rattle.cp_skel.proofs.KeptSegments.{kept-segment, piece-Has, piece_kept, piece_loop, pieces-Has}
use Rattle.cp_skel.proofs.NumberedSystems.{Has-edges_at, edges_at-Has}
use Rattle.cp_lists.proofs.PermutedLists.{IsPermutation-from}
use Rattle.cp_skel.proofs.Ranges.{Distinct-range, Has-range, range-Has}
use Rattle.cp_skel.proofs.RisingLists.{Rising, Rising-append, Rising-filter, Rising-map, Rising-range, rising_at, rising_same}
use Rattle.cp_skel.proofs.SkeletonGraph.{edge_names-skeletons, find_named, graph-skeletons, vert_names-skeletons}
use Rattle.cp_skel.proofs.SkeletonLevels.{sum_below-more}
use Rattle.cp_skel.proofs.SkeletonPipes.{All-pipes, left-Has, left-edge, name-apart}
use Rattle.cp_skel.proofs.SkeletonVertices.{child-IsVertex, kept-IsVertex, outside-IsVertex, vertex_name-apart}
use Rattle.cp_skel.proofs.SolutionLists.{dart-AtChild, dart-AtOutside}
use Rattle.cp_skel.proofs.StockDarts.{edge_count, ends, kept-stock, kept_name, skeleton_graph, stock-stands, vertex_count}
use Rattle.cp_skel.proofs.TabledLists.{map_twice}
use Rattle.cp_skel.proofs.VertexKinds.{kind, number}

-- the numbers below n are names where n is not too large
AreNames-below : (n : ℕ) → n ≤ 2 ^ 63 → AreNames (below n)
AreNames-below n small = record {
  rise = λ k lt.
      let long : length (below n) ≡ n = length-range_with_len 0 n in
      let one : slice_index (below n) k ≡ 0 + k = get_or-range_with_len 0 n k 0 (omega (arith, lt, long)) in
      let two : slice_index (below n) (k + 1) ≡ 0 + (k + 1) =
      get_or-range_with_len 0 n (k + 1) 0 (omega (arith, lt, long)) in
      omega (arith, one, two);
  fit = λ k d lt.
      let long : length (below n) ≡ n = length-range_with_len 0 n in
      let one : slice_index_or (below n) k d ≡ 0 + k = get_or-range_with_len 0 n k d (omega (arith, lt, long)) in
      omega (arith, one, lt, long, small);
}

-- what holds of what is made of each item
pub All-map : {X : Type 0} (Q : X → Type 0) (f : ℕ → X) (xs : List ℕ) → ((x : ℕ) → Has x xs → Q (f x))
    → All Q (map f xs)
All-map Q f [] of = All-nil Q
All-map Q f (x ∷ xs) of = All-cons Q (f x) (map f xs) (of x (inl refl)) (All-map Q f xs (λ y h. of y (inr h)))

-- the names of pipes
pipe_names-are : (g : Clustered) (ns cs : List ℕ) → length ns ≡ length cs
    → map (λ p. p.name) (map (λ x. skeleton_pipe g x.0 x.1) (zip ns cs)) ≡ ns
pipe_names-are g [] cs long = refl
pipe_names-are g (n ∷ ns) [] long = absurd (omega (arith, long))
pipe_names-are g (n ∷ ns) (c ∷ cs) long = ap (λ ms. n ∷ ms) (pipe_names-are g ns cs (omega (arith, long)))

-- there is no cell
no_cells : (ns : List ℕ)
    → flat_map (λ v. cell_of v.kind) (map (λ v. let x : Vert = record { name = v; kind = P } in x) ns) ≡ []
no_cells [] = refl
no_cells (n ∷ ns) = no_cells ns

-- the segments that are kept rise
pieces-Rising : (g : Clustered) (a n : ℕ) → Rising (flat_map (segments_of g) (range_with_len a n))
pieces-Rising g a zero = tt
pieces-Rising g a (suc n) =
    let rest : List ℕ = flat_map (segments_of g) (range_with_len (a + 1) n) in
    Rising-append (segments_of g a) rest
    (⊎_elim
    (λ same. subst Rising (sym (piece_loop g a same)) tt)
    (λ ne. subst Rising (sym (piece_kept g a ne)) (Rising-range (first_segment g a) (crossed g a + 1)))
    (cases_eq (source g a) (target g a)))
    (pieces-Rising g (a + 1) n)
    (λ x y hx hy.
    let one = piece-Has g a x hx in
    let r = pieces-Has g (a + 1) n y hy in
    let two = piece-Has g r.0 y r.3 in
    let less = sum_below-next (λ e. crossed g e + 1) a r.0 (omega (arith, r.1)) in
    omega (arith, one.2, two.1, less, sum_below-more (crossed g) a, sum_below-more (crossed g) r.0))

-- names rise with the segments
name-rises : (g : Clustered) (t u : ℕ) → Has t (kept_segments g) → Has u (kept_segments g) → t < u
    → rank (kept_segments g) t < rank (kept_segments g) u
name-rises g t u ht hu less =
    let one = kept_name g t ht in
    let two = kept_name g u hu in
    ⊎_elim
    (λ same.
    let equal : t ≡ u = sym one.1 ∙ ap (λ n. slice_index_or (kept_segments g) n 0) same ∙ two.1 in
    absurd (omega (arith, equal, less)))
    (⊎_elim
    (λ lt. lt)
    (λ gt.
    let back = rising_at (kept_segments g) (rank (kept_segments g) u) (rank (kept_segments g) t)
    (pieces-Rising g 0 (edges g)) gt one.0 in
    absurd (omega (arith, back, one.1, two.1, less))))
    (cases_order (rank (kept_segments g) t) (rank (kept_segments g) u))

-- the pipes of a clustered graph
module _ (g : Clustered) (is : IsClustered g) where
  -- the edges that leave cluster c
  abbrev leaving : ℕ → List ℕ
  leaving c = filter (leaves g c) (below (edges g))

  -- one of them
  leaving-Has : (c e : ℕ) → Has e (leaving c) → (e < edges g) × (leaves g c e ≡ true)
  leaving-Has c e h =
      let w = filter-Has (leaves g c) e (below (edges g)) h in (omega (arith, (range-Has e 0 (edges g) w.0).1), w.1)

  -- and the other way round
  Has-leaving : (c e : ℕ) → e < edges g → leaves g c e ≡ true → Has e (leaving c)
  Has-leaving c e lt leave =
      Has-filter (leaves g c) e (below (edges g)) (Has-range e 0 (edges g) (omega arith) (omega (arith, lt))) leave

  -- the segments outside rise with the edges
  out-rises : (c : ℕ) → c < clusters g → (x y : ℕ) → Has x (leaving c) → Has y (leaving c) → x < y
      → segment_name g (out_dart g c x) < segment_name g (out_dart g c y)
  out-rises c cluster x y hx hy less =
      let a = leaving-Has c x hx in
      let b = leaving-Has c y hy in
      let s = out_dart-StandsAt g is c x a.0 cluster a.1 in
      let t = out_dart-StandsAt g is c y b.0 cluster b.1 in
      let next = sum_below-next (λ e. crossed g e + 1) x y less in
      name-rises g (out_dart g c x / 2) (out_dart g c y / 2) (StandsAt-kept g (out_dart g c x) x (Child c) s)
      (StandsAt-kept g (out_dart g c y) y (Child c) t)
      (omega (arith, s.of.is, s.of.within, t.of.is, next, sum_below-more (crossed g) x, sum_below-more (crossed g) y))

  -- an edge of a dart that stands at a vertex is one of its edges
  edge-at : (d : ℕ) (p : Vertex) → Has (d / 2) (kept_segments g) → dart_vertex g d ≡ p
      → Has (segment_name g d) (edges_at (skeleton_graph g) (vertex_name g p))
  edge-at d p h at =
      let k = kept-stock g is d h in
      let v : vertex_name g (dart_vertex g d) ≡ vertex_name g p = ap (vertex_name g) at in
      Has-edges_at (vertex_count g) (edge_count g) (ends g) (vertex_name g p) (segment_name g d) k.0
      (⊎_elim (λ e. inl (e ∙ v)) (λ e. inr (e ∙ v)) k.1)

  -- each edge of a vertex is that of a dart there
  dart-of-edge : (p : Vertex) (n : ℕ) → IsVertex g p → Has n (edges_at (skeleton_graph g) (vertex_name g p))
      → (d : ℕ) × Has (d / 2) (kept_segments g) × (dart_vertex g d ≡ p) × (segment_name g d ≡ n)
  dart-of-edge p n is_p h =
      let w = edges_at-Has (vertex_count g) (edge_count g) (ends g) (vertex_name g p) n h in
      let t = stock-stands g is p n is_p w.0 w.1 in
      (stock_dart g (dart (skeleton_graph g) (vertex_name g p) n), t.0, t.1, t.2)

  -- the first edges of the pairs are those of the cluster seen from its parent, in their order
  pairs-first : (c e : ℕ) → 0 < c → c < clusters g → e < edges g → leaves g c e ≡ true
      → map (λ x. segment_name g (out_dart g c x)) (leaving c)
      ≡ edges_at (skeleton_graph g) (vertex_name g (Child c))
  pairs-first c e above cluster lt leave =
      let v : ℕ = vertex_name g (Child c) in
      let name : ℕ → ℕ = λ x. segment_name g (out_dart g c x) in
      rising_same (map name (leaving c)) (edges_at (skeleton_graph g) v)
      (Rising-map name (leaving c) (Rising-filter (leaves g c) (below (edges g)) (Rising-range 0 (edges g)))
      (out-rises c cluster))
      (Rising-filter (ends_at (skeleton_graph g) v) (below (edge_count g)) (Rising-range 0 (edge_count g)))
      (λ n h.
      let m = map_on-Has name n (leaving c) h in
      let a = leaving-Has c m.0 m.1 in
      let s = out_dart-StandsAt g is c m.0 a.0 cluster a.1 in
      subst (λ k. Has k (edges_at (skeleton_graph g) v)) m.2
      (edge-at (out_dart g c m.0) (Child c) (StandsAt-kept g (out_dart g c m.0) m.0 (Child c) s) s.at))
      (λ n h.
      let d = dart-of-edge (Child c) n (child-IsVertex g is c e above cluster lt leave) h in
      let a = dart-AtChild g is c d.0 d.1 d.2 in
      subst (λ k. Has k (map name (leaving c))) (ap (segment_name g) (sym a.is) ∙ d.3)
      (Has-map_on name a.e (leaving c) (Has-leaving c a.e a.lt a.left)))

  -- and the second are those of its outside
  pairs-second : (c e : ℕ) → 0 < c → c < clusters g → e < edges g → leaves g c e ≡ true
      → IsPermutation (edges_at (skeleton_graph g) (vertex_name g (Outside c)))
      (map (λ x. segment_name g (in_dart g c x)) (leaving c))
  pairs-second c e above cluster lt leave =
      let v : ℕ = vertex_name g (Outside c) in
      let name : ℕ → ℕ = λ x. segment_name g (in_dart g c x) in
      let stands : (x : ℕ) → Has x (leaving c) → StandsAt g (in_dart g c x) x (Outside c) =
      λ x h. let a = leaving-Has c x h in in_dart-StandsAt g is c x a.0 cluster a.1 in
      IsPermutation-from (edges_at (skeleton_graph g) v) (map name (leaving c))
      (filter-Distinct (ends_at (skeleton_graph g) v) (below (edge_count g)) (Distinct-range 0 (edge_count g)))
      (Distinct-map_on name (leaving c)
      (λ x y hx hy same. name-apart g is c cluster (in_dart g c x) (in_dart g c y) x y (Outside c) (Outside c)
      (stands x hx) (stands y hy) same)
      (filter-Distinct (leaves g c) (below (edges g)) (Distinct-range 0 (edges g))))
      (λ n h.
      let d = dart-of-edge (Outside c) n (outside-IsVertex g c e above cluster lt leave) h in
      let a = dart-AtOutside g is c d.0 d.1 d.2 in
      subst (λ k. Has k (map name (leaving c))) (ap (segment_name g) (sym a.is) ∙ d.3)
      (Has-map_on name a.e (leaving c) (Has-leaving c a.e a.lt a.left)))
      (λ n h.
      let m = map_on-Has name n (leaving c) h in
      subst (λ k. Has k (edges_at (skeleton_graph g) v)) m.2
      (edge-at (in_dart g c m.0) (Outside c)
      (StandsAt-kept g (in_dart g c m.0) m.0 (Outside c) (stands m.0 m.1)) (stands m.0 m.1).at))

  -- a vertex is free
  free : (p : Vertex) → IsVertex g p → kind_in (skeletons g).verts (vertex_name g p) ≡ Some P
  free p is_p =
      let vert : ℕ → Vert = λ v. record { name = v; kind = P } in
      ap (option_map (λ x. x.kind))
      (find_named (λ x. x.name) vert (below (vertex_count g)) (vertex_name g p)
      (Has-range (vertex_name g p) 0 (vertex_count g) (omega arith) (let h = is_p.within in omega (arith, h)))
      (λ u h same. same))

  -- the ends of the pipes of some clusters
  pipe_end : (ns cs : List ℕ) (x : ℕ)
      → Has x (flat_map (λ p. p.a ∷ p.b ∷ []) (map (λ y. skeleton_pipe g y.0 y.1) (zip ns cs)))
      → (c : ℕ) × Has c cs × ((x ≡ vertex_name g (Child c)) ⊎ (x ≡ vertex_name g (Outside c)))
  pipe_end [] cs x h = absurd h
  pipe_end (n ∷ ns) [] x h = absurd h
  pipe_end (n ∷ ns) (c ∷ cs) x h = ⊎_elim
      (λ e. (c, inl refl, inl (sym e)))
      (λ k. ⊎_elim
      (λ e. (c, inl refl, inr (sym e)))
      (λ m. let r = pipe_end ns cs x m in (r.0, inr r.1, r.2))
      k)
      h

  -- are different
  pipe_ends-Distinct : (ns cs : List ℕ) → Distinct cs
      → ((c : ℕ) → Has c cs → IsVertex g (Child c) × IsVertex g (Outside c))
      → Distinct (flat_map (λ p. p.a ∷ p.b ∷ []) (map (λ y. skeleton_pipe g y.0 y.1) (zip ns cs)))
  pipe_ends-Distinct [] cs once are = tt
  pipe_ends-Distinct (n ∷ ns) [] once are = tt
  pipe_ends-Distinct (n ∷ ns) (c ∷ cs) once are =
      let rest : List ℕ = flat_map (λ p. p.a ∷ p.b ∷ []) (map (λ y. skeleton_pipe g y.0 y.1) (zip ns cs)) in
      let own = are c (inl refl) in
      let apart : (p q : Vertex) → IsVertex g p → IsVertex g q → vertex_name g p ≡ vertex_name g q → p ≡ q =
      vertex_name-apart g in
      let other : (p : Vertex) → IsVertex g p → number p ≡ c → Lacks (vertex_name g p) rest =
      λ p is_p num. Lacks-from (vertex_name g p) rest (λ h.
      let r = pipe_end ns cs (vertex_name g p) h in
      let two = are r.0 (inr r.1) in
      let same : r.0 ≡ c = ⊎_elim
      (λ e. sym (ap number (apart p (Child r.0) is_p two.0 e)) ∙ num)
      (λ e. sym (ap number (apart p (Outside r.0) is_p two.1 e)) ∙ num)
      r.2 in
      has_lacks c cs (subst (λ x. Has x cs) same r.1) once.0) in (
        (
          λ e. let no : 2 ≡ 1 = ap kind (apart (Outside c) (Child c) own.1 own.0 e) in omega (arith, no),
          other (Child c) own.0 refl,
        ),
        (other (Outside c) own.1 refl, pipe_ends-Distinct ns cs once.1 (λ b h. are b (inr h))),
      )

  -- the skeletons keep the rules, where names fit
  pub IsSynchronized-skeletons : vertex_count g ≤ 2 ^ 63 → edge_count g ≤ 2 ^ 63 → length (left g) ≤ 2 ^ 63
      → IsSynchronized (skeletons g)
  IsSynchronized-skeletons few_vertices few_edges few_pipes =
      let vert : ℕ → Vert = λ v. record { name = v; kind = P } in
      let live : (v : ℕ) → v < vertex_count g → Contains (vert_names (skeletons g)) v =
      λ v lt. subst (λ names. Contains names v) (sym (vert_names-skeletons g))
      ((Has-Contains v (below (vertex_count g))).0
      (Has-range v 0 (vertex_count g) (omega arith) (omega (arith, lt)))) in
      let at : (t : ℕ) → Has t (kept_segments g)
      → IsVertex g (dart_vertex g (2 * t)) × IsVertex g (dart_vertex g (2 * t + 1)) =
      λ t h. (
        kept-IsVertex g is (2 * t)
            (subst (λ u. Has u (kept_segments g)) (let e : t ≡ 2 * t / 2 = omega arith in e) h),
        kept-IsVertex g is (2 * t + 1)
            (subst (λ u. Has u (kept_segments g)) (let e : t ≡ (2 * t + 1) / 2 = omega arith in e) h),
      ) in
      record {
        verts_named = subst AreNames (sym (vert_names-skeletons g)) (AreNames-below (vertex_count g) few_vertices);
        edges_named = subst AreNames (sym (edge_names-skeletons g)) (AreNames-below (edge_count g) few_edges);
        pipes_named = subst AreNames
            (sym (pipe_names-are g (below (length (left g))) (left g) (length-range_with_len 0 (length (left g)))))
            (AreNames-below (length (left g)) few_pipes);
        cells_fit = subst (All (λ c. c < 2 ^ 63)) (sym (no_cells (below (vertex_count g)))) (All-nil (λ c. c < 2 ^ 63));
        ends_live = All-map (λ e. Contains (vert_names (skeletons g)) e.a × Contains (vert_names (skeletons g)) e.b)
            (skeleton_edge g) (kept_segments g)
            (λ t h. (
              live (vertex_name g (dart_vertex g (2 * t))) (at t h).0.within,
              live (vertex_name g (dart_vertex g (2 * t + 1))) (at t h).1.within,
            ));
        ends_differ = All-map (λ e. e.a ≢ e.b) (skeleton_edge g) (kept_segments g)
            (λ t h same.
            let r = kept-segment g t h in
            segment-differ g is t r.0 r.1 r.2
            (vertex_name-apart g (dart_vertex g (2 * t)) (dart_vertex g (2 * t + 1)) (at t h).0 (at t h).1 same));
        lists_right = All-map (λ v. IsRightKind (graph (skeletons g)) v.name v.kind) vert (below (vertex_count g))
            (λ v h. tt);
        ends_free = All-pipes g (HasRightEnds (skeletons g).verts)
            (λ n c e above cluster lt leave.
            let one = child-IsVertex g is c e above cluster lt leave in
            let two = outside-IsVertex g c e above cluster lt leave in
            record {
              differ = λ same. let no : 1 ≡ 2 = ap kind (vertex_name-apart g (Child c) (Outside c) one two same) in
                  omega (arith, no);
              free_a = free (Child c) one;
              free_b = free (Outside c) two;
            });
        ends_apart = pipe_ends-Distinct (below (length (left g))) (left g)
            (filter-Distinct (is_left g) (below (clusters g)) (Distinct-range 0 (clusters g)))
            (λ c h. let w = left-Has g c h in let e = left-edge g c w.2 in (
              child-IsVertex g is c e.0 w.0 w.1 e.1 e.2,
              outside-IsVertex g c e.0 w.0 w.1 e.1 e.2,
            ));
        pairs_right = All-pipes g (HasRightPairs (graph (skeletons g)))
            (λ n c e above cluster lt leave.
            let pair : ℕ → ℕ × ℕ = λ x. (segment_name g (out_dart g c x), segment_name g (in_dart g c x)) in
            subst (λ G. HasRightPairs G (skeleton_pipe g n c)) (sym (graph-skeletons g)) record {
              first = map_twice pair (λ x. x.0) (leaving c) ∙ pairs-first c e above cluster lt leave;
              second = subst (IsPermutation (edges_at (skeleton_graph g) (vertex_name g (Outside c))))
                  (sym (map_twice pair (λ x. x.1) (leaving c))) (pairs-second c e above cluster lt leave);
            });
      }
