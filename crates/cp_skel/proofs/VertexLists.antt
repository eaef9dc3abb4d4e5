-- The lists that an arranged layout gives the vertices of the skeletons have exactly the darts that stand there.
use Rattle.std.proofs.Common.{◌≡◌, ◌≢◌, ℕ, ◌+◌, ◌-◌, ◌*◌, ◌/◌, ◌%◌, ◌<◌, ◌≤◌, true, List, [], ◌∷◌, map, reverse, length, sym, refl, ap, ◌∙◌, subst, inl, inr, ⊎_elim, arith}
use Rattle.std.specs.Prelude.{eqb, ◌==◌}
use Rattle.std.proofs.lemmas.Bool.{cases_eq, cases_lt, cond-false, cond-true, eq-eqb, eqb-true, false≢true, ne_eqb, or_cases}
use Rattle.std.proofs.lemmas.List.{get_or_past}
use Rattle.cp_lists.specs.CyclicLists.{Distinct, Has}
use Rattle.cp_lists.proofs.DistinctLists.{Exactly-Distinct, Exactly-Has}
use Rattle.cp_lists.proofs.FilteredLists.{Has-filter, filter-Distinct, filter-Has}
use Rattle.cp_lists.proofs.MappedLists.{Distinct-map_on, Has-map_on, map_on-Has}
use Rattle.cp_lists.proofs.ReversedLists.{Distinct-reverse, Has-reverse, reverse-Has}
use Rattle.cp_cgraph.specs.Clustered.{Clustered, IsClustered, clusters, edges, node_of, nodes, source, target}
use Rattle.cp_cgraph.specs.Crossings.{leaves}
use Rattle.cp_cgraph.specs.declared.layout.Layout.{Layout}
use Rattle.cp_border.specs.Borders.{cluster_list, crossed, end_dart, first_segment, node_list}
use Rattle.cp_border.specs.Good.{IsArranged}
use Rattle.cp_border.proofs.Rotation.{cluster_exact, end_dart-apart, end_source, end_target, length-node_lists}
use Rattle.cp_maps.specs.Maps.{has}
use Rattle.cp_maps.proofs.ListFacts.{has_yes}
use Rattle.cp_skel.specs.SkeletonLists.{in_dart, out_dart}
use Rattle.cp_skel.specs.declared.vertex.Vertex.{Vertex}
use Rattle.cp_skel.specs.declared.vertex.Vertex.TheVariants.{Child, Node, Outside}
use Rattle.cp_skel.specs.Skeletons.{dart_vertex, kept_segments}
use Rattle.cp_skel.specs.VertexLists.{border_edges, keeps, kept_list, vertex_list}
use Rattle.cp_skel.proofs.DartVertices.{StandsAt, end_dart-StandsAt, in_dart-StandsAt, out_dart-StandsAt}
use Rattle.cp_skel.proofs.KeptDarts.{DartKind, at_node, dart_kind, inside, outside}
use Rattle.cp_skel.proofs.KeptSegments.{kept-segment, segment_apart}
use Rattle.cp_skel.proofs.SkeletonVertices.{node_of-lt}

-- an item of a list that has it passes the test
pub has-true : (d : ℕ) (xs : List ℕ) → has d xs ≡ true → Has d xs
has-true d [] t = absurd (false≢true t)
has-true d (x ∷ xs) t = ⊎_elim (λ e. inl (eqb-true x d e)) (λ r. inr (has-true d xs r))
    (or_cases (eqb x d) (has d xs) t)

-- the clusters but the root have their edges listed
pub border_edges-inner : (l : Layout) (c : ℕ) → 0 < c → border_edges l c ≡ cluster_list l c
border_edges-inner l c above = cond-false (eqb c 0) [] (cluster_list l c) (ne_eqb c 0 (λ z. omega arith))

-- the segment of the dart at a node
end_half : (g : Clustered) (x : ℕ)
    → (j : ℕ) × (j ≤ crossed g (x / 2)) × (end_dart g x / 2 ≡ first_segment g (x / 2) + j)
end_half g x = ⊎_elim
    (λ even. (
      0,
      omega arith,
      ap (λ (m : ℕ). m / 2) (end_source g x even)
          ∙ (let h : 2 * first_segment g (x / 2) / 2 ≡ first_segment g (x / 2) + 0 = omega arith in h),
    ))
    (λ odd. (
      crossed g (x / 2),
      omega arith,
      ap (λ (m : ℕ). m / 2) (end_target g x odd)
          ∙ (let h : (2 * (first_segment g (x / 2) + crossed g (x / 2)) + 1) / 2
          ≡ first_segment g (x / 2) + crossed g (x / 2) = omega arith in h),
    ))
    (cases_eq (x % 2) 0)

-- a dart at a node whose segment is kept is of no loop
pub end_dart-no_loop : (g : Clustered) (x : ℕ) → Has (end_dart g x / 2) (kept_segments g)
    → source g (x / 2) ≢ target g (x / 2)
end_dart-no_loop g x h =
    let w = end_half g x in
    let r = kept-segment g (end_dart g x / 2) h in
    let same = segment_apart g (x / 2) w.0 r.0 r.1 w.1 r.2.within (sym w.2 ∙ r.2.is) in
    subst (λ (e : ℕ). source g e ≢ target g e) (sym same.0) r.2.no_loop

-- an arranged layout
module _ (g : Clustered) (l : Layout) (is : IsClustered g) (ar : IsArranged g l) where
  -- a number that is no cluster has no list
  cluster_list-past : (c : ℕ) → 0 < c → clusters g ≤ c → cluster_list l c ≡ []
  cluster_list-past c above ge =
      get_or_past l.clusters (c - 1) []
      (⊎_elim
      (λ less.
      let k = (ar.clusters_right c).expected (omega (arith, less, above)) in
      absurd (omega (arith, k, ge)))
      (λ more. more)
      (cases_lt (c - 1) (length l.clusters)))

  -- an edge listed for a cluster leaves it
  pub border_edge : (c e : ℕ) → Has e (border_edges l c)
      → (0 < c) × (c < clusters g) × (e < edges g) × (leaves g c e ≡ true)
  border_edge c e h = ⊎_elim
      (λ root. absurd (subst (Has e) (cond-true (eqb c 0) [] (cluster_list l c) (eq-eqb c 0 root)) h))
      (λ ne.
      let above : 0 < c = omega arith in
      let item : Has e (cluster_list l c) = subst (Has e) (border_edges-inner l c above) h in
      let cluster : c < clusters g = ⊎_elim
      (λ lt. lt)
      (λ ge. absurd (subst (Has e) (cluster_list-past c above (omega arith)) item))
      (cases_lt c (clusters g)) in
      let w = (Exactly-Has (edges g) (leaves g c) (cluster_list l c) (cluster_exact g l ar c above cluster) e).0 item in
      (above, cluster, w.0, w.1))
      (cases_eq c 0)

  -- and each edge that leaves it is listed
  pub border_edge-Has : (c e : ℕ) → 0 < c → c < clusters g → e < edges g → leaves g c e ≡ true
      → Has e (border_edges l c)
  border_edge-Has c e above cluster lt leave =
      subst (Has e) (sym (border_edges-inner l c above))
      ((Exactly-Has (edges g) (leaves g c) (cluster_list l c) (cluster_exact g l ar c above cluster) e).1 (lt, leave))

  -- no edge is listed twice for a cluster
  border_edges-Distinct : (c : ℕ) → Distinct (border_edges l c)
  border_edges-Distinct c = ⊎_elim
      (λ root. subst Distinct (sym (cond-true (eqb c 0) [] (cluster_list l c) (eq-eqb c 0 root))) tt)
      (λ ne.
      let above : 0 < c = omega arith in
      ⊎_elim
      (λ lt. subst Distinct (sym (border_edges-inner l c above))
      (Exactly-Distinct (edges g) (leaves g c) (cluster_list l c) (cluster_exact g l ar c above lt)))
      (λ ge. subst Distinct (sym (border_edges-inner l c above ∙ cluster_list-past c above (omega arith))) tt)
      (cases_lt c (clusters g)))
      (cases_eq c 0)

  -- a dart listed for a node stands there
  node_dart : (v x : ℕ) → Has x (node_list l v) → (x < 2 * edges g) × (node_of g x ≡ v)
  node_dart v x h = ⊎_elim
      (λ lt. let w = (Exactly-Has (2 * edges g) (λ y. node_of g y == v) (node_list l v)
      ((ar.nodes_right v).present lt).1 x).0 h in
      (w.0, eqb-true (node_of g x) v w.1))
      (λ ge. absurd (subst (Has x) (get_or_past l.nodes v [] (let long = length-node_lists g l ar in
      omega (arith, long, ge))) h))
      (cases_lt v (nodes g))

  -- none is listed twice
  node_list-Distinct : (v : ℕ) → Distinct (node_list l v)
  node_list-Distinct v = ⊎_elim
      (λ lt. Exactly-Distinct (2 * edges g) (λ y. node_of g y == v) (node_list l v) ((ar.nodes_right v).present lt).1)
      (λ ge. subst Distinct (sym (get_or_past l.nodes v [] (let long = length-node_lists g l ar in
      omega (arith, long, ge)))) tt)
      (cases_lt v (nodes g))

  -- two darts at a border with the same segment are of one edge
  one_edge : (d e f : ℕ) (p q : Vertex) → StandsAt g d e p → StandsAt g d f q → e ≡ f
  one_edge d e f p q s t =
      (segment_apart g e s.place f t.place s.of.within t.of.within (sym s.of.is ∙ t.of.is)).0

  -- no dart stands twice in the list of a vertex
  vertex_list-Distinct : (p : Vertex) → Distinct (vertex_list g l p)
  vertex_list-Distinct (Node v) =
      Distinct-map_on (end_dart g) (node_list l v) (λ x y hx hy same. end_dart-apart g x y same) (node_list-Distinct v)
  vertex_list-Distinct (Child c) =
      Distinct-map_on (out_dart g c) (border_edges l c)
      (λ x y hx hy same.
      let a = border_edge c x hx in
      let b = border_edge c y hy in
      one_edge (out_dart g c y) x y (Child c) (Child c)
      (subst (λ d. StandsAt g d x (Child c)) same (out_dart-StandsAt g is c x a.2 a.1 a.3))
      (out_dart-StandsAt g is c y b.2 b.1 b.3))
      (border_edges-Distinct c)
  vertex_list-Distinct (Outside c) =
      Distinct-reverse (map (in_dart g c) (border_edges l c))
      (Distinct-map_on (in_dart g c) (border_edges l c)
      (λ x y hx hy same.
      let a = border_edge c x hx in
      let b = border_edge c y hy in
      one_edge (in_dart g c y) x y (Outside c) (Outside c)
      (subst (λ d. StandsAt g d x (Outside c)) same (in_dart-StandsAt g is c x a.2 a.1 a.3))
      (in_dart-StandsAt g is c y b.2 b.1 b.3))
      (border_edges-Distinct c))

  -- so none does without the darts of loops
  pub kept_list-Distinct : (p : Vertex) → Distinct (kept_list g l p)
  kept_list-Distinct p = filter-Distinct (keeps g) (vertex_list g l p) (vertex_list-Distinct p)

  -- a dart of the list that is kept stands at the vertex
  item-stands : (p : Vertex) (d : ℕ) → Has d (vertex_list g l p) → Has (d / 2) (kept_segments g) → dart_vertex g d ≡ p
  item-stands (Node v) d h kept =
      let m = map_on-Has (end_dart g) d (node_list l v) h in
      let w = node_dart v m.0 m.1 in
      let ne = end_dart-no_loop g m.0 (subst (λ x. Has (x / 2) (kept_segments g)) (sym m.2) kept) in
      ap (dart_vertex g) (sym m.2) ∙ (end_dart-StandsAt g m.0 w.0 ne).at ∙ ap Node w.1
  item-stands (Child c) d h kept =
      let m = map_on-Has (out_dart g c) d (border_edges l c) h in
      let a = border_edge c m.0 m.1 in
      ap (dart_vertex g) (sym m.2) ∙ (out_dart-StandsAt g is c m.0 a.2 a.1 a.3).at
  item-stands (Outside c) d h kept =
      let m = map_on-Has (in_dart g c) d (border_edges l c) (reverse-Has d (map (in_dart g c) (border_edges l c)) h) in
      let a = border_edge c m.0 m.1 in
      ap (dart_vertex g) (sym m.2) ∙ (in_dart-StandsAt g is c m.0 a.2 a.1 a.3).at

  -- a dart of the list without loops is kept, and stands at the vertex
  pub kept_list-stands : (p : Vertex) (d : ℕ) → Has d (kept_list g l p)
      → Has (d / 2) (kept_segments g) × (dart_vertex g d ≡ p)
  kept_list-stands p d h =
      let w = filter-Has (keeps g) d (vertex_list g l p) h in
      let kept : Has (d / 2) (kept_segments g) = has-true (d / 2) (kept_segments g) w.1 in
      (kept, item-stands p d w.0 kept)

  -- each dart that is kept is in the list of its vertex
  pub kept-vertex_list : (d : ℕ) → Has (d / 2) (kept_segments g) → Has d (vertex_list g l (dart_vertex g d))
  kept-vertex_list d h = by (dart_kind g is d h)
    where
      by : DartKind g d → Has d (vertex_list g l (dart_vertex g d))
      by (at_node x lt ne at) =
          let s = end_dart-StandsAt g x lt ne in
          let v : ℕ = node_of g x in
          subst (λ p. Has d (vertex_list g l p)) (sym (ap (dart_vertex g) at ∙ s.at))
          (subst (λ y. Has y (map (end_dart g) (node_list l v))) (sym at)
          (Has-map_on (end_dart g) x (node_list l v)
          ((Exactly-Has (2 * edges g) (λ y. node_of g y == v) (node_list l v)
          ((ar.nodes_right v).present (node_of-lt g is x lt)).1 x).1 (lt, eq-eqb v v refl))))
      by (inside c e above cluster lt leave at) =
          let s = in_dart-StandsAt g is c e lt cluster leave in
          let xs : List ℕ = map (in_dart g c) (border_edges l c) in
          subst (λ p. Has d (vertex_list g l p)) (sym (ap (dart_vertex g) at ∙ s.at))
          (subst (λ y. Has y (reverse xs)) (sym at)
          (Has-reverse (in_dart g c e) xs
          (Has-map_on (in_dart g c) e (border_edges l c) (border_edge-Has c e above cluster lt leave))))
      by (outside c e above cluster lt leave at) =
          let s = out_dart-StandsAt g is c e lt cluster leave in
          subst (λ p. Has d (vertex_list g l p)) (sym (ap (dart_vertex g) at ∙ s.at))
          (subst (λ y. Has y (map (out_dart g c) (border_edges l c))) (sym at)
          (Has-map_on (out_dart g c) e (border_edges l c) (border_edge-Has c e above cluster lt leave)))

  -- also without loops
  pub kept-Has : (d : ℕ) → Has (d / 2) (kept_segments g) → Has d (kept_list g l (dart_vertex g d))
  kept-Has d h =
      Has-filter (keeps g) d (vertex_list g l (dart_vertex g d)) (kept-vertex_list d h)
      (has_yes (d / 2) (kept_segments g) h)
