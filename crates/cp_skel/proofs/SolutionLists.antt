-- The edges and darts that the names in a solution stand for.
use Rattle.std.proofs.Common.{◌≡◌, ◌≢◌, ℕ, ◌+◌, ◌*◌, ◌/◌, ◌%◌, ◌<◌, ◌≤◌, true, List, [], ◌∷◌, map, sym, ap, ap₂, ◌∙◌, subst, inl, inr, ⊎_elim, arith}
use Rattle.std.specs.Prelude.{cond, eqb, slice_index_or, ◌==◌}
use Rattle.std.specs.List.{range_with_len}
use Rattle.std.proofs.lemmas.Bool.{cases_eq, cond-false, cond-true, eq-eqb, ne_eqb}
use Rattle.std.proofs.lemmas.List.FromFn.{get_or-map-range_with_len, length-map-range_with_len}
use Rattle.cp_lists.specs.CyclicLists.{Distinct, Has, Lacks}
use Rattle.cp_lists.proofs.DistinctLists.{Lacks-from, has_lacks}
use Rattle.cp_lists.proofs.MappedLists.{Distinct-map_on, Has-map_on, map_on-Has}
use Rattle.cp_board.specs.Rotations.{dart}
use Rattle.cp_cgraph.specs.Clustered.{Clustered, IsClustered, clusters, edges, node_of, nodes, source, target}
use Rattle.cp_cgraph.specs.Crossings.{leaves}
use Rattle.cp_border.specs.Borders.{sum_below, crossed, end_dart, first_segment}
use Rattle.cp_border.proofs.Numbering.{piece_at}
use Rattle.cp_faces.specs.Twins.{twin}
use Rattle.cp_faces.proofs.Twins.{twin_even}
use Rattle.cp_skel.specs.LoopLists.{loop_darts}
use Rattle.cp_skel.specs.SkeletonLists.{in_dart, out_dart}
use Rattle.cp_skel.specs.declared.vertex.Vertex.{Vertex}
use Rattle.cp_skel.specs.declared.vertex.Vertex.TheVariants.{Child, Node, Outside}
use Rattle.cp_skel.specs.Skeletons.{IsVertex, dart_vertex, kept_segments, segment_name, vertex_name}
use Rattle.cp_skel.specs.SolutionLayouts.{name_dart, name_edge, segment_edges, solved_darts}
use Rattle.cp_skel.specs.VertexLists.{stock_dart}
use Rattle.cp_skel.proofs.DartVertices.{StandsAt, StandsAt-kept, end_dart-StandsAt, in_dart-StandsAt, out_dart-StandsAt}
use Rattle.cp_skel.proofs.KeptDarts.{DartKind, at_node, dart_kind, inside, outside}
use Rattle.cp_skel.proofs.NumberedSystems.{AreEdgeLists}
use Rattle.cp_skel.proofs.SkeletonLevels.{sum_below-more}
use Rattle.cp_skel.proofs.SkeletonVertices.{child-IsVertex, node-IsVertex}
use Rattle.cp_skel.proofs.StockDarts.{edge_count, ends, kept-stock, kept_name, skeleton_graph, stock-stands, vertex_count}
use Rattle.cp_skel.proofs.VertexKinds.{kind, number}

-- the edge of a segment
segment_edge-is : (g : Clustered) (e k : ℕ) → e < edges g → k ≤ crossed g e
    → slice_index_or (segment_edges g) (first_segment g e + k) 0 ≡ e
segment_edge-is g e k lt within =
    let piece : ℕ → List ℕ = λ x. map (λ j. x) (range_with_len 0 (crossed g x + 1)) in
    let size : ℕ → ℕ = λ x. crossed g x + 1 in
    ap (λ m. slice_index_or (segment_edges g) m 0)
    (let h : first_segment g e + k ≡ sum_below (λ x. crossed g x + 1) e + k = omega
    (arith, sum_below-more (crossed g) e) in h)
    ∙ piece_at piece size 0 (edges g) e k 0
    (λ j less. length-map-range_with_len (λ i. 0 + j) 0 (crossed g (0 + j) + 1)
    ∙ ap (λ m. crossed g m + 1) (let h : 0 + j ≡ j = omega arith in h)) lt (omega arith)
    ∙ get_or-map-range_with_len (λ i. 0 + e) 0 (crossed g (0 + e) + 1) k k 0
    (subst (λ m. k < crossed g m + 1) (let h : e ≡ 0 + e = omega arith in h) (omega arith)) (omega arith)
    ∙ (let h : 0 + e ≡ e = omega arith in h)

-- the name of the segment of a dart stands for its edge
pub name_edge-is : (g : Clustered) (d e : ℕ) (p : Vertex) → StandsAt g d e p → name_edge g (segment_name g d) ≡ e
name_edge-is g d e p s =
    ap (λ t. slice_index_or (segment_edges g) t 0) ((kept_name g (d / 2) (StandsAt-kept g d e p s)).1 ∙ s.of.is)
    ∙ segment_edge-is g e s.place s.of.edge s.of.within

-- and at a node for its dart there
pub name_dart-is : (g : Clustered) (x : ℕ) → x < 2 * edges g → source g (x / 2) ≢ target g (x / 2)
    → name_dart g (node_of g x) (segment_name g (end_dart g x)) ≡ x
name_dart-is g x lt ne =
    let e : ℕ = x / 2 in
    let v : ℕ = node_of g x in
    let edge : name_edge g (segment_name g (end_dart g x)) ≡ e =
    name_edge-is g (end_dart g x) e (Node v) (end_dart-StandsAt g x lt ne) in
    ap (λ m. 2 * m + cond (eqb (source g m) v) 0 1) edge
    ∙ ⊎_elim
    (λ even.
    let node : node_of g x ≡ source g e =
    cond-true (x % 2 == 0) (source g e) (target g e) (eq-eqb (x % 2) 0 even) in
    ap (λ k. 2 * e + k) (cond-true (eqb (source g e) v) 0 1 (eq-eqb (source g e) v (sym node)))
    ∙ (let h : 2 * (x / 2) + 0 ≡ x = omega arith in h))
    (λ odd.
    let node : node_of g x ≡ target g e =
    cond-false (x % 2 == 0) (source g e) (target g e) (ne_eqb (x % 2) 0 odd) in
    ap (λ k. 2 * e + k) (cond-false (eqb (source g e) v) 0 1 (ne_eqb (source g e) v (λ same. ne (same ∙ node))))
    ∙ (let h : 2 * (x / 2) + 1 ≡ x = omega arith in h))
    (cases_eq (x % 2) 0)

-- a dart that stands at a node
record AtNode (g : Clustered) (v d : ℕ) : Type 0 where
  pub x : ℕ
  pub lt : x < 2 * edges g
  pub no_loop : source g (x / 2) ≢ target g (x / 2)
  pub node : node_of g x ≡ v
  pub is : d ≡ end_dart g x

-- a dart that stands at a cluster as it is seen from its parent
pub record AtChild (g : Clustered) (c d : ℕ) : Type 0 where
  pub e : ℕ
  pub cluster : c < clusters g
  pub lt : e < edges g
  pub left : leaves g c e ≡ true
  pub is : d ≡ out_dart g c e

-- what stands at a node is the dart of an edge there
dart-AtNode : (g : Clustered) → IsClustered g → (v d : ℕ) → Has (d / 2) (kept_segments g) → dart_vertex g d ≡ Node v
    → AtNode g v d
dart-AtNode g is v d h at = by (dart_kind g is d h)
  where
    by : DartKind g d → AtNode g v d
    by (at_node x lt ne same) =
        let s = end_dart-StandsAt g x lt ne in
        record {
          x = x;
          lt = lt;
          no_loop = ne;
          node = ap number (sym s.at ∙ ap (dart_vertex g) (sym same) ∙ at);
          is = same;
        }
    by (inside c e above cluster lt leave same) =
        let s = in_dart-StandsAt g is c e lt cluster leave in
        let no : 2 ≡ 0 = ap kind (sym s.at ∙ ap (dart_vertex g) (sym same) ∙ at) in
        absurd (omega (arith, no))
    by (outside c e above cluster lt leave same) =
        let s = out_dart-StandsAt g is c e lt cluster leave in
        let no : 1 ≡ 0 = ap kind (sym s.at ∙ ap (dart_vertex g) (sym same) ∙ at) in
        absurd (omega (arith, no))

-- what stands at a cluster is the dart outside of an edge that leaves it
pub dart-AtChild : (g : Clustered) → IsClustered g → (c d : ℕ) → Has (d / 2) (kept_segments g)
    → dart_vertex g d ≡ Child c
    → AtChild g c d
dart-AtChild g is c d h at = by (dart_kind g is d h)
  where
    by : DartKind g d → AtChild g c d
    by (at_node x lt ne same) =
        let s = end_dart-StandsAt g x lt ne in
        let no : 0 ≡ 1 = ap kind (sym s.at ∙ ap (dart_vertex g) (sym same) ∙ at) in
        absurd (omega (arith, no))
    by (inside b e above cluster lt leave same) =
        let s = in_dart-StandsAt g is b e lt cluster leave in
        let no : 2 ≡ 1 = ap kind (sym s.at ∙ ap (dart_vertex g) (sym same) ∙ at) in
        absurd (omega (arith, no))
    by (outside b e above cluster lt leave same) =
        let s = out_dart-StandsAt g is b e lt cluster leave in
        let equal : b ≡ c = ap number (sym s.at ∙ ap (dart_vertex g) (sym same) ∙ at) in
        record {
          e = e;
          cluster = subst (λ x. x < clusters g) equal cluster;
          lt = lt;
          left = subst (λ x. leaves g x e ≡ true) equal leave;
          is = subst (λ x. d ≡ out_dart g x e) equal same;
        }

-- a dart that stands at the outside of a cluster
pub record AtOutside (g : Clustered) (c d : ℕ) : Type 0 where
  pub e : ℕ
  pub lt : e < edges g
  pub left : leaves g c e ≡ true
  pub is : d ≡ in_dart g c e

-- what stands there is the dart inside of an edge that leaves the cluster
pub dart-AtOutside : (g : Clustered) → IsClustered g → (c d : ℕ) → Has (d / 2) (kept_segments g)
    → dart_vertex g d ≡ Outside c → AtOutside g c d
dart-AtOutside g is c d h at = by (dart_kind g is d h)
  where
    by : DartKind g d → AtOutside g c d
    by (at_node x lt ne same) =
        let s = end_dart-StandsAt g x lt ne in
        let no : 0 ≡ 2 = ap kind (sym s.at ∙ ap (dart_vertex g) (sym same) ∙ at) in
        absurd (omega (arith, no))
    by (inside b e above cluster lt leave same) =
        let s = in_dart-StandsAt g is b e lt cluster leave in
        let equal : b ≡ c = ap number (sym s.at ∙ ap (dart_vertex g) (sym same) ∙ at) in
        record {
          e = e;
          lt = lt;
          left = subst (λ x. leaves g x e ≡ true) equal leave;
          is = subst (λ x. d ≡ in_dart g x e) equal same;
        }
    by (outside b e above cluster lt leave same) =
        let s = out_dart-StandsAt g is b e lt cluster leave in
        let no : 1 ≡ 2 = ap kind (sym s.at ∙ ap (dart_vertex g) (sym same) ∙ at) in
        absurd (omega (arith, no))

-- lists of the edges of the instance
module _ (g : Clustered) (is : IsClustered g) (s : ℕ → List ℕ)
    (are : AreEdgeLists (vertex_count g) (edge_count g) (ends g) s) where
  -- the dart of a name at a vertex
  abbrev pub dart_at : Vertex → ℕ → ℕ
  dart_at p n = stock_dart g (dart (skeleton_graph g) (vertex_name g p) n)

  -- a name in the list of a vertex stands for a dart there
  pub named_dart : (p : Vertex) (n : ℕ) → IsVertex g p → Has n (s (vertex_name g p))
      → Has (dart_at p n / 2) (kept_segments g) × (dart_vertex g (dart_at p n) ≡ p) × (segment_name g (dart_at p n) ≡ n)
  named_dart p n is_p h =
      let i = are.item (vertex_name g p) n is_p.within h in stock-stands g is p n is_p i.0 i.1

  -- and each dart there has its name in the list
  pub dart_named : (p : Vertex) (d : ℕ) → IsVertex g p → Has (d / 2) (kept_segments g) → dart_vertex g d ≡ p
      → Has (segment_name g d) (s (vertex_name g p)) × (dart_at p (segment_name g d) ≡ d)
  dart_named p d is_p h at =
      let k = kept-stock g is d h in
      let v : vertex_name g (dart_vertex g d) ≡ vertex_name g p = ap (vertex_name g) at in (
        are.own (vertex_name g p) (segment_name g d) is_p.within k.0
            (⊎_elim (λ e. inl (e ∙ v)) (λ e. inr (e ∙ v)) k.1),
        ap (λ x. stock_dart g (dart (skeleton_graph g) x (segment_name g d))) (sym v) ∙ k.2,
      )

  -- a name in the list of a node
  pub node_name : (v n : ℕ) → v < nodes g → Has n (s (vertex_name g (Node v)))
      → (x : ℕ) × (x < 2 * edges g) × (source g (x / 2) ≢ target g (x / 2)) × (node_of g x ≡ v)
      × (dart_at (Node v) n ≡ end_dart g x) × (name_dart g v n ≡ x)
  node_name v n lt h =
      let w = named_dart (Node v) n (node-IsVertex g is v lt) h in
      let a = dart-AtNode g is v (dart_at (Node v) n) w.0 w.1 in (
        a.x,
        a.lt,
        a.no_loop,
        a.node,
        a.is,
        ap₂ (λ u m. name_dart g u m) (sym a.node) (sym w.2 ∙ ap (segment_name g) a.is)
            ∙ name_dart-is g a.x a.lt a.no_loop,
      )

  -- a name in the list of a cluster that edge e leaves
  pub child_name : (c e n : ℕ) → 0 < c → c < clusters g → e < edges g → leaves g c e ≡ true
      → Has n (s (vertex_name g (Child c)))
      → (f : ℕ) × (f < edges g) × (leaves g c f ≡ true) × (dart_at (Child c) n ≡ out_dart g c f) × (name_edge g n ≡ f)
  child_name c e n above cluster lt leave h =
      let w = named_dart (Child c) n (child-IsVertex g is c e above cluster lt leave) h in
      let a = dart-AtChild g is c (dart_at (Child c) n) w.0 w.1 in (
        a.e,
        a.lt,
        a.left,
        a.is,
        ap (name_edge g) (sym w.2 ∙ ap (segment_name g) a.is)
            ∙ name_edge-is g (out_dart g c a.e) a.e (Child c) (out_dart-StandsAt g is c a.e a.lt cluster a.left),
      )

-- the darts of loops
pub loop-Has : (es : List ℕ) (x : ℕ) → Has x (loop_darts (map (λ e. 2 * e) es)) → Has (x / 2) es
loop-Has [] x h = absurd h
loop-Has (e ∷ es) x h = ⊎_elim
    (λ first. inl (let half : e ≡ x / 2 = omega (arith, first) in half))
    (λ rest. ⊎_elim
    (λ second. inl (let t = twin_even (2 * e) (omega arith) in
    let half : e ≡ x / 2 = omega (arith, second, t) in half))
    (λ k. inr (loop-Has es x k))
    rest)
    h

-- and the other way round
pub Has-loop : (es : List ℕ) (x : ℕ) → Has (x / 2) es → Has x (loop_darts (map (λ e. 2 * e) es))
Has-loop [] x h = absurd h
Has-loop (e ∷ es) x h = ⊎_elim
    (λ same. ⊎_elim
    (λ even. inl (omega (arith, same, even)))
    (λ odd. inr (inl (let t = twin_even (2 * e) (omega arith) in omega (arith, same, odd, t))))
    (cases_eq (x % 2) 0))
    (λ k. inr (inr (Has-loop es x k)))
    h

-- none stands twice
pub loop-Distinct : (es : List ℕ) → Distinct es → Distinct (loop_darts (map (λ e. 2 * e) es))
loop-Distinct [] once = tt
loop-Distinct (e ∷ es) once =
    let rest : List ℕ = loop_darts (map (λ x. 2 * x) es) in
    let t : twin (2 * e) ≡ 2 * e + 1 = twin_even (2 * e) (omega arith) in
    let apart : (x : ℕ) → x / 2 ≡ e → Lacks x rest =
    λ x half. Lacks-from x rest
    (λ h. has_lacks e es (subst (λ y. Has y es) half (loop-Has es x h)) once.0) in (
      ((λ same. let q : twin (2 * e) ≡ 2 * e = same in omega (arith, t, q)), apart (2 * e) (omega arith)),
      (apart (twin (2 * e)) (let h : twin (2 * e) / 2 ≡ e = omega (arith, t) in h), loop-Distinct es once.1),
    )

-- the list of a node without loops has exactly the darts there of edges that are no loops
module _ (g : Clustered) (is : IsClustered g) (s : ℕ → List ℕ)
    (are : AreEdgeLists (vertex_count g) (edge_count g) (ends g) s) (v : ℕ) (ltv : v < nodes g) where
  -- an item
  pub solved-Has : (x : ℕ) → Has x (solved_darts g s v)
      → (x < 2 * edges g) × (source g (x / 2) ≢ target g (x / 2)) × (node_of g x ≡ v)
  solved-Has x h =
      let m = map_on-Has (name_dart g v) x (s (vertex_name g (Node v))) h in
      let w = node_name g is s are v m.0 ltv m.1 in
      subst (λ y. (y < 2 * edges g) × (source g (y / 2) ≢ target g (y / 2)) × (node_of g y ≡ v))
      (sym w.5 ∙ m.2) (w.1, w.2, w.3)

  -- and the other way round
  pub Has-solved : (x : ℕ) → x < 2 * edges g → source g (x / 2) ≢ target g (x / 2) → node_of g x ≡ v
      → Has x (solved_darts g s v)
  Has-solved x lt ne node =
      let stands = end_dart-StandsAt g x lt ne in
      let n : ℕ = segment_name g (end_dart g x) in
      let item = dart_named g is s are (Node v) (end_dart g x) (node-IsVertex g is v ltv)
      (StandsAt-kept g (end_dart g x) (x / 2) (Node (node_of g x)) stands) (stands.at ∙ ap Node node) in
      subst (λ y. Has y (solved_darts g s v))
      (ap (λ u. name_dart g u n) (sym node) ∙ name_dart-is g x lt ne)
      (Has-map_on (name_dart g v) n (s (vertex_name g (Node v))) item.0)

  -- no dart stands twice
  pub solved-Distinct : Distinct (solved_darts g s v)
  solved-Distinct = Distinct-map_on (name_dart g v) (s (vertex_name g (Node v)))
      (λ n m hn hm same.
      let a = node_name g is s are v n ltv hn in
      let b = node_name g is s are v m ltv hm in
      let p : IsVertex g (Node v) = node-IsVertex g is v ltv in
      sym (named_dart g is s are (Node v) n p hn).2
      ∙ ap (segment_name g) (a.4 ∙ ap (end_dart g) (sym a.5 ∙ same ∙ b.5) ∙ sym b.4)
      ∙ (named_dart g is s are (Node v) m p hm).2)
      (are.distinct (vertex_name g (Node v)) (node-IsVertex g is v ltv).within)
