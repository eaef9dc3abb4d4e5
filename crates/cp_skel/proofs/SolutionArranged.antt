-- The layout that a solution gives is arranged.
use Rattle.std.proofs.Common.{◌≡◌, ℕ, ◌-◌, ◌*◌, ◌/◌, ◌%◌, ◌<◌, true, List, [], map, length, sym, ap, ◌∙◌, subst, ⊎_elim, arith}
use Rattle.std.specs.Prelude.{eqb, ◌==◌, ◌&&◌}
use Rattle.std.specs.List.{range_with_len}
use Rattle.std.proofs.lemmas.Bool.{and_from, and_parts, cases_Bool, cases_eq, cond-false, cond-true, eq-eqb, eqb-true, false≢true, ne_eqb}
use Rattle.std.proofs.lemmas.List.FromFn.{get_or-map-range_with_len, length-map-range_with_len}
use Rattle.cp_lists.specs.Count.{Exactly}
use Rattle.cp_lists.specs.CyclicLists.{Distinct, Has}
use Rattle.cp_lists.proofs.DistinctLists.{Distinct-append, Exactly-from, Has-append_cases, Has-append_left, Has-append_right, Lacks-from}
use Rattle.cp_lists.proofs.FilteredLists.{Has-filter, filter-Distinct, filter-Has}
use Rattle.cp_lists.proofs.MappedLists.{Distinct-map_on, Has-map_on, map_on-Has}
use Rattle.cp_cgraph.specs.Clustered.{Clustered, IsClustered, clusters, edges, node_of, nodes, source, target}
use Rattle.cp_cgraph.specs.Crossings.{leaves}
use Rattle.cp_border.specs.Borders.{cluster_list, node_list}
use Rattle.cp_border.specs.Good.{IsArranged}
use Rattle.cp_skel.specs.LoopLists.{loop_darts}
use Rattle.cp_skel.specs.SkeletonLists.{out_dart}
use Rattle.cp_skel.specs.declared.vertex.Vertex.TheVariants.{Child}
use Rattle.cp_skel.specs.Skeletons.{below, is_left, segment_name, vertex_name}
use Rattle.cp_skel.specs.SolutionLayouts.{loops_at, name_edge, solution_layout, solved_cluster, solved_darts, solved_node}
use Rattle.cp_skel.proofs.DartVertices.{StandsAt-kept, out_dart-StandsAt}
use Rattle.cp_skel.proofs.NumberedSystems.{AreEdgeLists}
use Rattle.cp_skel.proofs.Ranges.{Distinct-range, Has-range, range-Has}
use Rattle.cp_skel.proofs.SkeletonPipes.{left-edge}
use Rattle.cp_skel.proofs.SkeletonVertices.{child-IsVertex, is_left-from}
use Rattle.cp_skel.proofs.SolutionLists.{Has-loop, Has-solved, child_name, dart_named, loop-Distinct, loop-Has, name_edge-is, named_dart, solved-Distinct, solved-Has}
use Rattle.cp_skel.proofs.StockDarts.{edge_count, ends, vertex_count}

-- a loop at a node
pub loops_at-Has : (g : Clustered) (v e : ℕ) → Has e (loops_at g v)
    → (e < edges g) × (source g e ≡ v) × (target g e ≡ v)
loops_at-Has g v e h =
    let w = filter-Has (λ x. eqb (source g x) v && eqb (target g x) v) e (below (edges g)) h in
    let two = and_parts (eqb (source g e) v) (eqb (target g e) v) w.1 in
    (omega (arith, (range-Has e 0 (edges g) w.0).1), eqb-true (source g e) v two.0, eqb-true (target g e) v two.1)

-- and the other way round
Has-loops_at : (g : Clustered) (v e : ℕ) → e < edges g → source g e ≡ v → target g e ≡ v → Has e (loops_at g v)
Has-loops_at g v e lt s t =
    Has-filter (λ x. eqb (source g x) v && eqb (target g x) v) e (below (edges g))
    (Has-range e 0 (edges g) (omega arith) (omega (arith, lt)))
    (and_from (eqb (source g e) v) (eqb (target g e) v) (eq-eqb (source g e) v s) (eq-eqb (target g e) v t))

-- a dart of an edge with one end is at that end
node_of-loop : (g : Clustered) (x v : ℕ) → source g (x / 2) ≡ v → target g (x / 2) ≡ v → node_of g x ≡ v
node_of-loop g x v s t = ⊎_elim
    (λ even. cond-true (x % 2 == 0) (source g (x / 2)) (target g (x / 2)) (eq-eqb (x % 2) 0 even) ∙ s)
    (λ odd. cond-false (x % 2 == 0) (source g (x / 2)) (target g (x / 2)) (ne_eqb (x % 2) 0 odd) ∙ t)
    (cases_eq (x % 2) 0)

-- a dart of a loop at a node: both ends of the loop are there
loop_ends : (g : Clustered) (x v : ℕ) → source g (x / 2) ≡ target g (x / 2) → node_of g x ≡ v → source g (x / 2) ≡ v
loop_ends g x v same at = ⊎_elim
    (λ even. sym (cond-true (x % 2 == 0) (source g (x / 2)) (target g (x / 2)) (eq-eqb (x % 2) 0 even)) ∙ at)
    (λ odd. same ∙ sym (cond-false (x % 2 == 0) (source g (x / 2)) (target g (x / 2)) (ne_eqb (x % 2) 0 odd)) ∙ at)
    (cases_eq (x % 2) 0)

-- lists of the edges of the instance
module _ (g : Clustered) (is : IsClustered g) (s : ℕ → List ℕ)
    (are : AreEdgeLists (vertex_count g) (edge_count g) (ends g) s) where
  -- the list of a node
  pub node_list-solved : (v : ℕ) → v < nodes g → node_list (solution_layout g s) v ≡ solved_node g s v
  node_list-solved v lt = get_or-map-range_with_len (solved_node g s) 0 (nodes g) v v [] lt (omega arith)

  -- the list of a cluster
  pub cluster_list-solved : (c : ℕ) → 0 < c → c < clusters g
      → cluster_list (solution_layout g s) c ≡ solved_cluster g s c
  cluster_list-solved c above lt =
      get_or-map-range_with_len (solved_cluster g s) 1 (length g.parents) (c - 1) c [] (omega arith) (omega arith)

  -- the list of a node has exactly its darts
  node-Exactly : (v : ℕ) → v < nodes g → Exactly (2 * edges g) (λ d. node_of g d == v) (solved_node g s v)
  node-Exactly v lt =
      let xs : List ℕ = solved_darts g s v in
      let es : List ℕ = loops_at g v in
      let ys : List ℕ = loop_darts (map (λ e. 2 * e) es) in
      let once : Distinct es =
      filter-Distinct (λ x. eqb (source g x) v && eqb (target g x) v) (below (edges g)) (Distinct-range 0 (edges g)) in
      Exactly-from (2 * edges g) (λ d. node_of g d == v) (solved_node g s v)
      (Distinct-append xs ys (solved-Distinct g is s are v lt) (loop-Distinct es once)
      (λ x h. Lacks-from x ys (λ k.
      let loop = loops_at-Has g v (x / 2) (loop-Has es x k) in
      (solved-Has g is s are v lt x h).1 (loop.1 ∙ sym loop.2))))
      (λ x h. ⊎_elim
      (λ k. let w = solved-Has g is s are v lt x k in (w.0, eq-eqb (node_of g x) v w.2))
      (λ k. let loop = loops_at-Has g v (x / 2) (loop-Has es x k) in
      (omega (arith, loop.0), eq-eqb (node_of g x) v (node_of-loop g x v loop.1 loop.2)))
      (Has-append_cases x xs ys h))
      (λ x less at.
      let node : node_of g x ≡ v = eqb-true (node_of g x) v at in
      ⊎_elim
      (λ same.
      let source_v : source g (x / 2) ≡ v = loop_ends g x v same node in
      Has-append_right x xs ys
      (Has-loop es x (Has-loops_at g v (x / 2) (omega (arith, less)) source_v (sym same ∙ source_v))))
      (λ ne. Has-append_left x xs ys (Has-solved g is s are v lt x less ne node))
      (cases_eq (source g (x / 2)) (target g (x / 2))))

  -- the list of a cluster that edge e leaves
  left-Exactly : (c e : ℕ) → 0 < c → c < clusters g → e < edges g → leaves g c e ≡ true
      → Exactly (edges g) (leaves g c) (map (name_edge g) (s (vertex_name g (Child c))))
  left-Exactly c e above cluster lt leave =
      let p = child-IsVertex g is c e above cluster lt leave in
      let names : List ℕ = s (vertex_name g (Child c)) in
      Exactly-from (edges g) (leaves g c) (map (name_edge g) names)
      (Distinct-map_on (name_edge g) names
      (λ n m hn hm same.
      let a = child_name g is s are c e n above cluster lt leave hn in
      let b = child_name g is s are c e m above cluster lt leave hm in
      sym (named_dart g is s are (Child c) n p hn).2
      ∙ ap (segment_name g) (a.3 ∙ ap (out_dart g c) (sym a.4 ∙ same ∙ b.4) ∙ sym b.3)
      ∙ (named_dart g is s are (Child c) m p hm).2)
      (are.distinct (vertex_name g (Child c)) p.within))
      (λ f h.
      let m = map_on-Has (name_edge g) f names h in
      let a = child_name g is s are c e m.0 above cluster lt leave m.1 in
      subst (λ y. (y < edges g) × (leaves g c y ≡ true)) (sym a.4 ∙ m.2) (a.1, a.2))
      (λ f less left.
      let stands = out_dart-StandsAt g is c f less cluster left in
      let item = dart_named g is s are (Child c) (out_dart g c f) p
      (StandsAt-kept g (out_dart g c f) f (Child c) stands) stands.at in
      subst (λ y. Has y (map (name_edge g) names)) (name_edge-is g (out_dart g c f) f (Child c) stands)
      (Has-map_on (name_edge g) (segment_name g (out_dart g c f)) names item.0))

  -- the list of a cluster has exactly the edges that leave it
  cluster-Exactly : (c : ℕ) → 0 < c → c < clusters g → Exactly (edges g) (leaves g c) (solved_cluster g s c)
  cluster-Exactly c above cluster =
      let names : List ℕ = map (name_edge g) (s (vertex_name g (Child c))) in
      ⊎_elim
      (λ left. let e = left-edge g c left in
      subst (Exactly (edges g) (leaves g c)) (sym (cond-true (is_left g c) names [] left))
      (left-Exactly c e.0 above cluster e.1 e.2))
      (λ none. subst (Exactly (edges g) (leaves g c)) (sym (cond-false (is_left g c) names [] none))
      (Exactly-from (edges g) (leaves g c) [] tt (λ e h. absurd h)
      (λ e lt leave. absurd (false≢true (sym none ∙ is_left-from g c e above lt leave)))))
      (cases_Bool (is_left g c))

  -- the layout is arranged
  pub IsArranged-solution : IsArranged g (solution_layout g s)
  IsArranged-solution =
      let nodes_long : length (map (solved_node g s) (below (nodes g))) ≡ nodes g =
      length-map-range_with_len (solved_node g s) 0 (nodes g) in
      let clusters_long : length (map (solved_cluster g s) (range_with_len 1 (length g.parents))) ≡ length g.parents =
      length-map-range_with_len (solved_cluster g s) 1 (length g.parents) in
      record {
        nodes_right = λ i. record {
          present = λ lt. (
            omega (arith, lt, nodes_long),
            subst (Exactly (2 * edges g) (λ d. node_of g d == i)) (sym (node_list-solved i lt)) (node-Exactly i lt),
          );
          expected = λ lt. omega (arith, lt, nodes_long);
        };
        clusters_right = λ k. record {
          present = λ above lt. (
            omega (arith, lt, clusters_long),
            subst (Exactly (edges g) (leaves g k)) (sym (cluster_list-solved k above lt)) (cluster-Exactly k above lt),
          );
          expected = λ lt. omega (arith, lt, clusters_long);
        };
      }
