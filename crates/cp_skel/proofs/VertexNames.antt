-- Each vertex of the skeletons stands once among them, so its place is its name.
use Rattle.std.proofs.Common.{◌≡◌, ℕ, zero, suc, ◌+◌, ◌*◌, ◌<◌, ◌≤◌, List, [], ◌∷◌, ◌++◌, map, length, sym, refl, ap, ap₂, ◌∙◌, subst, ⊎_elim, arith}
use Rattle.std.specs.Prelude.{cond, eqb, slice_index_or}
use Rattle.std.specs.List.{filter, flat_map, range_with_len}
use Rattle.std.proofs.lemmas.Bool.{cases_Bool, cond-false, cond-true, eqb-true}
use Rattle.std.proofs.lemmas.List.{get_or-map, length-map, map-append}
use Rattle.std.proofs.lemmas.List.Elements.{Contains-get_or}
use Rattle.cp_lists.specs.CyclicLists.{Distinct, Has}
use Rattle.cp_lists.proofs.DistinctLists.{Distinct-append, Distinct-once, Has-append_cases, Lacks-from}
use Rattle.cp_lists.proofs.FilteredLists.{filter-Distinct, filter-Has}
use Rattle.cp_lists.proofs.MappedLists.{Distinct-map_on, map_on-Has}
use Rattle.cp_cgraph.specs.Clustered.{Clustered, clusters, home, nodes, parent}
use Rattle.cp_skel.specs.declared.vertex.Vertex.{Vertex}
use Rattle.cp_skel.specs.declared.vertex.Vertex.TheVariants.{Child, Node, Outside}
use Rattle.cp_skel.specs.Skeletons.{IsVertex, all_vertices, below, is_left, left, vertex_name, vertices_in}
use Rattle.cp_skel.proofs.Ranges.{Distinct-range}
use Rattle.cp_skel.proofs.SkeletonVertices.{IsVertex-from}
use Rattle.cp_skel.proofs.TabledLists.{map_twice}
use Rattle.cp_skel.proofs.VertexKinds.{kind, number}

-- a number for each vertex
abbrev code : Vertex → ℕ
code p = 3 * number p + kind p

-- the cluster in whose skeleton a vertex is
abbrev owner : Clustered → Vertex → ℕ
owner g (Node v) = home g v
owner g (Child c) = parent g c
owner g (Outside c) = c

-- x is the number of a vertex in the skeleton of cluster c
record IsOwned (g : Clustered) (c x : ℕ) : Type 0 where
  pub vertex : Vertex
  pub is : code vertex ≡ x
  pub owned : owner g vertex ≡ c

-- vertices with one number have one owner
owner_same : (g : Clustered) (p q : Vertex) → code p ≡ code q → owner g p ≡ owner g q
owner_same g (Node v) (Node w) e = ap (home g) (let h : v ≡ w = omega (arith, e) in h)
owner_same g (Node v) (Child d) e = absurd (omega (arith, e))
owner_same g (Node v) (Outside d) e = absurd (omega (arith, e))
owner_same g (Child c) (Node w) e = absurd (omega (arith, e))
owner_same g (Child c) (Child d) e = ap (parent g) (let h : c ≡ d = omega (arith, e) in h)
owner_same g (Child c) (Outside d) e = absurd (omega (arith, e))
owner_same g (Outside c) (Node w) e = absurd (omega (arith, e))
owner_same g (Outside c) (Child d) e = absurd (omega (arith, e))
owner_same g (Outside c) (Outside d) e = omega (arith, e)

-- the parts of a skeleton
module _ (g : Clustered) (c : ℕ) where
  -- its nodes
  abbrev own_nodes : List ℕ
  own_nodes = filter (λ v. eqb (home g v) c) (below (nodes g))

  -- its children
  abbrev own_children : List ℕ
  own_children = filter (λ d. eqb (parent g d) c) (left g)

  -- its outside
  abbrev own_outside : List Vertex
  own_outside = cond (is_left g c) (Outside c ∷ []) []

  -- their numbers
  codes-are : map code (vertices_in g c)
      ≡ map (λ v. code (Node v)) own_nodes ++ (map (λ d. code (Child d)) own_children ++ map code own_outside)
  codes-are =
      map-append code (map Node own_nodes) (map Child own_children ++ own_outside)
      ∙ ap₂ (λ (xs : List ℕ) (ys : List ℕ). xs ++ ys) (map_twice Node code own_nodes)
      (map-append code (map Child own_children) own_outside
      ∙ ap (λ xs. xs ++ map code own_outside) (map_twice Child code own_children))

  -- the number of the outside
  outside-Has : (x : ℕ) → Has x (map code own_outside) → x ≡ code (Outside c)
  outside-Has x h = ⊎_elim
      (λ t. ⊎_elim (λ e. sym e) (λ no. absurd no)
      (subst (λ ps. Has x (map code ps)) (cond-true (is_left g c) (Outside c ∷ []) [] t) h))
      (λ f. absurd (subst (λ ps. Has x (map code ps)) (cond-false (is_left g c) (Outside c ∷ []) [] f) h))
      (cases_Bool (is_left g c))

  -- it stands at most once
  outside-Distinct : Distinct (map code own_outside)
  outside-Distinct = ⊎_elim
      (λ t. subst (λ ps. Distinct (map code ps)) (sym (cond-true (is_left g c) (Outside c ∷ []) [] t)) (tt, tt))
      (λ f. subst (λ ps. Distinct (map code ps)) (sym (cond-false (is_left g c) (Outside c ∷ []) [] f)) tt)
      (cases_Bool (is_left g c))

  -- no vertex stands twice in a skeleton
  codes-Distinct : Distinct (map code (vertices_in g c))
  codes-Distinct =
      let vs : List ℕ = map (λ v. code (Node v)) own_nodes in
      let ds : List ℕ = map (λ d. code (Child d)) own_children in
      let os : List ℕ = map code own_outside in
      subst Distinct (sym codes-are)
      (Distinct-append vs (ds ++ os)
      (Distinct-map_on (λ v. code (Node v)) own_nodes (λ x y hx hy e. omega (arith, e))
      (filter-Distinct (λ v. eqb (home g v) c) (below (nodes g)) (Distinct-range 0 (nodes g))))
      (Distinct-append ds os
      (Distinct-map_on (λ d. code (Child d)) own_children (λ x y hx hy e. omega (arith, e))
      (filter-Distinct (λ d. eqb (parent g d) c) (left g)
      (filter-Distinct (is_left g) (below (clusters g)) (Distinct-range 0 (clusters g)))))
      outside-Distinct
      (λ x h. Lacks-from x os (λ k.
      let m = map_on-Has (λ d. code (Child d)) x own_children h in
      let o = outside-Has x k in
      omega (arith, m.2, o))))
      (λ x h. Lacks-from x (ds ++ os) (λ k.
      let m = map_on-Has (λ v. code (Node v)) x own_nodes h in
      ⊎_elim
      (λ r. let n = map_on-Has (λ d. code (Child d)) x own_children r in omega (arith, m.2, n.2))
      (λ r. let o = outside-Has x r in omega (arith, m.2, o))
      (Has-append_cases x ds os k))))

  -- each is owned by the cluster
  codes-owned : (x : ℕ) → Has x (map code (vertices_in g c)) → IsOwned g c x
  codes-owned x h =
      let vs : List ℕ = map (λ v. code (Node v)) own_nodes in
      let ds : List ℕ = map (λ d. code (Child d)) own_children in
      let os : List ℕ = map code own_outside in
      ⊎_elim
      (λ k. let m = map_on-Has (λ v. code (Node v)) x own_nodes k in
      let w = filter-Has (λ v. eqb (home g v) c) m.0 (below (nodes g)) m.1 in
      record { vertex = Node m.0; is = m.2; owned = eqb-true (home g m.0) c w.1 })
      (λ k. ⊎_elim
      (λ r. let m = map_on-Has (λ d. code (Child d)) x own_children r in
      let w = filter-Has (λ d. eqb (parent g d) c) m.0 (left g) m.1 in
      record { vertex = Child m.0; is = m.2; owned = eqb-true (parent g m.0) c w.1 })
      (λ r. record { vertex = Outside c; is = sym (outside-Has x r); owned = refl })
      (Has-append_cases x ds os k))
      (Has-append_cases x vs (ds ++ os) (subst (Has x) codes-are h))

-- the vertices of some clusters
pieces-owned : (g : Clustered) (a n x : ℕ) → Has x (map code (flat_map (vertices_in g) (range_with_len a n)))
    → (c : ℕ) × (a ≤ c) × IsOwned g c x
pieces-owned g a zero x h = absurd h
pieces-owned g a (suc n) x h =
    let rest : List Vertex = flat_map (vertices_in g) (range_with_len (a + 1) n) in
    ⊎_elim
    (λ k. (a, omega arith, codes-owned g a x k))
    (λ k. let r = pieces-owned g (a + 1) n x k in (r.0, omega (arith, r.1), r.2))
    (Has-append_cases x (map code (vertices_in g a)) (map code rest)
    (subst (Has x) (map-append code (vertices_in g a) rest) h))

-- none stands twice
pieces-Distinct : (g : Clustered) (a n : ℕ) → Distinct (map code (flat_map (vertices_in g) (range_with_len a n)))
pieces-Distinct g a zero = tt
pieces-Distinct g a (suc n) =
    let rest : List Vertex = flat_map (vertices_in g) (range_with_len (a + 1) n) in
    subst Distinct (sym (map-append code (vertices_in g a) rest))
    (Distinct-append (map code (vertices_in g a)) (map code rest) (codes-Distinct g a) (pieces-Distinct g (a + 1) n)
    (λ x h. Lacks-from x (map code rest) (λ k.
    let one = codes-owned g a x h in
    let r = pieces-owned g (a + 1) n x k in
    let two : IsOwned g r.0 x = r.2 in
    let same : a ≡ r.0 = sym one.owned ∙ owner_same g one.vertex two.vertex (one.is ∙ sym two.is) ∙ two.owned in
    omega (arith, same, r.1))))

-- the vertex at a place has that name
pub vertex_name-at : (g : Clustered) (n : ℕ) → n < length (all_vertices g)
    → vertex_name g (slice_index_or (all_vertices g) n (Node 0)) ≡ n
vertex_name-at g n lt =
    let vs : List Vertex = all_vertices g in
    let p : Vertex = slice_index_or (all_vertices g) n (Node 0) in
    let is_p : IsVertex g p = IsVertex-from g p (Contains-get_or vs n (Node 0) lt) in
    let long : length (map code vs) ≡ length vs = length-map vs code in
    Distinct-once (map code vs) (pieces-Distinct g 0 (clusters g)) (vertex_name g p) n
    (let h = is_p.within in omega (arith, h, long)) (omega (arith, lt, long))
    (get_or-map code vs (vertex_name g p) (Node 0) 0 is_p.within ∙ ap code is_p.at
    ∙ sym (get_or-map code vs n (Node 0) 0 lt))
