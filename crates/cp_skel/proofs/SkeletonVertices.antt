-- The vertices of the skeletons: each has its name, and each dart of a segment that is kept stands at one.
use Rattle.std.proofs.Common.{◌≡◌, ℕ, zero, suc, ◌+◌, ◌*◌, ◌/◌, ◌<◌, ◌≤◌, Bool, true, List, [], ◌∷◌, ◌++◌, map, length, sym, refl, ap, ◌∙◌, subst, ⊎_elim, arith}
use Rattle.std.specs.Prelude.{cond, eqb, not, slice_index_or, ◌%◌, ◌==◌}
use Rattle.std.specs.List.{Contains, filter, flat_map, list_any, range_with_len}
use Rattle.std.proofs.lemmas.Bool.{and_from, cases_eq, cases_lt, cond-false, cond-true, eq-eqb, eqb-true, false≢true, ne_eqb}
use Rattle.std.proofs.lemmas.List.Elements.{Contains-append_left, Contains-append_right}
use Rattle.std.proofs.lemmas.List.Folds.{list_any_at}
use Rattle.std.proofs.lemmas.List.FromFn.{get_or-range_with_len, length-range_with_len}
use Rattle.std.proofs.lemmas.List.Sums.{fails_before_first, passes_at_first}
use Rattle.cp_lists.specs.CyclicLists.{Has}
use Rattle.cp_lists.proofs.DistinctLists.{Has-Contains}
use Rattle.cp_lists.proofs.FilteredLists.{Has-filter}
use Rattle.cp_conn.proofs.NamedGraphs.{map_has}
use Rattle.cp_cgraph.specs.Clustered.{Clustered, IsClustered, clusters, edges, home, node_of, nodes, parent, source, target}
use Rattle.cp_cgraph.specs.Crossings.{leaves}
use Rattle.cp_skel.specs.declared.vertex.Vertex.{Vertex}
use Rattle.cp_skel.specs.declared.vertex.Vertex.TheVariants.{Child, Node, Outside}
use Rattle.cp_skel.specs.Skeletons.{IsVertex, all_vertices, below, dart_vertex, is_left, is_vertex, kept_segments, left, vertex_name, vertices_in}
use Rattle.cp_skel.proofs.DartVertices.{end_dart-StandsAt, in_dart-StandsAt, out_dart-StandsAt}
use Rattle.cp_skel.proofs.KeptDarts.{DartKind, at_node, dart_kind, inside, outside}
use Rattle.cp_skel.proofs.Ranges.{Has-range}

-- vertices that stand for the same are equal
is_vertex-true : (p q : Vertex) → is_vertex p q ≡ true → p ≡ q
is_vertex-true (Node v) (Node w) t = ap Node (eqb-true v w t)
is_vertex-true (Node v) (Child d) t = absurd (false≢true t)
is_vertex-true (Node v) (Outside d) t = absurd (false≢true t)
is_vertex-true (Child c) (Node w) t = absurd (false≢true t)
is_vertex-true (Child c) (Child d) t = ap Child (eqb-true c d t)
is_vertex-true (Child c) (Outside d) t = absurd (false≢true t)
is_vertex-true (Outside c) (Node w) t = absurd (false≢true t)
is_vertex-true (Outside c) (Child d) t = absurd (false≢true t)
is_vertex-true (Outside c) (Outside d) t = ap Outside (eqb-true c d t)

-- a vertex stands for what it stands for
is_vertex-same : (p q : Vertex) → q ≡ p → is_vertex p q ≡ true
is_vertex-same (Node v) q e = ap (is_vertex (Node v)) e ∙ eq-eqb v v refl
is_vertex-same (Child c) q e = ap (is_vertex (Child c)) e ∙ eq-eqb c c refl
is_vertex-same (Outside c) q e = ap (is_vertex (Outside c)) e ∙ eq-eqb c c refl

-- what is among the vertices is one
pub IsVertex-from : (g : Clustered) (p : Vertex) → Contains (all_vertices g) p → IsVertex g p
IsVertex-from g p c =
    let vs : List Vertex = all_vertices g in
    let passes : is_vertex p (slice_index_or vs c.0 p) ≡ true = is_vertex-same p (slice_index_or vs c.0 p) c.2 in
    let within : vertex_name g p < length (all_vertices g) =
    ⊎_elim
    (λ lt. lt)
    (λ ge. absurd (false≢true (sym (fails_before_first (is_vertex p) vs c.0 p (omega (arith, c.1, ge))) ∙ passes)))
    (cases_lt (vertex_name g p) (length (all_vertices g))) in
    record {
      within = within;
      at = sym (is_vertex-true p (slice_index_or vs (vertex_name g p) (Node 0))
          (passes_at_first (is_vertex p) vs (Node 0) within));
    }

-- the names of vertices tell them apart
pub vertex_name-apart : (g : Clustered) (p q : Vertex) → IsVertex g p → IsVertex g q → vertex_name g p ≡ vertex_name g q
    → p ≡ q
vertex_name-apart g p q is_p is_q same =
    sym is_p.at ∙ ap (λ n. slice_index_or (all_vertices g) n (Node 0)) same ∙ is_q.at

-- what one of the pieces contains they contain
contains_piece : (F : ℕ → List Vertex) (a n c : ℕ) (p : Vertex) → a ≤ c → c < a + n → Contains (F c) p
    → Contains (flat_map F (range_with_len a n)) p
contains_piece F a zero c p le lt h = absurd (omega arith)
contains_piece F a (suc n) c p le lt h = ⊎_elim
    (λ same. Contains-append_left (F a) (flat_map F (range_with_len (a + 1) n)) p
    (subst (λ x. Contains (F x) p) (sym same) h))
    (λ ne. Contains-append_right (F a) (flat_map F (range_with_len (a + 1) n)) p
    (contains_piece F (a + 1) n c p (omega arith) (omega arith) h))
    (cases_eq a c)

-- each node is a vertex
pub node-IsVertex : (g : Clustered) → IsClustered g → (v : ℕ) → v < nodes g → IsVertex g (Node v)
node-IsVertex g is v lt =
    let c : ℕ = home g v in
    let test : ℕ → Bool = λ w. eqb (home g w) c in
    let vs : List ℕ = filter test (below (nodes g)) in
    let item : Has v vs =
    Has-filter test v (below (nodes g)) (Has-range v 0 (nodes g) (omega arith) (omega (arith, lt))) (eq-eqb c c refl) in
    IsVertex-from g (Node v)
    (contains_piece (vertices_in g) 0 (clusters g) (home g v) (Node v) (omega arith)
    (let h = is.home_is_cluster v lt in omega (arith, h))
    (Contains-append_left (map Node vs)
    (map Child (filter (λ d. eqb (parent g d) c) (left g)) ++ cond (is_left g c) (Outside c ∷ []) []) (Node v)
    (map_has Node vs v ((Has-Contains v vs).0 item))))

-- a cluster that an edge leaves is left
pub is_left-from : (g : Clustered) (c e : ℕ) → 0 < c → e < edges g → leaves g c e ≡ true → is_left g c ≡ true
is_left-from g c e above lt leave =
    let at : slice_index_or (below (edges g)) e 0 ≡ e =
    get_or-range_with_len 0 (edges g) e 0 lt ∙ (let h : 0 + e ≡ e = omega arith in h) in
    and_from (not (eqb c 0)) (list_any (leaves g c) (below (edges g)))
    (ap not (ne_eqb c 0 (λ z. omega arith)))
    (list_any_at (leaves g c) (below (edges g)) e 0 (omega (arith, lt, length-range_with_len 0 (edges g)))
    (ap (leaves g c) at ∙ leave))

-- such a cluster is a vertex as it is seen from its parent
pub child-IsVertex : (g : Clustered) → IsClustered g → (c e : ℕ) → 0 < c → c < clusters g → e < edges g
    → leaves g c e ≡ true → IsVertex g (Child c)
child-IsVertex g is c e above cluster lt leave =
    let b : ℕ = parent g c in
    let ns : List Vertex = map Node (filter (λ v. eqb (home g v) b) (below (nodes g))) in
    let test : ℕ → Bool = λ d. eqb (parent g d) b in
    let cs : List ℕ = filter test (left g) in
    let item : Has c cs =
    Has-filter test c (left g)
    (Has-filter (is_left g) c (below (clusters g)) (Has-range c 0 (clusters g) (omega arith) (omega (arith, cluster)))
    (is_left-from g c e above lt leave)) (eq-eqb b b refl) in
    let less : parent g c < c = is.inside_a_lower c above cluster in
    IsVertex-from g (Child c)
    (contains_piece (vertices_in g) 0 (clusters g) (parent g c) (Child c) (omega arith) (omega (arith, less, cluster))
    (Contains-append_right ns (map Child cs ++ cond (is_left g b) (Outside b ∷ []) []) (Child c)
    (Contains-append_left (map Child cs) (cond (is_left g b) (Outside b ∷ []) []) (Child c)
    (map_has Child cs c ((Has-Contains c cs).0 item)))))

-- and so is what lies outside it
pub outside-IsVertex : (g : Clustered) → (c e : ℕ) → 0 < c → c < clusters g → e < edges g → leaves g c e ≡ true
    → IsVertex g (Outside c)
outside-IsVertex g c e above cluster lt leave =
    let ns : List Vertex = map Node (filter (λ v. eqb (home g v) c) (below (nodes g))) in
    let ks : List Vertex = map Child (filter (λ d. eqb (parent g d) c) (left g)) in
    let here : cond (is_left g c) (Outside c ∷ []) [] ≡ Outside c ∷ [] =
    cond-true (is_left g c) (Outside c ∷ []) [] (is_left-from g c e above lt leave) in
    let one : Contains (Outside c ∷ []) (Outside c) = (0, omega arith, refl) in
    IsVertex-from g (Outside c)
    (contains_piece (vertices_in g) 0 (clusters g) c (Outside c) (omega arith) (omega (arith, cluster))
    (Contains-append_right ns (ks ++ cond (is_left g c) (Outside c ∷ []) []) (Outside c)
    (Contains-append_right ks (cond (is_left g c) (Outside c ∷ []) []) (Outside c)
    (subst (λ xs. Contains xs (Outside c)) (sym here) one))))

-- each dart of the graph stands at a node
pub node_of-lt : (g : Clustered) → IsClustered g → (x : ℕ) → x < 2 * edges g → node_of g x < nodes g
node_of-lt g is x less = ⊎_elim
    (λ even. subst (λ m. m < nodes g)
    (sym (cond-true (x % 2 == 0) (source g (x / 2)) (target g (x / 2)) (eq-eqb (x % 2) 0 even)))
    (is.source_is_node (x / 2) (omega arith)))
    (λ odd. subst (λ m. m < nodes g)
    (sym (cond-false (x % 2 == 0) (source g (x / 2)) (target g (x / 2)) (ne_eqb (x % 2) 0 odd)))
    (is.target_is_node (x / 2) (omega arith)))
    (cases_eq (x % 2) 0)

-- each dart of a segment that is kept stands at a vertex
pub kept-IsVertex : (g : Clustered) → IsClustered g → (d : ℕ) → Has (d / 2) (kept_segments g)
    → IsVertex g (dart_vertex g d)
kept-IsVertex g is d h = by (dart_kind g is d h)
  where
    by : DartKind g d → IsVertex g (dart_vertex g d)
    by (at_node x lt ne e) =
        let s = end_dart-StandsAt g x lt ne in
        subst (IsVertex g) (sym (ap (dart_vertex g) e ∙ s.at)) (node-IsVertex g is (node_of g x) (node_of-lt g is x lt))
    by (inside c e above cluster lt leave at) =
        let s = in_dart-StandsAt g is c e lt cluster leave in
        subst (IsVertex g) (sym (ap (dart_vertex g) at ∙ s.at)) (outside-IsVertex g c e above cluster lt leave)
    by (outside c e above cluster lt leave at) =
        let s = out_dart-StandsAt g is c e lt cluster leave in
        subst (IsVertex g) (sym (ap (dart_vertex g) at ∙ s.at)) (child-IsVertex g is c e above cluster lt leave)
