-- The tables of the names of vertices, written vertex by vertex.
use Rattle.std.proofs.Common.{◌≡◌, ℕ, zero, suc, ◌+◌, ◌<◌, ◌≤◌, List, [], ◌∷◌, ◌++◌, length, map, sym, ap, ◌∙◌, subst, ⊎_elim, arith}
use Rattle.std.specs.Prelude.{cond, eqb, true, slice_index_or, slice_set, Option, Some, None}
use Rattle.std.specs.List.{All, filter, flat_map, range_with_len}
use Rattle.std.proofs.lemmas.Bool.{cases_Bool, cases_eq, cond-false, cond-true, false≢true}
use Rattle.std.proofs.lemmas.List.{get_or-set_other, get_or-set_same, length-set}
use Rattle.std.proofs.lemmas.List.Elements.{All-append, All-cons, All-nil}
use Rattle.std.proofs.lemmas.List.FromFn.{fill_by_all}
use Rattle.cp_lists.proofs.FilteredLists.{filter-Has}
use Rattle.cp_cgraph.specs.Clustered.{Clustered, IsClustered, clusters, home, nodes, parent}
use Rattle.cp_skel.specs.declared.vertex.Vertex.{Vertex}
use Rattle.cp_skel.specs.declared.vertex.Vertex.TheVariants.{Child, Node, Outside}
use Rattle.cp_skel.specs.Skeletons.{IsVertex, all_vertices, below, is_left, left, vertex_name, vertices_in}
use Rattle.cp_skel.specs.SkeletonTables.{AreClustersTold, AreNodesTold, name_if_left, node_names}
use Rattle.cp_skel.proofs.Ranges.{range-Has}
use Rattle.cp_skel.proofs.SkeletonPipes.{left-Has, left-edge}
use Rattle.cp_skel.proofs.SkeletonRules.{All-map}
use Rattle.cp_skel.proofs.SkeletonVertices.{child-IsVertex, node-IsVertex, outside-IsVertex}
use Rattle.cp_skel.proofs.VertexKinds.{number}
use Rattle.cp_skel.proofs.VertexNames.{vertex_name-at}

-- a vertex stands for a node, or for a cluster that some edge leaves
abbrev IsWithin : Clustered → Vertex → Type 0
IsWithin g (Node v) = v < nodes g
IsWithin g (Child c) = (c < clusters g) × (is_left g c ≡ true)
IsWithin g (Outside c) = (c < clusters g) × (is_left g c ≡ true)

-- so do those of one skeleton
vertices_in-IsWithin : (g : Clustered) (c : ℕ) → c < clusters g → All (IsWithin g) (vertices_in g c)
vertices_in-IsWithin g c cluster =
    let ns : List ℕ = filter (λ v. eqb (home g v) c) (below (nodes g)) in
    let ds : List ℕ = filter (λ d. eqb (parent g d) c) (left g) in
    let outside : List Vertex = cond (is_left g c) (Outside c ∷ []) [] in
    All-append (IsWithin g) (map Node ns) (map Child ds ++ outside)
    (All-map (IsWithin g) Node ns
    (λ v h.
    let w = filter-Has (λ x. eqb (home g x) c) v (below (nodes g)) h in
    let r = range-Has v 0 (nodes g) w.0 in
    omega (arith, r.1)))
    (All-append (IsWithin g) (map Child ds) outside
    (All-map (IsWithin g) Child ds
    (λ d h.
    let w = filter-Has (λ x. eqb (parent g x) c) d (left g) h in
    let l = left-Has g d w.0 in
    (l.1, l.2)))
    (⊎_elim
    (λ t. subst (All (IsWithin g)) (sym (cond-true (is_left g c) (Outside c ∷ []) [] t))
    (All-cons (IsWithin g) (Outside c) [] (cluster, t) (All-nil (IsWithin g))))
    (λ f. subst (All (IsWithin g)) (sym (cond-false (is_left g c) (Outside c ∷ []) [] f)) (All-nil (IsWithin g)))
    (cases_Bool (is_left g c))))

-- and those of some
pieces-IsWithin : (g : Clustered) (a n : ℕ) → a + n ≤ clusters g
    → All (IsWithin g) (flat_map (vertices_in g) (range_with_len a n))
pieces-IsWithin g a zero le = All-nil (IsWithin g)
pieces-IsWithin g a (suc n) le =
    All-append (IsWithin g) (vertices_in g a) (flat_map (vertices_in g) (range_with_len (a + 1) n))
    (vertices_in-IsWithin g a (omega arith)) (pieces-IsWithin g (a + 1) n (omega arith))

-- the vertex at each place
vertex-IsWithin : (g : Clustered) (k : ℕ) → k < length (all_vertices g)
    → IsWithin g (slice_index_or (all_vertices g) k (Node 0))
vertex-IsWithin g k lt = pieces-IsWithin g 0 (clusters g) (omega arith) k (Node 0) lt

-- a node at a place is one
pub node_at-lt : (g : Clustered) (k v : ℕ) → k < length (all_vertices g)
    → slice_index_or (all_vertices g) k (Node 0) ≡ Node v → v < nodes g
node_at-lt g k v lt at = subst (IsWithin g) at (vertex-IsWithin g k lt)

-- and a cluster is one that some edge leaves
pub child_at : (g : Clustered) (k c : ℕ) → k < length (all_vertices g)
    → slice_index_or (all_vertices g) k (Node 0) ≡ Child c → (c < clusters g) × (is_left g c ≡ true)
child_at g k c lt at = subst (IsWithin g) at (vertex-IsWithin g k lt)

-- and so is a cluster whose outside stands at a place
pub outside_at : (g : Clustered) (k c : ℕ) → k < length (all_vertices g)
    → slice_index_or (all_vertices g) k (Node 0) ≡ Outside c → (c < clusters g) × (is_left g c ≡ true)
outside_at g k c lt at = subst (IsWithin g) at (vertex-IsWithin g k lt)

-- a vertex stands at one place
vertex_once : (g : Clustered) (j k : ℕ) (p : Vertex) → j < length (all_vertices g) → k < length (all_vertices g)
    → slice_index_or (all_vertices g) j (Node 0) ≡ p → slice_index_or (all_vertices g) k (Node 0) ≡ p → j ≡ k
vertex_once g j k p lt_j lt_k at_j at_k =
    sym (vertex_name-at g j lt_j) ∙ ap (vertex_name g) (at_j ∙ sym at_k) ∙ vertex_name-at g k lt_k

-- a node at place k is written
pub AreNodesTold-more : (g : Clustered) (k v : ℕ) (names new : List ℕ) → AreNodesTold g k names
    → k < length (all_vertices g) → slice_index_or (all_vertices g) k (Node 0) ≡ Node v → new ≡ slice_set names v k
    → AreNodesTold g (k + 1) new
AreNodesTold-more g k v names new are lt at is =
    let node : v < nodes g = node_at-lt g k v lt at in
    record {
      size = ap length is ∙ length-set names v k ∙ are.size;
      told = λ j w less at_j.
          ap (λ (ns : List ℕ). slice_index_or ns w 0) is
          ∙ ⊎_elim
          (λ same.
          ap (λ (u : ℕ). slice_index_or (slice_set names v k) u 0) (sym same)
          ∙ get_or-set_same names v k 0 (omega (arith, node, are.size))
          ∙ vertex_once g k j (Node w) lt (omega (arith, less, lt)) (at ∙ ap Node same) at_j)
          (λ ne.
          get_or-set_other names v w k 0 (λ e. ne (sym e))
          ∙ are.told j w
          (⊎_elim
          (λ last. absurd (ne (ap number (sym at ∙ ap (λ (i : ℕ). slice_index_or (all_vertices g) i (Node 0)) (sym
          last) ∙ at_j))))
          (λ before. omega arith)
          (cases_eq j k))
          at_j)
          (cases_eq v w);
    }

-- another vertex is not
pub AreNodesTold-other : (g : Clustered) (k : ℕ) (names : List ℕ) → AreNodesTold g k names
    → ((v : ℕ) → slice_index_or (all_vertices g) k (Node 0) ≡ Node v → ⊥) → AreNodesTold g (k + 1) names
AreNodesTold-other g k names are other = record {
  size = are.size;
  told = λ j w less at_j.
      are.told j w
      (⊎_elim
      (λ last. absurd (other w (ap (λ (i : ℕ). slice_index_or (all_vertices g) i (Node 0)) (sym last) ∙ at_j)))
      (λ before. omega arith)
      (cases_eq j k))
      at_j;
}

-- where all are told, the table is whole
pub AreNodesTold-all : (g : Clustered) → IsClustered g → (names : List ℕ)
    → AreNodesTold g (length (all_vertices g)) names → names ≡ node_names g
AreNodesTold-all g is names are =
    fill_by_all (λ v. vertex_name g (Node v)) names (nodes g) 0 are.size
    (λ v lt.
    let at : IsVertex g (Node v) = node-IsVertex g is v lt in
    are.told (vertex_name g (Node v)) v at.within at.at)

-- the vertices of clusters that F tells
module _ (g : Clustered) (F : ℕ → Vertex) (apart : (c d : ℕ) → F c ≡ F d → c ≡ d) where
  -- one at place k is written
  pub AreClustersTold-more : (k c : ℕ) (names new : List (Option ℕ)) → AreClustersTold g F k names
      → k < length (all_vertices g) → slice_index_or (all_vertices g) k (Node 0) ≡ F c
      → (c < clusters g) × (is_left g c ≡ true) → new ≡ slice_set names c (Some k)
      → AreClustersTold g F (k + 1) new
  AreClustersTold-more k c names new are lt at within is = record {
    size = ap length is ∙ length-set names c (Some k) ∙ are.size;
    told = λ j d less at_j.
        ap (λ (ns : List (Option ℕ)). slice_index_or ns d None) is
        ∙ ⊎_elim
        (λ same.
        ap (λ (u : ℕ). slice_index_or (slice_set names c (Some k)) u None) (sym same)
        ∙ get_or-set_same names c (Some k) None (omega (arith, within.0, are.size))
        ∙ ap Some (vertex_once g k j (F d) lt (omega (arith, less, lt)) (at ∙ ap F same) at_j))
        (λ ne.
        get_or-set_other names c d (Some k) None (λ e. ne (sym e))
        ∙ are.told j d
        (⊎_elim
        (λ last. absurd (ne (apart c d
        (sym at ∙ ap (λ (i : ℕ). slice_index_or (all_vertices g) i (Node 0)) (sym last) ∙ at_j))))
        (λ before. omega arith)
        (cases_eq j k))
        at_j)
        (cases_eq c d);
    only = λ d not_left.
        ap (λ (ns : List (Option ℕ)). slice_index_or ns d None) is
        ∙ get_or-set_other names c d (Some k) None
        (λ e. false≢true (sym not_left ∙ ap (is_left g) e ∙ within.1))
        ∙ are.only d not_left;
  }

  -- another vertex is not
  pub AreClustersTold-other : (k : ℕ) (names : List (Option ℕ)) → AreClustersTold g F k names
      → ((c : ℕ) → slice_index_or (all_vertices g) k (Node 0) ≡ F c → ⊥) → AreClustersTold g F (k + 1) names
  AreClustersTold-other k names are other = record {
    size = are.size;
    told = λ j d less at_j.
        are.told j d
        (⊎_elim
        (λ last. absurd (other d (ap (λ (i : ℕ). slice_index_or (all_vertices g) i (Node 0)) (sym last) ∙ at_j)))
        (λ before. omega arith)
        (cases_eq j k))
        at_j;
    only = are.only;
  }

  -- where all are told, the table is whole
  pub AreClustersTold-all : (names : List (Option ℕ)) → AreClustersTold g F (length (all_vertices g)) names
      → ((c : ℕ) → c < clusters g → is_left g c ≡ true → IsVertex g (F c))
      → names ≡ map (name_if_left g F) (below (clusters g))
  AreClustersTold-all names are vertex =
      fill_by_all (name_if_left g F) names (clusters g) None are.size
      (λ c lt. ⊎_elim
      (λ t.
      let at : IsVertex g (F c) = vertex c lt t in
      are.told (vertex_name g (F c)) c at.within at.at
      ∙ sym (cond-true (is_left g c) (Some (vertex_name g (F c))) None t))
      (λ f. are.only c f ∙ sym (cond-false (is_left g c) (Some (vertex_name g (F c))) None f))
      (cases_Bool (is_left g c)))

-- a cluster that some edge leaves is not the root
left-above : (g : Clustered) (c : ℕ) → is_left g c ≡ true → 0 < c
left-above g c t = ⊎_elim
    (λ z. absurd (false≢true (ap (is_left g) (sym z) ∙ t)))
    (λ nz. omega arith)
    (cases_eq c 0)

-- it has its vertex in the skeleton of its parent
pub left-child : (g : Clustered) → IsClustered g → (c : ℕ) → c < clusters g → is_left g c ≡ true → IsVertex g (Child c)
left-child g is c lt t = let e = left-edge g c t in child-IsVertex g is c e.0 (left-above g c t) lt e.1 e.2

-- and one for its outside
pub left-outside : (g : Clustered) → (c : ℕ) → c < clusters g → is_left g c ≡ true → IsVertex g (Outside c)
left-outside g c lt t = let e = left-edge g c t in outside-IsVertex g c e.0 (left-above g c t) lt e.1 e.2

-- what stands at a place of the list of vertices
pub vertex_found : (g : Clustered) (vertices : List Vertex) (k : ℕ) (p : Vertex) → vertices ≡ all_vertices g
    → slice_index_or vertices k (Node 0) ≡ p → slice_index_or (all_vertices g) k (Node 0) ≡ p
vertex_found g vertices k p is at = ap (λ (vs : List Vertex). slice_index_or vs k (Node 0)) (sym is) ∙ at
