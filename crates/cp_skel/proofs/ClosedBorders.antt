-- The border graph of an arranged layout is the map of its closed borders and its nodes.
use Rattle.std.proofs.Common.{◌≡◌, ℕ, zero, suc, ◌+◌, ◌-◌, ◌*◌, ◌<◌, ◌≤◌, Bool, true, false, cond, List, [], ◌∷◌, ◌++◌, map, length, slice_index, sym, refl, ap, ap₂, ◌∙◌, subst, inl, inr, ⊎_elim, arith}
use Rattle.std.specs.Prelude.{◌==◌}
use Rattle.std.specs.List.{position_or_len, range_with_len}
use Rattle.std.proofs.lemmas.Bool.{cases_lt}
use Rattle.std.proofs.lemmas.List.{map-append}
use Rattle.cp_lists.specs.CyclicLists.{Distinct, Has}
use Rattle.cp_lists.proofs.DistinctLists.{Distinct-append, Has-append_cases, Has-append_left, Has-append_right, Lacks-from, has_lacks}
use Rattle.cp_lists.proofs.MappedLists.{Distinct-map_on, Has-map_on, map_on-Has}
use Rattle.cp_rot.specs.Systems.{IsRotation, darts, list_of, next, vertex_of}
use Rattle.cp_rot.specs.Systems as Sys
use Rattle.cp_cgraph.specs.Clustered.{Clustered, IsClustered, clusters, nodes, source}
use Rattle.cp_cgraph.specs.Clustered as Cl
use Rattle.cp_cgraph.specs.Crossings.{contains, crossings}
use Rattle.cp_cgraph.specs.declared.layout.Layout.{Layout}
use Rattle.cp_border.specs.Borders.{sum_below, border_vertex, borders, cluster_list, crossed, end_dart, first_border, first_border_edge, place_before}
use Rattle.cp_border.specs.Good.{IsArranged}
use Rattle.cp_border.specs.Tables.{border_at, list_at}
use Rattle.cp_border.proofs.BorderLists.{list_at-four}
use Rattle.cp_border.proofs.Cyclic.{before_first, before_later}
use Rattle.cp_border.proofs.Darts.{begin_dart, finish_dart}
use Rattle.cp_border.proofs.Numbering.{sum_below-apart, located}
use Rattle.cp_border.proofs.Rotation.{crossing_at, crossing_of, item_at, item_of, length-node_lists, list_of_border, list_of_node}
use Rattle.cp_border.proofs.RotationLaw.{IsRotation-borders, border_vertex-lt}
use Rattle.cp_maps.specs.Borders.{border_lists, closed_border, last_begin}
use Rattle.cp_maps.specs.Maps.{IsMapOf}
use Rattle.cp_faces.specs.Twins.{twin}
use Rattle.cp_faces.proofs.Twins.{twin_even}
use Rattle.cp_skel.specs.BorderPlaces.{border_of, border_place, vertices_at, vertices_of}
use Rattle.cp_skel.specs.OpenedBorders.{closed_borders}
use Rattle.cp_skel.specs.SkeletonLists.{crossing_place, dart_before, dart_behind, inner_clusters}
use Rattle.cp_skel.proofs.Ranges.{Distinct-range, Has-range, range-Has}
use Rattle.cp_skel.proofs.SystemLists.{IsMapOf-vertices}
use Rattle.cp_skel.proofs.TabledLists.{map_places}

-- four darts of which the second and the fourth depend on a choice
four_cond : (b : Bool) (a x y f : ℕ)
    → (a ∷ cond b x y ∷ f ∷ cond b y x ∷ []) ≡ cond b (a ∷ x ∷ f ∷ y ∷ []) (a ∷ y ∷ f ∷ x ∷ [])
four_cond true a x y f = refl
four_cond false a x y f = refl

-- the dart that begins at the last place of a border
last_begin-is : (g : Clustered) (l : Layout) (c k n s : ℕ) → s + 2 ≡ 2 * (first_border_edge g l c + k)
    → last_begin s (map (border_place g l c) (range_with_len k n)) + 2 ≡ 2 * (first_border_edge g l c + (k + n))
last_begin-is g l c k zero s e = omega (arith, e)
last_begin-is g l c k (suc n) s e =
    last_begin-is g l c (k + 1) n (begin_dart g l c k) (omega arith)
    ∙ ap (λ (m : ℕ). 2 * (first_border_edge g l c + m)) (let h : k + 1 + n ≡ k + suc n = omega arith in h)

-- the twin of the dart that begins at a place
twin_begin : (g : Clustered) (l : Layout) (c k d : ℕ) → d ≡ begin_dart g l c k → twin d ≡ finish_dart g l c k
twin_begin g l c k d e = ap twin e ∙ twin_even (begin_dart g l c k) (omega arith)

-- the clusters but the root
pub inner_cluster : (g : Clustered) (c : ℕ) → Has c (inner_clusters g) → (0 < c) × (c < clusters g)
inner_cluster g c h = let w = range-Has c 1 (length g.parents) h in (omega (arith, w.0), omega (arith, w.1))

-- the border graph of an arranged layout
module _ (g : Clustered) (l : Layout) (is : IsClustered g) (ar : IsArranged g l) where
  -- the lists of a border from place k on are those of its border vertices
  lists_from : (c : ℕ) → 0 < c → c < clusters g → (n k back : ℕ) → k + n ≡ length (cluster_list l c)
      → back ≡ finish_dart g l c (place_before (length (cluster_list l c)) k)
      → border_lists back (map (border_place g l c) (range_with_len k n)) ≡ map (list_at g l c) (range_with_len k n)
  lists_from c above lt zero k back whole ends = refl
  lists_from c above lt (suc n) k back whole ends =
      let e : ℕ = slice_index (cluster_list l c) k in
      let b : Bool = contains g c (source g e) in
      let x : ℕ = dart_before g c e in
      let y : ℕ = dart_behind g c e in
      let begins : ℕ = begin_dart g l c k in
      let later : k ≡ place_before (length (cluster_list l c)) (k + 1) =
      (let h : k ≡ k + 1 - 1 = omega arith in h)
      ∙ sym (before_later (length (cluster_list l c)) (k + 1) (λ z. omega arith)) in
      ap₂ (λ (xs : List ℕ) (rows : List (List ℕ)). xs ∷ rows)
      (four_cond b begins x y back
      ∙ ap (λ (z : ℕ). cond b (begins ∷ x ∷ z ∷ y ∷ []) (begins ∷ y ∷ z ∷ x ∷ [])) ends
      ∙ sym (list_at-four g l is ar c k above lt (omega arith)))
      (lists_from c above lt n (k + 1) (twin begins) (omega arith)
      (twin_begin g l c k begins refl ∙ ap (finish_dart g l c) later))

  -- and so are all lists of a border
  lists_of_border : (c : ℕ) → 0 < c → c < clusters g → (n : ℕ) → n ≡ length (cluster_list l c)
      → closed_border (map (border_place g l c) (range_with_len 0 n)) ≡ map (list_at g l c) (range_with_len 0 n)
  lists_of_border c above lt zero whole = refl
  lists_of_border c above lt (suc n) whole =
      let last : ℕ = last_begin (begin_dart g l c 0) (map (border_place g l c) (range_with_len 1 n)) in
      let at : last + 2 ≡ 2 * (first_border_edge g l c + (1 + n)) =
      last_begin-is g l c 1 n (begin_dart g l c 0) (omega arith) in
      let first : n ≡ place_before (length (cluster_list l c)) 0 =
      (let h : n ≡ length (cluster_list l c) - 1 = omega (arith, whole) in h)
      ∙ sym (before_first (length (cluster_list l c)) 0 refl) in
      lists_from c above lt (suc n) 0 (twin last) (omega (arith, whole))
      (twin_begin g l c n last (omega (arith, at)) ∙ ap (finish_dart g l c) first)

  -- the list at each place is that of the border vertex there
  lists_named : (c : ℕ) → 0 < c → c < clusters g → (n k : ℕ) → k + n ≡ length (cluster_list l c)
      → map (list_at g l c) (range_with_len k n)
      ≡ map (list_of (borders g l)) (map (border_at g l c) (range_with_len k n))
  lists_named c above lt zero k whole = refl
  lists_named c above lt (suc n) k whole =
      let e : ℕ = slice_index (cluster_list l c) k in
      let item = item_at g l ar c k above lt (omega arith) in
      let cross = crossing_of g is (slice_index (cluster_list l c) k) c item.edge lt item.left in
      ap₂ (λ (xs : List ℕ) (rows : List (List ℕ)). xs ∷ rows)
      (sym (list_of_border g l ar e (crossing_place g e c) item.edge cross.within))
      (lists_named c above lt n (k + 1) (omega arith))

  -- the lists of closed borders are those of their border vertices
  closed_named : (cs : List ℕ) → ((c : ℕ) → Has c cs → (0 < c) × (c < clusters g))
      → closed_borders (border_of g l) cs ≡ map (list_of (borders g l)) (vertices_of g l cs)
  closed_named [] all = refl
  closed_named (c ∷ cs) all =
      let w = all c (inl refl) in
      ap₂ (λ (rows : List (List ℕ)) (others : List (List ℕ)). rows ++ others)
      (lists_of_border c w.0 w.1 (length (cluster_list l c)) refl
      ∙ lists_named c w.0 w.1 (length (cluster_list l c)) 0 (omega arith))
      (closed_named cs (λ b h. all b (inr h)))
      ∙ sym (map-append (list_of (borders g l)) (vertices_at g l c) (vertices_of g l cs))

  -- a border vertex of a cluster stands at a place of its list
  vertex_place : (c v : ℕ) → Has v (vertices_at g l c)
      → (k : ℕ) × (k < length (cluster_list l c)) × (border_at g l c k ≡ v)
  vertex_place c v h =
      let m = map_on-Has (border_at g l c) v (range_with_len 0 (length (cluster_list l c))) h in
      let w = range-Has m.0 0 (length (cluster_list l c)) m.1 in
      (m.0, omega (arith, w.1), m.2)

  -- equal border vertices are one crossing
  border_at-apart : (c b k j : ℕ) → 0 < c → c < clusters g → 0 < b → b < clusters g → k < length (cluster_list l c)
      → j < length (cluster_list l b) → border_at g l c k ≡ border_at g l b j
      → (c ≡ b) × (slice_index (cluster_list l c) k ≡ slice_index (cluster_list l b) j)
  border_at-apart c b k j above lt above_b lt_b within within_b same =
      let item = item_at g l ar c k above lt within in
      let item_b = item_at g l ar b j above_b lt_b within_b in
      let cross = crossing_of g is (slice_index (cluster_list l c) k) c item.edge lt item.left in
      let cross_b = crossing_of g is (slice_index (cluster_list l b) j) b item_b.edge lt_b item_b.left in
      let e : ℕ = slice_index (cluster_list l c) k in
      let d : ℕ = slice_index (cluster_list l b) j in
      let both = sum_below-apart (crossed g) e (crossing_place g e c) d (crossing_place g d b) cross.within
      cross_b.within (omega (arith, same)) in
      (sym cross.is ∙ ap₂ (λ (x : ℕ) (y : ℕ). slice_index (crossings g x) y) both.0 both.1 ∙ cross_b.is, both.0)

  -- no border vertex of a cluster stands twice
  vertices_at-Distinct : (c : ℕ) → 0 < c → c < clusters g → Distinct (vertices_at g l c)
  vertices_at-Distinct c above lt =
      let n : ℕ = length (cluster_list l c) in
      let within : (k : ℕ) → Has k (range_with_len 0 n) → k < n =
      λ k h. omega (arith, (range-Has k 0 n h).1) in
      Distinct-map_on (border_at g l c) (range_with_len 0 n)
      (λ k j hk hj same. sym (item_at g l ar c k above lt (within k hk)).place_is
      ∙ ap (λ (x : ℕ). position_or_len (λ (y : ℕ). y == x) (cluster_list l c))
      (border_at-apart c c k j above lt above lt (within k hk) (within j hj) same).1
      ∙ (item_at g l ar c j above lt (within j hj)).place_is)
      (Distinct-range 0 n)

  -- a border vertex of some clusters is one of one of them
  vertices_of-Has : (cs : List ℕ) (v : ℕ) → Has v (vertices_of g l cs)
      → (c : ℕ) × Has c cs × Has v (vertices_at g l c)
  vertices_of-Has [] v h = absurd h
  vertices_of-Has (c ∷ cs) v h = ⊎_elim
      (λ k. (c, inl refl, k))
      (λ k. let r = vertices_of-Has cs v k in (r.0, inr r.1, r.2))
      (Has-append_cases v (vertices_at g l c) (vertices_of g l cs) h)

  -- and the other way round
  Has-vertices_of : (cs : List ℕ) (c v : ℕ) → Has c cs → Has v (vertices_at g l c) → Has v (vertices_of g l cs)
  Has-vertices_of [] c v h m = absurd h
  Has-vertices_of (b ∷ cs) c v h m = ⊎_elim
      (λ e. Has-append_left v (vertices_at g l b) (vertices_of g l cs)
      (subst (λ (x : ℕ). Has v (vertices_at g l x)) (sym e) m))
      (λ k. Has-append_right v (vertices_at g l b) (vertices_of g l cs) (Has-vertices_of cs c v k m))
      h

  -- a border vertex of two clusters: they are one
  vertex_cluster : (c b v : ℕ) → 0 < c → c < clusters g → 0 < b → b < clusters g → Has v (vertices_at g l c)
      → Has v (vertices_at g l b) → c ≡ b
  vertex_cluster c b v above lt above_b lt_b h m =
      let one = vertex_place c v h in
      let two = vertex_place b v m in
      (border_at-apart c b one.0 two.0 above lt above_b lt_b one.1 two.1 (one.2 ∙ sym two.2)).0

  -- no border vertex of some clusters stands twice
  vertices_of-Distinct : (cs : List ℕ) → Distinct cs → ((c : ℕ) → Has c cs → (0 < c) × (c < clusters g))
      → Distinct (vertices_of g l cs)
  vertices_of-Distinct [] once all = tt
  vertices_of-Distinct (c ∷ cs) once all =
      let w = all c (inl refl) in
      Distinct-append (vertices_at g l c) (vertices_of g l cs) (vertices_at-Distinct c w.0 w.1)
      (vertices_of-Distinct cs once.1 (λ b m. all b (inr m)))
      (λ v h. Lacks-from v (vertices_of g l cs) (λ k.
      let r = vertices_of-Has cs v k in
      let u = all r.0 (inr r.1) in
      has_lacks c cs
      (subst (λ (x : ℕ). Has x cs) (sym (vertex_cluster c r.0 v w.0 w.1 u.0 u.1 h r.2)) r.1) once.0))

  -- border vertices stand behind the nodes
  vertex_bounds : (v : ℕ) → Has v (vertices_of g l (inner_clusters g))
      → (nodes g ≤ v) × (v < first_border g (Cl.edges g))
  vertex_bounds v h =
      let r = vertices_of-Has (inner_clusters g) v h in
      let u = inner_cluster g r.0 r.1 in
      let one = vertex_place r.0 v r.2 in
      let item = item_at g l ar r.0 one.0 u.0 u.1 one.1 in
      let e : ℕ = slice_index (cluster_list l r.0) one.0 in
      let cross = crossing_of g is (slice_index (cluster_list l r.0) one.0) r.0 item.edge u.1 item.left in
      let lt = border_vertex-lt g e (crossing_place g e r.0) item.edge cross.within in
      (omega (arith, one.2), omega (arith, one.2, lt))

  -- each vertex behind the nodes is a border vertex
  is_border_vertex : (v : ℕ) → nodes g ≤ v → v < first_border g (Cl.edges g)
      → Has v (vertices_of g l (inner_clusters g))
  is_border_vertex v le lt =
      let p = located (crossed g) (Cl.edges g) (v - nodes g) (omega arith) in
      let c : ℕ = slice_index (crossings g p.piece) p.place in
      let cross = crossing_at g is p.piece p.place p.is_piece p.is_place in
      let item = item_of g l ar (slice_index (crossings g p.piece) p.place) p.piece cross.above cross.cluster p.is_piece
      cross.left in
      let k : ℕ = position_or_len (λ (x : ℕ). x == p.piece) (cluster_list l c) in
      let n : ℕ = length (cluster_list l c) in
      let place : first_border g p.piece + p.place ≡ v =
      (let at : v - nodes g ≡ sum_below (crossed g) p.piece + p.place = p.is in omega (arith, at)) in
      let same : border_at g l c k ≡ v =
      ap (λ (e : ℕ). border_vertex g e c) item.is ∙ ap (λ (i : ℕ). first_border g p.piece + i) cross.place_is
      ∙ place in
      let at_place : Has k (range_with_len 0 n) =
      Has-range k 0 n (omega arith) (omega (arith, item.within)) in
      Has-vertices_of (inner_clusters g) c v
      (Has-range c 1 (length g.parents) (omega (arith, cross.above)) (omega (arith, cross.cluster)))
      (subst (λ (x : ℕ). Has x (vertices_at g l c)) same
      (Has-map_on (border_at g l c) k (range_with_len 0 n) at_place))

  -- the lists of the nodes
  node_lists-are : map (list_of (borders g l)) (range_with_len 0 (nodes g)) ≡ map (map (end_dart g)) l.nodes
  node_lists-are =
      let long : length l.nodes ≡ nodes g = length-node_lists g l ar in
      ap (λ (n : ℕ). map (list_of (borders g l)) (range_with_len 0 n)) (sym long)
      ∙ map_places (list_of (borders g l)) (map (end_dart g)) [] 0 l.nodes
      (λ i lt. ap (list_of (borders g l)) (let h : 0 + i ≡ i = omega arith in h)
      ∙ list_of_node g l ar i (omega (arith, long)))

  -- the border graph is the map of its closed borders and its nodes
  pub IsMapOf-borders : IsMapOf (2 * Sys.edges (borders g l)) (next (borders g l))
      (closed_borders (border_of g l) (inner_clusters g) ++ map (map (end_dart g)) l.nodes)
  IsMapOf-borders =
      let rot : IsRotation (borders g l) = IsRotation-borders g l is ar in
      let us : List ℕ = vertices_of g l (inner_clusters g) in
      let ns : List ℕ = range_with_len 0 (nodes g) in
      let named : map (list_of (borders g l)) (us ++ ns)
      ≡ closed_borders (border_of g l) (inner_clusters g) ++ map (map (end_dart g)) l.nodes =
      map-append (list_of (borders g l)) us ns
      ∙ ap₂ (λ (rows : List (List ℕ)) (others : List (List ℕ)). rows ++ others)
      (sym (closed_named (inner_clusters g) (inner_cluster g))) node_lists-are in
      subst (λ (rows : List (List ℕ)). IsMapOf (2 * Sys.edges (borders g l)) (next (borders g l)) rows) named
      (IsMapOf-vertices (borders g l) rot (us ++ ns)
      (Distinct-append us ns
      (vertices_of-Distinct (inner_clusters g) (Distinct-range 1 (length g.parents)) (inner_cluster g))
      (Distinct-range 0 (nodes g))
      (λ v h. Lacks-from v ns
      (λ k. let b = vertex_bounds v h in let a = range-Has v 0 (nodes g) k in omega (arith, b.0, a.1))))
      (λ v h. ⊎_elim
      (λ k. (vertex_bounds v k).1)
      (λ k. let a = range-Has v 0 (nodes g) k in omega (arith, a.1))
      (Has-append_cases v us ns h))
      (λ d lt. let v : ℕ = vertex_of (borders g l) d in ⊎_elim
      (λ less. Has-append_right v us ns (Has-range v 0 (nodes g) (omega arith) (omega (arith, less))))
      (λ more. Has-append_left v us ns (is_border_vertex v (omega (arith, more)) (rot.placed d lt)))
      (cases_lt (vertex_of (borders g l) d) (nodes g))))
