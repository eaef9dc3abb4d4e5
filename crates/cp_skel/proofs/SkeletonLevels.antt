-- In the border graph of an arranged layout each dart lies in one cluster.
use Rattle.std.proofs.Common.{◌≡◌, ℕ, zero, suc, ◌+◌, ◌-◌, ◌*◌, ◌/◌, ◌%◌, ◌<◌, ◌≤◌, Bool, List, [], ◌∷◌, map, length, slice_index, sym, refl, ap, ◌∙◌, subst, ⊎_elim, arith}
use Rattle.std.specs.Prelude.{slice_index_or, ◌==◌}
use Rattle.std.specs.List.{flat_map, range_with_len}
use Rattle.std.proofs.lemmas.Bool.{cases_Bool, cases_eq, cond-false, cond-true, eq-eqb, eqb-true, ne_eqb}
use Rattle.std.proofs.lemmas.List.{get_or-append-add, get_or-map, get_or_append_left, length-map}
use Rattle.std.proofs.lemmas.List.FromFn.{get_or-map-range_with_len, length-map-range_with_len}
use Rattle.cp_lists.specs.CyclicLists.{Has}
use Rattle.cp_lists.proofs.DistinctLists.{Exactly-Has}
use Rattle.cp_lists.proofs.MappedLists.{map_on-Has}
use Rattle.cp_cgraph.specs.Clustered.{Clustered, IsClustered, clusters, edges, home, node_of, nodes, parent, source, target}
use Rattle.cp_cgraph.specs.Crossings.{contains, crossings}
use Rattle.cp_cgraph.specs.declared.layout.Layout.{Layout}
use Rattle.cp_border.specs.Borders.{sum_below, cluster_list, crossed, end_dart, first_border_edge, first_segment, node_list, segments}
use Rattle.cp_border.specs.Good.{IsArranged}
use Rattle.cp_border.proofs.Darts.{begin_dart, border_length, toward_source, toward_target}
use Rattle.cp_border.proofs.Numbering.{sum_below-within, piece_at, pieces_length}
use Rattle.cp_border.proofs.Rotation.{crossing_of, end_source, end_target, item_at, length-node_lists}
use Rattle.cp_faces.specs.Twins.{twin}
use Rattle.cp_faces.proofs.Twins.{twin_even, twin_odd}
use Rattle.cp_skel.specs.BorderPlaces.{border_of, border_place}
use Rattle.cp_skel.specs.OpenedBorders.{AreInOneCluster, AreLevelled, AtPlaces, IsAtBorder}
use Rattle.cp_skel.specs.SegmentLevels.{ahead, behind, border_levels, level, levels, segment_levels}
use Rattle.cp_skel.specs.SkeletonLists.{crossing_place, dart_before, dart_behind, inner_clusters}
use Rattle.cp_skel.proofs.ClosedBorders.{inner_cluster}
use Rattle.cp_skel.proofs.Segments.{edge_linked, linked_at, linked_end}

-- one more for each of the first n pieces
pub sum_below-more : (q : ℕ → ℕ) (n : ℕ) → sum_below (λ e. q e + 1) n ≡ n + sum_below q n
sum_below-more q zero = refl
sum_below-more q (suc n) = omega (arith, sum_below-more q n)

-- an edge has one segment more than it crosses borders
length-segment_levels : (g : Clustered) (k : ℕ) → length (segment_levels g (0 + k)) ≡ crossed g k + 1
length-segment_levels g k =
    ap (λ (m : ℕ). length (segment_levels g m)) (let h : 0 + k ≡ k = omega arith in h)
    ∙ (let h : length (map (behind g k) (crossings g k)) ≡ crossed g k = length-map (crossings g k) (behind g k) in
    omega (arith, h))

-- all segments
length-all_segments : (g : Clustered) → length (flat_map (segment_levels g) (range_with_len 0 (edges g))) ≡ segments g
length-all_segments g =
    pieces_length (segment_levels g) (λ e. crossed g e + 1) 0 (edges g) (λ k lt. length-segment_levels g k)
    ∙ sum_below-more (crossed g) (edges g)

-- the cluster of a segment
level_segment : (g : Clustered) (l : Layout) (e i d : ℕ) → e < edges g → i ≤ crossed g e
    → d / 2 ≡ first_segment g e + i → level g l d ≡ slice_index_or (segment_levels g e) i 0
level_segment g l e i d lt within at =
    let same : d / 2 ≡ sum_below (λ x. crossed g x + 1) e + i = omega (arith, at, sum_below-more (crossed g) e) in
    let less : sum_below (λ x. crossed g x + 1) e + i < sum_below (λ x. crossed g x + 1) (edges g) =
    sum_below-within (λ x. crossed g x + 1) e i (edges g) lt (omega arith) in
    ap (λ (m : ℕ). slice_index_or (levels g l) m 0) same
    ∙ get_or_append_left (flat_map (segment_levels g) (range_with_len 0 (edges g)))
    (flat_map (border_levels l) (range_with_len 1 (length g.parents))) 0 (sum_below (λ x. crossed g x + 1) e + i)
    (omega (arith, length-all_segments g, less, sum_below-more (crossed g) (edges g)))
    ∙ piece_at (segment_levels g) (λ x. crossed g x + 1) 0 (edges g) e i 0 (λ k less'. length-segment_levels g k) lt
    (omega arith)
    ∙ ap (λ (m : ℕ). slice_index_or (segment_levels g m) i 0) (let h : 0 + e ≡ e = omega arith in h)

-- the cluster of a border edge
level_border : (g : Clustered) (l : Layout) (c k d : ℕ) → 0 < c → c < clusters g → k < length (cluster_list l c)
    → d / 2 ≡ first_border_edge g l c + k → level g l d ≡ c
level_border g l c k d above lt within at =
    let back : c - 1 + 1 ≡ c = omega arith in
    let long : k < border_length l (c - 1) = subst (λ (m : ℕ). k < length (cluster_list l m)) (sym back) within in
    let segment : List ℕ = flat_map (segment_levels g) (range_with_len 0 (edges g)) in
    let place : d / 2 ≡ length segment + (sum_below (border_length l) (c - 1) + k) =
    omega (arith, at, length-all_segments g) in
    ap (λ (m : ℕ). slice_index_or (levels g l) m 0) place
    ∙ get_or-append-add segment (flat_map (border_levels l) (range_with_len 1 (length g.parents)))
    (sum_below (border_length l) (c - 1) + k) 0
    ∙ piece_at (border_levels l) (border_length l) 1 (length g.parents) (c - 1) k 0
    (λ j less. ap (λ (m : ℕ). length (border_levels l m)) (let h : 1 + j ≡ j + 1 = omega arith in h)
    ∙ length-map-range_with_len (λ i. j + 1) 0 (length (cluster_list l (j + 1)))) (omega arith) long
    ∙ ap (λ (m : ℕ). slice_index_or (border_levels l m) k 0) (let h : 1 + (c - 1) ≡ c = omega arith in h)
    ∙ get_or-map-range_with_len (λ i. c) 0 (length (cluster_list l c)) k k 0 within (omega arith)

-- the darts of the border graph of an arranged layout
module _ (g : Clustered) (l : Layout) (is : IsClustered g) (ar : IsArranged g l) where
  -- the segment before a crossing
  level_ahead : (e i : ℕ) → e < edges g → i < crossed g e
      → level g l (toward_source g e i) ≡ ahead g e (slice_index (crossings g e) i)
  level_ahead e i lt within =
      level_segment g l e i (toward_source g e i) lt (omega arith) (omega arith)
      ∙ linked_at g e (home g (source g e)) (home g (target g e)) (crossings g e) i (edge_linked g is e lt) within

  -- and the one behind it
  level_behind : (e i : ℕ) → e < edges g → i < crossed g e
      → level g l (toward_target g e i) ≡ behind g e (slice_index (crossings g e) i)
  level_behind e i lt within =
      level_segment g l e (suc i) (toward_target g e i) lt (omega arith) (omega arith)
      ∙ get_or-map (behind g e) (crossings g e) i 0 0 within

  -- the segments at nodes
  level_end : (x : ℕ) → x < 2 * edges g → level g l (end_dart g x) ≡ home g (node_of g x)
  level_end x lt =
      let e : ℕ = x / 2 in
      ⊎_elim
      (λ even. ap (level g l) (end_source g x even)
      ∙ level_segment g l e 0 (2 * first_segment g e) (omega arith) (omega arith) (omega arith)
      ∙ ap (home g) (sym (cond-true (x % 2 == 0) (source g e) (target g e) (eq-eqb (x % 2) 0 even))))
      (λ odd. ap (level g l) (end_target g x odd)
      ∙ level_segment g l e (crossed g e) (2 * (first_segment g e + crossed g e) + 1) (omega arith) (omega arith)
      (omega arith)
      ∙ linked_end g e (home g (source g e)) (home g (target g e)) (crossings g e) (edge_linked g is e (omega arith))
      ∙ ap (home g) (sym (cond-false (x % 2 == 0) (source g e) (target g e) (ne_eqb (x % 2) 0 odd))))
      (cases_eq (x % 2) 0)

  -- the darts at a node lie in its home
  level_node : (v d : ℕ) → v < nodes g → Has d (map (end_dart g) (node_list l v)) → level g l d ≡ home g v
  level_node v d lt h =
      let m = map_on-Has (end_dart g) d (node_list l v) h in
      let w = (Exactly-Has (2 * edges g) (λ x. node_of g x == v) (node_list l v) ((ar.nodes_right v).present lt).1
      m.0).0 m.1 in
      ap (level g l) (sym m.2) ∙ level_end m.0 w.0 ∙ ap (home g) (eqb-true (node_of g m.0) v w.1)

  -- so the lists of the nodes lie in one cluster each
  nodes_level : (xs : List (List ℕ)) (k : ℕ)
      → ((i : ℕ) → i < length xs → (k + i < nodes g) × (slice_index_or xs i [] ≡ node_list l (k + i)))
      → AreInOneCluster (level g l) (map (map (end_dart g)) xs)
  nodes_level [] k told = tt
  nodes_level (x ∷ xs) k told =
      let first : k + 0 ≡ k = omega arith in
      let t = told 0 (omega arith) in
      let at : (d : ℕ) → Has d (map (end_dart g) x) → level g l d ≡ home g (k + 0) =
      λ d h. level_node (k + 0) d t.0 (subst (λ (zs : List ℕ). Has d (map (end_dart g) zs)) t.1 h) in (
        λ c d hc hd. at c hc ∙ sym (at d hd),
        nodes_level xs (k + 1) (λ i lt.
            let next : k + 1 + i ≡ k + suc i = omega arith in
            let u = told (suc i) (omega arith) in
            (subst (λ (m : ℕ). m < nodes g) (sym next) u.0, u.1 ∙ ap (node_list l) (sym next))),
      )

  -- the darts at a border
  places_level : (c : ℕ) → 0 < c → c < clusters g → (n k : ℕ) → k + n ≡ length (cluster_list l c)
      → AtPlaces (IsAtBorder (level g l) c (parent g c)) (map (border_place g l c) (range_with_len k n))
  places_level c above lt zero k whole = tt
  places_level c above lt (suc n) k whole =
      let item = item_at g l ar c k above lt (omega arith) in
      let e : ℕ = slice_index (cluster_list l c) k in
      let cross = crossing_of g is (slice_index (cluster_list l c) k) c item.edge lt item.left in
      let i : ℕ = crossing_place g e c in
      let b : Bool = contains g c (source g e) in
      let x : ℕ = dart_before g c e in
      let y : ℕ = dart_behind g c e in
      let one : level g l x ≡ ahead g e c = level_ahead e i item.edge cross.within ∙ ap (ahead g e) cross.is in
      let two : level g l y ≡ behind g e c = level_behind e i item.edge cross.within ∙ ap (behind g e) cross.is in (
        record {
          begins = level_border g l c k (begin_dart g l c k) above lt (omega arith) (omega arith);
          inside = ⊎_elim
              (λ t. ap (level g l) (cond-true b x y t) ∙ one ∙ cond-true b c (parent g c) t)
              (λ t. ap (level g l) (cond-false b x y t) ∙ two ∙ cond-false b (parent g c) c t)
              (cases_Bool b);
          outside = ⊎_elim
              (λ t. ap (level g l) (cond-true b y x t) ∙ two ∙ cond-true b (parent g c) c t)
              (λ t. ap (level g l) (cond-false b y x t) ∙ one ∙ cond-false b c (parent g c) t)
              (cases_Bool b);
        },
        places_level c above lt n (k + 1) (omega arith),
      )

  -- a dart lies where its twin lies
  level_twin : (d : ℕ) → level g l d ≡ level g l (twin d)
  level_twin d = ap (λ (m : ℕ). slice_index_or (levels g l) m 0) (⊎_elim
      (λ even. let t = twin_even d even in
      (let h : d / 2 ≡ (d + 1) / 2 = omega arith in h) ∙ ap (λ (m : ℕ). m / 2) (sym t))
      (λ odd. let t = twin_odd d odd in
      (let h : d / 2 ≡ (d - 1) / 2 = omega arith in h) ∙ ap (λ (m : ℕ). m / 2) (sym t))
      (cases_eq (d % 2) 0))

  -- each dart lies in one cluster, at all borders
  pub AreLevelled-borders : AreLevelled g.parents (border_of g l) (level g l) (inner_clusters g)
  AreLevelled-borders = record {
    lower = λ c h. let w = inner_cluster g c h in is.inside_a_lower c w.0 w.1;
    twins = level_twin;
    at_border = λ c h. let w = inner_cluster g c h in
        places_level c w.0 w.1 (length (cluster_list l c)) 0 (omega arith);
  }

  -- and at all nodes
  pub AreInOneCluster-nodes : AreInOneCluster (level g l) (map (map (end_dart g)) l.nodes)
  AreInOneCluster-nodes =
      let long : length l.nodes ≡ nodes g = length-node_lists g l ar in
      nodes_level l.nodes 0 (λ i lt.
      let at : i ≡ 0 + i = omega arith in (omega (arith, long), ap (node_list l) at))
