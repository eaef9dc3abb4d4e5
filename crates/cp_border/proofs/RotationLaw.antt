-- The border graph of an arranged layout is a rotation system, with as many border edges as border
-- vertices.
use Rattle.std.proofs.Common.{◌≡◌, ℕ, suc, ◌+◌, ◌-◌, ◌*◌, ◌/◌, ◌<◌, ◌≤◌, ◌⊎◌, true, length, map, slice_index, sym, refl, ap, ◌∙◌, subst, inl, inr, ⊎_elim, arith}
use Rattle.std.specs.Prelude.{◌==◌}
use Rattle.std.specs.List.{position_or_len}
use Rattle.std.proofs.lemmas.Bool.{cases_lt, eq-eqb, eqb-true, cond_both}
use Rattle.cp_lists.specs.Count.{count}
use Rattle.cp_lists.proofs.ExactLists.{Exactly-length}
use Rattle.cp_cgraph.specs.Clustered.{Clustered, IsClustered, nodes, edges, clusters, source, node_of}
use Rattle.cp_cgraph.specs.Crossings.{contains, leaves, crossings}
use Rattle.cp_cgraph.specs.declared.layout.Layout.{Layout}
use Rattle.cp_cgraph.proofs.Crossing.{crossings-Exactly}
use Rattle.cp_rot.specs.Systems.{IsRotation, Arranges, list_of, place_after}
use Rattle.cp_border.specs.Borders.{borders, sum_below, node_list, cluster_list, crossed, first_border, border_vertex, first_segment, segments, end_dart, first_border_edge, border_list, place_before}
use Rattle.cp_border.specs.Good.{IsArranged}
use Rattle.cp_border.proofs.PlainLaw.{node_of-is_node}
use Rattle.cp_border.proofs.Numbering.{Place, located, sum_below-agree, sum_below-within, sum_below-apart, counted_twice, count_from_one}
use Rattle.cp_border.proofs.Darts.{DartOf, leaves_source, reaches_target, looks_to_source, looks_to_target, begins_border, finishes_border, dart_is, toward_source, toward_target, begin_dart, finish_dart, border_length, length-borders_at, first_segment-le, stands_toward_source, stands_toward_target, stands_begin, stands_finish}
use Rattle.cp_border.proofs.Cyclic.{place_after-lt, place_before-lt, place_before_after, place_after_before}
use Rattle.cp_border.proofs.Arrangements.{IsFour, IsFour-turned, Exactly-four, Exactly-map}
use Rattle.cp_border.proofs.Rotation.{IsCrossing, crossing_at, crossing_of, IsItem, item_at, item_of, length-border_lists, list_of_node, list_of_border, end_source, end_target, end_dart-lt, end_dart_stands, end_dart-apart}

-- where an edge stands in the list of the cluster whose border it crosses at place i
abbrev pub place_on_border : Clustered → Layout → ℕ → ℕ → ℕ
place_on_border g l e i = position_or_len (λ x. x == e) (cluster_list l (slice_index (crossings g e) i))

-- x is one of the four darts at the border vertex of edge e and its crossing at place i
abbrev pub IsAtBorder : Clustered → Layout → ℕ → ℕ → ℕ → Type 0
IsAtBorder g l e i x =
    (x ≡ begin_dart g l (slice_index (crossings g e) i) (place_on_border g l e i))
    ⊎ ((x ≡ toward_source g e i)
    ⊎ ((x ≡ finish_dart g l (slice_index (crossings g e) i) (place_before
    (length (cluster_list l (slice_index (crossings g e) i))) (place_on_border g l e i)))
    ⊎ (x ≡ toward_target g e i)))

-- dart x stands at vertex v, which is a node or a border vertex
pub data StandsAt (g : Clustered) (l : Layout) (x v : ℕ) : Type 0 where
  at_node : (d : ℕ) → d < 2 * edges g → end_dart g d ≡ x → node_of g d ≡ v → StandsAt g l x v
  at_border : (e i : ℕ) → e < edges g → i < crossed g e → first_border g e + i ≡ v → IsAtBorder g l e i x →
      StandsAt g l x v

-- each dart of the border graph stands where its kind says
pub stands_at : (g : Clustered) (l : Layout) → IsClustered g → IsArranged g l → (x : ℕ) → DartOf g l x →
    StandsAt g l x (slice_index (borders g l).at x)
stands_at g l is ar x (leaves_source e lt same) =
    let d : end_dart g (2 * e) ≡ x = end_source g (2 * e) (omega arith)
    ∙ ap (λ (m : ℕ). 2 * first_segment g m) (let h : 2 * e / 2 ≡ e = omega arith in h) ∙ sym same in
    at_node (2 * e) (omega arith) d (sym (end_dart_stands g l (2 * e) (omega arith)) ∙ ap (slice_index (borders g l).at)
    d)
stands_at g l is ar x (reaches_target e lt same) =
    let d : end_dart g (2 * e + 1) ≡ x = end_target g (2 * e + 1) (λ even. omega arith)
    ∙ ap (λ (m : ℕ). 2 * (first_segment g m + crossed g m) + 1) (let h : (2 * e + 1) / 2 ≡ e = omega arith in h)
    ∙ sym same in
    at_node (2 * e + 1) (omega arith) d (sym (end_dart_stands g l (2 * e + 1) (omega arith)) ∙ ap
    (slice_index (borders g l).at) d)
stands_at g l is ar x (looks_to_source e i lt within same) =
    at_border e i lt within (sym (ap (slice_index (borders g l).at) same ∙ stands_toward_source g l e i lt within))
    (inr (inl same))
stands_at g l is ar x (looks_to_target e i lt within same) =
    at_border e i lt within (sym (ap (slice_index (borders g l).at) same ∙ stands_toward_target g l e i lt within))
    (inr (inr (inr same)))
stands_at g l is ar x (begins_border c k above lt within same) =
    let item : IsItem g l c k (slice_index (cluster_list l c) k) = item_at g l ar c k above lt within in
    let cross = crossing_of g is (slice_index (cluster_list l c) k) c item.edge lt item.left in
    at_border (slice_index (cluster_list l c) k) (position_or_len (λ y. y == c)
    (crossings g (slice_index (cluster_list l c) k))) item.edge cross.within
    (sym (ap (slice_index (borders g l).at) same ∙ stands_begin g l c k above lt within))
    (inl (same ∙ sym (ap (λ (b : ℕ). begin_dart g l b
    (position_or_len (λ (y : ℕ). y == slice_index (cluster_list l c) k) (cluster_list l b))) cross.is
    ∙ ap (begin_dart g l c) item.place_is)))
stands_at g l is ar x (finishes_border c k above lt within same) =
    let item : IsItem g l c (place_after (length (cluster_list l c)) k)
    (slice_index (cluster_list l c) (place_after (length (cluster_list l c)) k)) =
    item_at g l ar c (place_after (length (cluster_list l c)) k) above lt
    (place_after-lt (length (cluster_list l c)) k within) in
    let cross = crossing_of g is (slice_index (cluster_list l c) (place_after (length (cluster_list l c)) k)) c
    item.edge lt item.left in
    at_border (slice_index (cluster_list l c) (place_after (length (cluster_list l c)) k))
    (position_or_len (λ y. y == c)
    (crossings g (slice_index (cluster_list l c) (place_after (length (cluster_list l c)) k)))) item.edge
    cross.within
    (sym (ap (slice_index (borders g l).at) same ∙ stands_finish g l c k above lt within))
    (inr (inr (inl (same ∙ sym
    (ap (λ (b : ℕ). finish_dart g l b (place_before (length (cluster_list l b))
    (position_or_len (λ (y : ℕ). y == slice_index (cluster_list l c) (place_after (length (cluster_list l c)) k))
    (cluster_list l b)))) cross.is
    ∙ ap (λ (m : ℕ). finish_dart g l c (place_before (length (cluster_list l c)) m)) item.place_is
    ∙ ap (finish_dart g l c) (place_before_after (length (cluster_list l c)) k within))))))

-- border vertices come behind the nodes
pub border_vertex-lt : (g : Clustered) (e i : ℕ) → e < edges g → i < crossed g e →
    first_border g e + i < first_border g (edges g)
border_vertex-lt g e i lt within = omega (arith, sum_below-within (crossed g) e i (edges g) lt within)

-- the list of a node is exact
node_arranged : (g : Clustered) (l : Layout) → IsClustered g → IsArranged g l → (v : ℕ) → v < nodes g →
    Arranges (borders g l).at v (map (end_dart g) (node_list l v))
node_arranged g l is ar v lt =
    Exactly-map (2 * edges g) (length (borders g l).at) (λ d. node_of g d == v)
    (λ d. slice_index (borders g l).at d == v) (end_dart g) (node_list l v) ((ar.nodes_right v).present lt).1
    (λ d within passes. (end_dart-lt g l d within, ap (λ (w : ℕ). w == v) (end_dart_stands g l d within) ∙ passes))
    (λ d b ltd ltb same. end_dart-apart g d b same)
    (λ x within passes. found x (eqb-true (slice_index (borders g l).at x) v passes)
    (stands_at g l is ar x (dart_is g l x within)))
  where
    -- each dart at a vertex of a node is the end of a dart of the node
    found : (x : ℕ) → slice_index (borders g l).at x ≡ v → StandsAt g l x (slice_index (borders g l).at x)
        → (d : ℕ) × (d < 2 * edges g) × ((node_of g d == v) ≡ true) × (end_dart g d ≡ x)
    found x stands (at_node d within same node) = (d, within, eq-eqb (node_of g d) v (node ∙ stands), same)
    found x stands (at_border e i lte within vertex four) = absurd (omega arith)

-- the four darts at a border vertex
pub begin_dart-lt : (g : Clustered) (l : Layout) (c k : ℕ) → 0 < c → c < clusters g → k < length (cluster_list l c) →
    (segments g ≤ first_border_edge g l c + k) × (first_border_edge g l c + k < segments g + sum_below (border_length l)
    (length g.parents))
begin_dart-lt g l c k above lt within =
    let same : border_length l (c - 1) ≡ length (cluster_list l c) =
    ap (λ (m : ℕ). length (cluster_list l m)) (let h : c - 1 + 1 ≡ c = omega arith in h) in
    let inside : sum_below (border_length l) (c - 1) + k < sum_below (border_length l) (length g.parents) =
    sum_below-within (border_length l) (c - 1) k (length g.parents) (omega arith) (omega arith) in
    (omega arith, omega arith)

-- where no other dart stands at a border vertex, its four darts are exactly those that stand there
border_four : (g : Clustered) (l : Layout) → IsClustered g → IsArranged g l → (e i c k : ℕ) → e < edges g →
    IsCrossing g e i c → IsItem g l c k e →
    ((x : ℕ) → x < length (borders g l).at → slice_index (borders g l).at x ≡ first_border g e + i
    → (x ≡ begin_dart g l c k)
    ⊎ ((x ≡ toward_source g e i) ⊎ ((x ≡ finish_dart g l c (place_before (length (cluster_list l c)) k))
    ⊎ (x ≡ toward_target g e i)))) →
    IsFour (length (borders g l).at) (λ d. slice_index (borders g l).at d == (first_border g e + i))
    (begin_dart g l c k) (toward_source g e i) (finish_dart g l c (place_before (length (cluster_list l c)) k))
    (toward_target g e i)
border_four g l is ar e i c k lt cross item others =
    let before_within_list : place_before (length (cluster_list l c)) k < length (cluster_list l c) =
    place_before-lt (length (cluster_list l c)) k item.within in
    let begin_range = begin_dart-lt g l c k cross.above cross.cluster item.within in
    let finish_range = begin_dart-lt g l c (place_before (length (cluster_list l c)) k) cross.above cross.cluster
    before_within_list in
    let source_range : first_segment g e + i < segments g = first_segment-le g e i lt (omega (arith, cross.within)) in
    let target_range : first_segment g e + (i + 1) < segments g =
    first_segment-le g e (i + 1) lt (omega (arith, cross.within)) in
    let size = length-borders_at g l in
    let vertex : border_vertex g e c ≡ first_border g e + i = ap (λ (m : ℕ). first_border g e + m) cross.place_is in
    let begins : slice_index (borders g l).at (begin_dart g l c k) ≡ first_border g e + i =
    stands_begin g l c k cross.above cross.cluster item.within ∙ ap (λ (m : ℕ). border_vertex g m c) item.is ∙ vertex in
    let finishes : slice_index (borders g l).at (finish_dart g l c (place_before (length (cluster_list l c)) k))
    ≡ first_border g e + i =
    stands_finish g l c (place_before (length (cluster_list l c)) k) cross.above cross.cluster before_within_list
    ∙ ap (λ (m : ℕ). border_vertex g (slice_index (cluster_list l c) m) c)
    (place_after_before (length (cluster_list l c)) k item.within)
    ∙ ap (λ (m : ℕ). border_vertex g m c) item.is ∙ vertex in
    record {
      first = (omega (arith, begin_range.0, begin_range.1), eq-eqb _ _ begins);
      second = (omega arith, eq-eqb _ _ (stands_toward_source g l e i lt cross.within));
      third = (omega (arith, finish_range.0, finish_range.1), eq-eqb _ _ finishes);
      fourth = (omega arith, eq-eqb _ _ (stands_toward_target g l e i lt cross.within));
      first_second = λ same. omega arith;
      first_third = λ same. omega arith;
      first_fourth = λ same. omega (arith, begin_range.0);
      second_third = λ same. omega (arith, finish_range.0);
      second_fourth = λ same. omega arith;
      third_fourth = λ same. omega arith;
      no_other = λ x within passes. others x within (eqb-true (slice_index (borders g l).at x) (first_border g e + i)
          passes);
    }

-- no other dart stands there
border_others : (g : Clustered) (l : Layout) → IsClustered g → IsArranged g l → (e i : ℕ) → e < edges g →
    i < crossed g e → (x : ℕ) → slice_index (borders g l).at x ≡ first_border g e + i →
    StandsAt g l x (slice_index (borders g l).at x) → IsAtBorder g l e i x
border_others g l is ar e i lt within x stands (at_node d ltd same node) = let h : node_of g d < nodes g =
    node_of-is_node g is d ltd in absurd (omega arith)
border_others g l is ar e i lt within x stands (at_border b j ltb within_b vertex four) =
    let same : (b ≡ e) × (j ≡ i) = sum_below-apart (crossed g) b j e i within_b within (omega arith) in
    subst (λ (m : ℕ). IsAtBorder g l m i x) same.0 (subst (λ (m : ℕ). IsAtBorder g l b m x) same.1 four)

-- so the list of a border vertex is exact
border_arranged : (g : Clustered) (l : Layout) → IsClustered g → IsArranged g l → (e i : ℕ) → e < edges g →
    i < crossed g e → Arranges (borders g l).at (first_border g e + i) (border_list g l e i)
border_arranged g l is ar e i lt within =
    let cross : IsCrossing g e i (slice_index (crossings g e) i) = crossing_at g is e i lt within in
    let item : IsItem g l (slice_index (crossings g e) i) (place_on_border g l e i) e =
    item_of g l ar (slice_index (crossings g e) i) e cross.above cross.cluster lt cross.left in
    let four = border_four g l is ar e i (slice_index (crossings g e) i) (place_on_border g l e i) lt cross item
    (λ x below stands. border_others g l is ar e i lt within x stands (stands_at g l is ar x (dart_is g l x below))) in
    cond_both (contains g (slice_index (crossings g e) i) (source g e)) _ _
    (Arranges (borders g l).at (first_border g e + i))
    (λ inside. Exactly-four (length (borders g l).at) (λ d. slice_index (borders g l).at d == (first_border g e + i)) _
    _ _ _ four)
    (λ outside. Exactly-four (length (borders g l).at) (λ d. slice_index (borders g l).at d == (first_border g e + i)) _
    _ _ _ (IsFour-turned (length (borders g l).at) (λ d. slice_index (borders g l).at d == (first_border g e + i)) _
    _ _ _ four))

-- the border graph of an arranged layout is a rotation system
pub IsRotation-borders : (g : Clustered) (l : Layout) → IsClustered g → IsArranged g l → IsRotation (borders g l)
IsRotation-borders g l is ar = record {
  paired = omega (arith, length-borders_at g l);
  placed = λ d lt. placed d (stands_at g l is ar d (dart_is g l d lt));
  listed = length-border_lists g l ar;
  arranged = λ v lt.
      ⊎_elim
      (λ node. subst (Arranges (borders g l).at v) (sym (list_of_node g l ar v node)) (node_arranged g l is ar v node))
      (λ border.
      let p : Place (crossed g) (edges g) (v - nodes g) = located (crossed g) (edges g) (v - nodes g) (omega arith) in
      let same : first_border g p.piece + p.place ≡ v = omega (arith, p.is) in
      subst (λ w. Arranges (borders g l).at w (list_of (borders g l) w)) same
      (subst (Arranges (borders g l).at (first_border g p.piece + p.place))
      (sym (list_of_border g l ar p.piece p.place p.is_piece p.is_place))
      (border_arranged g l is ar p.piece p.place p.is_piece p.is_place)))
      (cases_lt v (nodes g));
}
  where
    -- the ends of an edge stand at vertices of nodes
    placed : (d : ℕ) → StandsAt g l d (slice_index (borders g l).at d)
        → slice_index (borders g l).at d < first_border g (edges g)
    placed d (at_node b ltb same node) = let h : node_of g b < nodes g = node_of-is_node g is b ltb in omega arith
    placed d (at_border e i lt within vertex four) = omega (arith, border_vertex-lt g e i lt within)

-- as many border edges as border vertices: both count the pairs of an edge and a cluster that it leaves
pub border_edges-vertices : (g : Clustered) (l : Layout) → IsClustered g → IsArranged g l →
    sum_below (border_length l) (length g.parents) ≡ sum_below (crossed g) (edges g)
border_edges-vertices g l is ar =
    sum_below-agree (border_length l) (λ k. count (edges g) (leaves g (k + 1))) (length g.parents)
    (λ k lt. Exactly-length (edges g) (leaves g (k + 1)) (cluster_list l (k + 1))
    ((ar.clusters_right (k + 1)).present (omega arith) (omega arith)).1)
    ∙ counted_twice (λ k e. leaves g (k + 1) e) (length g.parents) (edges g)
    ∙ sum_below-agree (λ e. count (length g.parents) (λ k. leaves g (k + 1) e)) (crossed g) (edges g) (λ e lt.
    sym (count_from_one (length g.parents) (λ c. leaves g c e) refl)
    ∙ ap (λ (n : ℕ). count n (λ c. leaves g c e)) (let h : suc (length g.parents) ≡ clusters g = omega arith in h)
    ∙ sym (Exactly-length (clusters g) (λ c. leaves g c e) (crossings g e) (crossings-Exactly g is e lt)))

-- so the number of darts is known from the graph alone
pub length-borders_at-graph : (g : Clustered) (l : Layout) → IsClustered g → IsArranged g l →
    length (borders g l).at ≡ 2 * (segments g + sum_below (crossed g) (edges g))
length-borders_at-graph g l is ar = omega (arith, length-borders_at g l, border_edges-vertices g l is ar)
