-- The darts of the border graph: each is of one of six kinds, and where each kind stands.
use Rattle.std.proofs.Common.{◌≡◌, ℕ, zero, suc, ◌+◌, ◌-◌, ◌*◌, ◌/◌, ◌%◌, ◌<◌, ◌≤◌, List, [], ◌∷◌, ◌++◌, length, slice_index, refl, ap, ap₂, ◌∙◌, ⊎_elim, arith, length-append}
use Rattle.std.specs.List.{flat_map, range_with_len}
use Rattle.std.proofs.lemmas.Bool.{cases_lt, cases_eq}
use Rattle.std.proofs.lemmas.List.{get_or_append_left, get_or-append-add, get_or_at}
use Rattle.cp_cgraph.specs.Clustered.{Clustered, edges, clusters, source, target}
use Rattle.cp_cgraph.specs.declared.layout.Layout.{Layout}
use Rattle.cp_rot.specs.Systems.{place_after}
use Rattle.cp_border.specs.Borders.{borders, sum_below, cluster_list, crossed, first_border, border_vertex, first_segment, segments, first_border_edge, segment_ends, border_ends}
use Rattle.cp_border.proofs.Numbering.{Place, located, sum_below-within, pieces_length, piece_at, pairs, length-pairs, pairs_first, pairs_second}

-- the dart of segment i of edge e that stands at its end, which is the border vertex of crossing i
abbrev pub toward_source : Clustered → ℕ → ℕ → ℕ
toward_source g e i = 2 * (first_segment g e + i) + 1

-- the dart of the next segment of edge e that stands at its begin, which is the same border vertex
abbrev pub toward_target : Clustered → ℕ → ℕ → ℕ
toward_target g e i = 2 * (first_segment g e + i + 1)

-- the first and the last dart of the border edge at place k of the list of cluster c
abbrev pub begin_dart : Clustered → Layout → ℕ → ℕ → ℕ
begin_dart g l c k = 2 * (first_border_edge g l c + k)

-- the second dart of a border edge, at the item behind
abbrev pub finish_dart : Clustered → Layout → ℕ → ℕ → ℕ
finish_dart g l c k = 2 * (first_border_edge g l c + k) + 1

-- the darts of the segments of edge e
abbrev pub segment_size : Clustered → ℕ → ℕ
segment_size g e = 2 * (crossed g e + 1)

-- the edges that cross the border of cluster k + 1, and the darts of its border edges
abbrev pub border_length : Layout → ℕ → ℕ
border_length l k = length (cluster_list l (k + 1))

-- how many darts the border of a cluster has
abbrev pub border_size : Layout → ℕ → ℕ
border_size l k = 2 * length (cluster_list l (k + 1))

-- the vertices of the darts of all segments
abbrev pub segment_at : Clustered → List ℕ
segment_at g = flat_map (segment_ends g) (range_with_len 0 (edges g))

-- the vertices of the darts of all borders
abbrev pub border_at : Clustered → Layout → List ℕ
border_at g l = flat_map (border_ends g l) (range_with_len 1 (length g.parents))

-- how many darts the segments of an edge have
length-segment_ends : (g : Clustered) (e : ℕ) → length (segment_ends g e) ≡ segment_size g e
length-segment_ends g e =
    let inner : length (pairs (λ b. b) (λ b. b) (first_border g e) (crossed g e)) ≡ 2 * crossed g e =
    length-pairs (λ b. b) (λ b. b) (first_border g e) (crossed g e) in
    let whole : length (pairs (λ b. b) (λ b. b) (first_border g e) (crossed g e) ++ target g e ∷ []) ≡ length
    (pairs (λ b. b) (λ b. b) (first_border g e) (crossed g e)) + 1 =
    length-append (pairs (λ b. b) (λ b. b) (first_border g e) (crossed g e)) (target g e ∷ []) in
    ap suc whole ∙ (let h : suc (length (pairs (λ b. b) (λ b. b) (first_border g e) (crossed g e)) + 1) ≡ 2
    * (crossed g e + 1) = omega arith in h)

-- how many darts the border of a cluster has
length-border_ends : (g : Clustered) (l : Layout) (c : ℕ) → length (border_ends g l c) ≡ 2 * length (cluster_list l c)
length-border_ends g l c = length-pairs (λ i. border_vertex g (slice_index (cluster_list l c) i) c)
    (λ i. border_vertex g (slice_index (cluster_list l c) (place_after (length (cluster_list l c)) i)) c) 0
    (length (cluster_list l c))

-- the sum of doubled values is the doubled sum
sum_below-doubled : (q : ℕ → ℕ) (n : ℕ) → sum_below (λ e. 2 * q e) n ≡ 2 * sum_below q n
sum_below-doubled q zero = refl
sum_below-doubled q (suc n) = omega (arith, sum_below-doubled q n)

-- the sum of twice one more than each value
sum_below-pairs : (q : ℕ → ℕ) (n : ℕ) → sum_below (λ e. 2 * (q e + 1)) n ≡ 2 * (n + sum_below q n)
sum_below-pairs q zero = refl
sum_below-pairs q (suc n) = omega (arith, sum_below-pairs q n)

-- how many darts the segments of the edges before one have
pub segment_sizes : (g : Clustered) (e : ℕ) → sum_below (segment_size g) e ≡ 2 * first_segment g e
segment_sizes g e = sum_below-pairs (crossed g) e

-- how many darts the borders before one have
pub border_sizes : (l : Layout) (k : ℕ) → sum_below (border_size l) k ≡ 2 * sum_below (border_length l) k
border_sizes l k = sum_below-doubled (border_length l) k

-- each edge adds the darts of its segments
segment_piece : (g : Clustered) (k : ℕ) → length (segment_ends g (0 + k)) ≡ segment_size g k
segment_piece g k = ap (λ (m : ℕ). length (segment_ends g m)) (let e : 0 + k ≡ k = omega arith in e)
    ∙ length-segment_ends g k

-- each cluster adds the darts of its border
border_piece : (g : Clustered) (l : Layout) (k : ℕ) → length (border_ends g l (1 + k)) ≡ border_size l k
border_piece g l k = ap (λ (m : ℕ). length (border_ends g l m)) (let e : 1 + k ≡ k + 1 = omega arith in e)
    ∙ length-border_ends g l (k + 1)

-- how many darts all segments have
pub length-segment_at : (g : Clustered) → length (segment_at g) ≡ 2 * segments g
length-segment_at g = pieces_length (segment_ends g) (segment_size g) 0 (edges g) (λ k lt. segment_piece g k)
    ∙ segment_sizes g (edges g)

-- how many darts all borders have
pub length-border_at : (g : Clustered) (l : Layout) →
    length (border_at g l) ≡ 2 * sum_below (border_length l) (length g.parents)
length-border_at g l = pieces_length (border_ends g l) (border_size l) 1 (length g.parents) (λ k lt. border_piece g l k)
    ∙ border_sizes l (length g.parents)

-- the darts are two for each segment and each border edge
pub length-borders_at : (g : Clustered) (l : Layout) →
    length (borders g l).at ≡ 2 * (segments g + sum_below (border_length l) (length g.parents))
length-borders_at g l =
    length-append (segment_at g) (border_at g l) ∙ ap₂ (λ (a b : ℕ). a + b) (length-segment_at g) (length-border_at g l)
    ∙ (let h : 2 * segments g + 2 * sum_below (border_length l) (length g.parents) ≡ 2
    * (segments g + sum_below (border_length l) (length g.parents)) = omega arith in h)

-- segments are numbered below all border edges
pub first_segment-le : (g : Clustered) (e i : ℕ) → e < edges g → i ≤ crossed g e → first_segment g e + i < segments g
first_segment-le g e i lt within =
    let h : sum_below (segment_size g) e + 2 * i < sum_below (segment_size g) (edges g) =
    sum_below-within (segment_size g) e (2 * i) (edges g) lt (omega arith) in
    omega (arith, segment_sizes g e, segment_sizes g (edges g))

-- dart j of the segments of edge e
segment_stands : (g : Clustered) (l : Layout) (e j : ℕ) → e < edges g → j < segment_size g e →
    slice_index (borders g l).at (2 * first_segment g e + j) ≡ slice_index (segment_ends g e) j
segment_stands g l e j lt within =
    let below : sum_below (segment_size g) e + j < sum_below (segment_size g) (edges g) =
    sum_below-within (segment_size g) e j (edges g) lt within in
    ap (slice_index (borders g l).at) (let h : 2 * first_segment g e + j ≡ sum_below (segment_size g) e + j = omega
    (arith, segment_sizes g e) in h)
    ∙ get_or_append_left (segment_at g) (border_at g l) 0 (sum_below (segment_size g) e + j)
    (omega (arith, length-segment_at g, segment_sizes g (edges g)))
    ∙ piece_at (segment_ends g) (segment_size g) 0 (edges g) e j 0 (λ k lt. segment_piece g k) lt within
    ∙ ap (λ (m : ℕ). slice_index (segment_ends g m) j) (let h : 0 + e ≡ e = omega arith in h)

-- dart j of the border edges of cluster c
border_stands : (g : Clustered) (l : Layout) (c j : ℕ) → 0 < c → c < clusters g → j < 2 * length (cluster_list l c) →
    slice_index (borders g l).at (2 * first_border_edge g l c + j) ≡ slice_index (border_ends g l c) j
border_stands g l c j above lt within =
    let same : border_size l (c - 1) ≡ 2 * length (cluster_list l c) =
    ap (λ (m : ℕ). 2 * length (cluster_list l m)) (let h : c - 1 + 1 ≡ c = omega arith in h) in
    ap (slice_index (borders g l).at) (let h : 2 * first_border_edge g l c + j ≡ length (segment_at g)
    + (sum_below (border_size l) (c - 1) + j) = omega (arith, length-segment_at g, border_sizes l (c - 1)) in h)
    ∙ get_or-append-add (segment_at g) (border_at g l) (sum_below (border_size l) (c - 1) + j) 0
    ∙ piece_at (border_ends g l) (border_size l) 1 (length g.parents) (c - 1) j 0 (λ k lt. border_piece g l k)
    (omega arith) (omega arith)
    ∙ ap (λ (m : ℕ). slice_index (border_ends g l m) j) (let h : 1 + (c - 1) ≡ c = omega arith in h)

-- the first dart of an edge stands at its source
pub stands_source : (g : Clustered) (l : Layout) (e : ℕ) → e < edges g →
    slice_index (borders g l).at (2 * first_segment g e) ≡ source g e
stands_source g l e lt = ap (slice_index (borders g l).at) (let h : 2 * first_segment g e ≡ 2 * first_segment g e + 0 =
    omega arith in h) ∙ segment_stands g l e 0 lt (omega arith)

-- the last one at its target
pub stands_target : (g : Clustered) (l : Layout) (e : ℕ) → e < edges g →
    slice_index (borders g l).at (2 * (first_segment g e + crossed g e) + 1) ≡ target g e
stands_target g l e lt =
    ap (slice_index (borders g l).at) (let h : 2 * (first_segment g e + crossed g e) + 1 ≡ 2 * first_segment g e + suc
    (2 * crossed g e) = omega arith in h)
    ∙ segment_stands g l e (suc (2 * crossed g e)) lt (omega arith)
    ∙ get_or_at (pairs (λ b. b) (λ b. b) (first_border g e) (crossed g e)) (target g e) [] 0 (2 * crossed g e)
    (length-pairs (λ b. b) (λ b. b) (first_border g e) (crossed g e))

-- the two darts between neighbouring segments at the border vertex between them
pub stands_toward_source : (g : Clustered) (l : Layout) (e i : ℕ) → e < edges g → i < crossed g e →
    slice_index (borders g l).at (toward_source g e i) ≡ first_border g e + i
stands_toward_source g l e i lt within =
    let long : length (pairs (λ b. b) (λ b. b) (first_border g e) (crossed g e)) ≡ 2 * crossed g e =
    length-pairs (λ b. b) (λ b. b) (first_border g e) (crossed g e) in
    ap (slice_index (borders g l).at) (let h : toward_source g e i ≡ 2 * first_segment g e + suc (2 * i) = omega
    arith in h)
    ∙ segment_stands g l e (suc (2 * i)) lt (omega arith)
    ∙ get_or_append_left (pairs (λ b. b) (λ b. b) (first_border g e) (crossed g e)) (target g e ∷ []) 0 (2 * i)
    (omega arith)
    ∙ pairs_first (λ b. b) (λ b. b) (first_border g e) (crossed g e) i within

-- where the dart toward the target of an edge stands at a crossing
pub stands_toward_target : (g : Clustered) (l : Layout) (e i : ℕ) → e < edges g → i < crossed g e →
    slice_index (borders g l).at (toward_target g e i) ≡ first_border g e + i
stands_toward_target g l e i lt within =
    let long : length (pairs (λ b. b) (λ b. b) (first_border g e) (crossed g e)) ≡ 2 * crossed g e =
    length-pairs (λ b. b) (λ b. b) (first_border g e) (crossed g e) in
    ap (slice_index (borders g l).at) (let h : toward_target g e i ≡ 2 * first_segment g e + suc (2 * i + 1) = omega
    arith in h)
    ∙ segment_stands g l e (suc (2 * i + 1)) lt (omega arith)
    ∙ get_or_append_left (pairs (λ b. b) (λ b. b) (first_border g e) (crossed g e)) (target g e ∷ []) 0 (2 * i + 1)
    (omega arith)
    ∙ pairs_second (λ b. b) (λ b. b) (first_border g e) (crossed g e) i within

-- a border edge runs from the border vertex of its item
pub stands_begin : (g : Clustered) (l : Layout) (c k : ℕ) → 0 < c → c < clusters g → k < length (cluster_list l c) →
    slice_index (borders g l).at (begin_dart g l c k) ≡ border_vertex g (slice_index (cluster_list l c) k) c
stands_begin g l c k above lt within =
    ap (slice_index (borders g l).at) (let h : begin_dart g l c k ≡ 2 * first_border_edge g l c + 2 * k = omega arith in
    h)
    ∙ border_stands g l c (2 * k) above lt (omega arith)
    ∙ pairs_first (λ i. border_vertex g (slice_index (cluster_list l c) i) c)
    (λ i. border_vertex g (slice_index (cluster_list l c) (place_after (length (cluster_list l c)) i)) c) 0
    (length (cluster_list l c)) k within
    ∙ ap (λ (m : ℕ). border_vertex g (slice_index (cluster_list l c) m) c) (let h : 0 + k ≡ k = omega arith in h)

-- to the border vertex of the item behind it
pub stands_finish : (g : Clustered) (l : Layout) (c k : ℕ) → 0 < c → c < clusters g → k < length (cluster_list l c) →
    slice_index (borders g l).at (finish_dart g l c k) ≡ border_vertex g
    (slice_index (cluster_list l c) (place_after (length (cluster_list l c)) k)) c
stands_finish g l c k above lt within =
    ap (slice_index (borders g l).at) (let h : finish_dart g l c k ≡ 2 * first_border_edge g l c + (2 * k + 1) = omega
    arith in h)
    ∙ border_stands g l c (2 * k + 1) above lt (omega arith)
    ∙ pairs_second (λ i. border_vertex g (slice_index (cluster_list l c) i) c)
    (λ i. border_vertex g (slice_index (cluster_list l c) (place_after (length (cluster_list l c)) i)) c) 0
    (length (cluster_list l c)) k within
    ∙ ap (λ (m : ℕ). border_vertex g (slice_index (cluster_list l c) (place_after (length (cluster_list l c)) m)) c)
    (let h : 0 + k ≡ k = omega arith in h)

-- what dart x of the border graph is
pub data DartOf (g : Clustered) (l : Layout) (x : ℕ) : Type 0 where
  leaves_source : (e : ℕ) → e < edges g → x ≡ 2 * first_segment g e → DartOf g l x
  reaches_target : (e : ℕ) → e < edges g → x ≡ 2 * (first_segment g e + crossed g e) + 1 → DartOf g l x
  looks_to_source : (e i : ℕ) → e < edges g → i < crossed g e → x ≡ toward_source g e i → DartOf g l x
  looks_to_target : (e i : ℕ) → e < edges g → i < crossed g e → x ≡ toward_target g e i → DartOf g l x
  begins_border : (c k : ℕ) → 0 < c → c < clusters g → k < length (cluster_list l c) → x ≡ begin_dart g l c k →
      DartOf g l x
  finishes_border : (c k : ℕ) → 0 < c → c < clusters g → k < length (cluster_list l c) → x ≡ finish_dart g l c k →
      DartOf g l x

-- a dart of edge e, by its place among the darts of the edge
segment_kind : (g : Clustered) (l : Layout) (x e j : ℕ) → e < edges g → j < segment_size g e →
    x ≡ 2 * first_segment g e + j → DartOf g l x
segment_kind g l x e j lt within is =
    ⊎_elim
    (λ even. ⊎_elim
    (λ first. leaves_source e lt (omega arith))
    (λ later. looks_to_target e (j / 2 - 1) lt (omega arith) (omega arith))
    (cases_eq (j / 2) 0))
    (λ odd. ⊎_elim
    (λ last. reaches_target e lt (omega arith))
    (λ before_last. looks_to_source e (j / 2) lt (omega arith) (omega arith))
    (cases_eq (j / 2) (crossed g e)))
    (cases_eq (j % 2) 0)

-- a dart of the border of cluster k + 1, by its place among the darts of that border
border_kind : (g : Clustered) (l : Layout) (x k j : ℕ) → k < length g.parents → j < border_size l k →
    x ≡ 2 * (segments g + sum_below (border_length l) k) + j → DartOf g l x
border_kind g l x k j lt within is =
    let start : first_border_edge g l (k + 1) ≡ segments g + sum_below (border_length l) k =
    ap (λ (m : ℕ). segments g + sum_below (border_length l) m) (let h : k + 1 - 1 ≡ k = omega arith in h) in
    ⊎_elim
    (λ even. begins_border (k + 1) (j / 2) (omega arith) (omega arith) (omega arith) (omega arith))
    (λ odd. finishes_border (k + 1) (j / 2) (omega arith) (omega arith) (omega arith) (omega arith))
    (cases_eq (j % 2) 0)

-- each dart of the border graph is of one of the six kinds
pub dart_is : (g : Clustered) (l : Layout) (x : ℕ) → x < length (borders g l).at → DartOf g l x
dart_is g l x lt =
    ⊎_elim
    (λ low.
    let p : Place (segment_size g) (edges g) x =
    located (segment_size g) (edges g) x (omega (arith, segment_sizes g (edges g))) in
    segment_kind g l x p.piece p.place p.is_piece p.is_place (omega (arith, p.is, segment_sizes g p.piece)))
    (λ high.
    let p : Place (border_size l) (length g.parents) (x - 2 * segments g) =
    located (border_size l) (length g.parents) (x - 2 * segments g)
    (omega (arith, length-borders_at g l, border_sizes l (length g.parents))) in
    border_kind g l x p.piece p.place p.is_piece p.is_place (omega (arith, p.is, border_sizes l p.piece)))
    (cases_lt x (2 * segments g))
