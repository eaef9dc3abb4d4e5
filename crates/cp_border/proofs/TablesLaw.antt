-- Tables that are filled place by place.
use Rattle.std.proofs.Common.{◌≡◌, ℕ, suc, ◌+◌, ◌-◌, ◌*◌, ◌<◌, ◌≤◌, List, [], length, set, slice_index, sym, refl, ap, ◌∙◌, subst, ⊎_elim, arith, length-set}
use Rattle.std.proofs.lemmas.Bool.{cases_eq}
use Rattle.std.proofs.lemmas.List.{get_or-set_same, get_or-set_other, get_or_append_left}
use Rattle.cp_cgraph.specs.Clustered.{Clustered, edges, clusters, source, target}
use Rattle.cp_cgraph.specs.declared.layout.Layout.{Layout}
use Rattle.cp_rot.specs.Systems.{vertex_of, place_after}
use Rattle.cp_border.specs.Borders.{borders, sum_below, border_vertex, cluster_list, crossed, first_border_edge, first_border, first_segment, segments}
use Rattle.cp_border.specs.Tables.{HoldsTable, segment_vertices}
use Rattle.cp_border.proofs.Numbering.{sum_below-next}
use Rattle.cp_border.proofs.RotationLaw.{begin_dart-lt}
use Rattle.cp_border.proofs.Darts.{border_length, length-borders_at, begin_dart, finish_dart, stands_begin, stands_finish, toward_source, toward_target, border_at, length-segment_at, first_segment-le, stands_source, stands_target, stands_toward_source, stands_toward_target}

-- no place is written at the start
pub HoldsTable-none : (xs : List ℕ) (f : ℕ → ℕ) → HoldsTable 0 xs f
HoldsTable-none xs f = record { size = omega arith; told = λ i lt. absurd (omega arith) }

-- the next place is written
pub HoldsTable-more : (n : ℕ) (xs : List ℕ) (f : ℕ → ℕ) (y : ℕ) → HoldsTable n xs f → n < length xs → y ≡ f n →
    HoldsTable (n + 1) (set xs n y) f
HoldsTable-more n xs f y table lt is = record {
  size = omega (arith, length-set xs n y);
  told = λ i within.
      ⊎_elim
      (λ e. ap (slice_index (set xs n y)) e ∙ get_or-set_same xs n y 0 lt ∙ is ∙ ap f (sym e))
      (λ ne. get_or-set_other xs n i y 0 ne ∙ table.told i (omega arith))
      (cases_eq i n);
}

-- a table of equal length, by another name of its length
pub HoldsTable-same : (n m : ℕ) (xs : List ℕ) (f : ℕ → ℕ) → n ≡ m → HoldsTable n xs f → HoldsTable m xs f
HoldsTable-same n m xs f e table = subst (λ k. HoldsTable k xs f) e table

-- the sums: the first, and the next
pub first-start : (first : List ℕ) (q : ℕ → ℕ) → 0 < length first → HoldsTable (0 + 1) (set first 0 0) (sum_below q)
first-start first q lt = HoldsTable-more 0 first (sum_below q) 0 (HoldsTable-none first (sum_below q)) lt refl

-- the next sum
pub first-more : (first : List ℕ) (q : ℕ → ℕ) (e : ℕ) → HoldsTable (e + 1) first (sum_below q) → e + 1 < length first →
    HoldsTable (e + 1 + 1) (set first (e + 1) (slice_index first e + q e)) (sum_below q)
first-more first q e table lt =
    HoldsTable-more (e + 1) first (sum_below q) (slice_index first e + q e) table lt
    (ap (λ (n : ℕ). n + q e) (table.told e (omega arith)) ∙ ap (sum_below q) (let h : suc e ≡ e + 1 = omega arith in h))

-- a sum of the first values and the next stays below the whole sum
pub first-le : (first : List ℕ) (q : ℕ → ℕ) (e n : ℕ) → HoldsTable (e + 1) first (sum_below q) → e < n →
    slice_index first e + q e ≤ sum_below q n
first-le first q e n table lt = omega (arith, table.told e (omega arith), sum_below-next q e n lt)

-- where the darts of segments stand, without a layout
no_layout : Layout
no_layout = record { nodes = []; clusters = [] }

-- the darts of the segments stand where the list of their vertices says, also with no layout
alone : (g : Clustered) (d v : ℕ) → d < 2 * segments g → slice_index (borders g no_layout).at d ≡ v →
    v ≡ slice_index (segment_vertices g) d
alone g d v lt stands = sym stands
    ∙ get_or_append_left (segment_vertices g) (border_at g no_layout) 0 d (omega (arith, length-segment_at g))

-- the first dart of an edge
pub edge-start : (g : Clustered) (at : List ℕ) (e : ℕ) → e < edges g → 2 * segments g ≤ length at →
    HoldsTable (2 * first_segment g e) at (slice_index (segment_vertices g)) →
    HoldsTable (2 * first_segment g e + 2 * 0 + 1) (set at (2 * first_segment g e) (source g e))
    (slice_index (segment_vertices g))
edge-start g at e lt room table =
    let low : first_segment g e + 0 < segments g = first_segment-le g e 0 lt (omega arith) in
    HoldsTable-same (2 * first_segment g e + 1) (2 * first_segment g e + 2 * 0 + 1)
    (set at (2 * first_segment g e) (source g e)) (slice_index (segment_vertices g)) (omega arith)
    (HoldsTable-more (2 * first_segment g e) at (slice_index (segment_vertices g)) (source g e) table (omega arith)
    (alone g (2 * first_segment g e) (source g e) (omega arith) (stands_source g no_layout e lt)))

-- the two darts at one of its border vertices
pub edge-more : (g : Clustered) (at : List ℕ) (e i : ℕ) → e < edges g → i < crossed g e → 2 * segments g ≤ length at →
    HoldsTable (2 * first_segment g e + 2 * i + 1) at (slice_index (segment_vertices g)) →
    HoldsTable (2 * first_segment g e + 2 * (i + 1) + 1)
    (set (set at (2 * first_segment g e + 2 * i + 1) (first_border g e + i)) (2 * first_segment g e + 2 * i + 2)
    (first_border g e + i)) (slice_index (segment_vertices g))
edge-more g at e i lt within room table =
    let low : first_segment g e + (i + 1) < segments g = first_segment-le g e (i + 1) lt (omega arith) in
    let one : HoldsTable (2 * first_segment g e + 2 * i + 1 + 1) (set at (2 * first_segment g e + 2 * i + 1)
    (first_border g e + i)) (slice_index (segment_vertices g)) =
    HoldsTable-more (2 * first_segment g e + 2 * i + 1) at (slice_index (segment_vertices g)) (first_border g e + i)
    table (omega arith)
    (alone g (toward_source g e i) (first_border g e + i) (omega arith) (stands_toward_source g no_layout e i lt within)
    ∙ ap (slice_index (segment_vertices g)) (let h : toward_source g e i ≡ 2 * first_segment g e + 2 * i + 1 = omega
    arith in h)) in
    let two : HoldsTable (2 * first_segment g e + 2 * i + 2) (set at (2 * first_segment g e + 2 * i + 1)
    (first_border g e + i)) (slice_index (segment_vertices g)) =
    HoldsTable-same (2 * first_segment g e + 2 * i + 1 + 1) (2 * first_segment g e + 2 * i + 2)
    (set at (2 * first_segment g e + 2 * i + 1) (first_border g e + i)) (slice_index (segment_vertices g))
    (omega arith) one in
    HoldsTable-same (2 * first_segment g e + 2 * i + 2 + 1) (2 * first_segment g e + 2 * (i + 1) + 1) _
    (slice_index (segment_vertices g)) (omega arith)
    (HoldsTable-more (2 * first_segment g e + 2 * i + 2) (set at (2 * first_segment g e + 2 * i + 1)
    (first_border g e + i)) (slice_index (segment_vertices g)) (first_border g e + i) two
    (omega (arith, length-set at (2 * first_segment g e + 2 * i + 1) (first_border g e + i)))
    (alone g (toward_target g e i) (first_border g e + i) (omega arith) (stands_toward_target g no_layout e i lt within)
    ∙ ap (slice_index (segment_vertices g)) (let h : toward_target g e i ≡ 2 * first_segment g e + 2 * i + 2 = omega
    arith in h)))

-- its last dart
pub edge-end : (g : Clustered) (at : List ℕ) (e : ℕ) → e < edges g → 2 * segments g ≤ length at →
    HoldsTable (2 * first_segment g e + 2 * crossed g e + 1) at (slice_index (segment_vertices g)) →
    HoldsTable (2 * first_segment g (e + 1)) (set at (2 * first_segment g e + 2 * crossed g e + 1) (target g e))
    (slice_index (segment_vertices g))
edge-end g at e lt room table =
    let low : first_segment g e + crossed g e < segments g = first_segment-le g e (crossed g e) lt (omega arith) in
    let next : sum_below (crossed g) (e + 1) ≡ sum_below (crossed g) e + crossed g e =
    ap (sum_below (crossed g)) (let h : e + 1 ≡ suc e = omega arith in h) in
    HoldsTable-same (2 * first_segment g e + 2 * crossed g e + 1 + 1) (2 * first_segment g (e + 1))
    (set at (2 * first_segment g e + 2 * crossed g e + 1) (target g e)) (slice_index (segment_vertices g))
    (omega arith)
    (HoldsTable-more (2 * first_segment g e + 2 * crossed g e + 1) at (slice_index (segment_vertices g)) (target g e)
    table (omega arith)
    (alone g (2 * (first_segment g e + crossed g e) + 1) (target g e) (omega arith) (stands_target g no_layout e lt)
    ∙ ap (slice_index (segment_vertices g)) (let h : 2 * (first_segment g e + crossed g e) + 1 ≡ 2 * first_segment g
    e + 2 * crossed g e + 1 = omega arith in h)))

-- ---- the border edges

-- the table of the segments' darts is one of the whole border graph
pub segments-whole : (g : Clustered) (l : Layout) (at : List ℕ) →
    HoldsTable (2 * segments g) at (slice_index (segment_vertices g)) →
    HoldsTable (2 * segments g) at (vertex_of (borders g l))
segments-whole g l at table = record {
  size = table.size;
  told = λ i lt. table.told i lt
      ∙ sym (get_or_append_left (segment_vertices g) (border_at g l) 0 i (omega (arith, length-segment_at g)));
}

-- the two darts of a border edge
pub border-more : (g : Clustered) (l : Layout) (at : List ℕ) (c k start : ℕ) → 0 < c → c < clusters g →
    k < length (cluster_list l c) → length (borders g l).at ≤ length at → start ≡ 2 * first_border_edge g l c →
    HoldsTable (start + 2 * k) at (vertex_of (borders g l)) →
    HoldsTable (start + 2 * (k + 1))
    (set (set at (start + 2 * k) (border_vertex g (slice_index (cluster_list l c) k) c)) (start + 2 * k + 1)
    (border_vertex g (slice_index (cluster_list l c) (place_after (length (cluster_list l c)) k)) c))
    (vertex_of (borders g l))
border-more g l at c k start above lt within room is table =
    let range = begin_dart-lt g l c k above lt within in
    let size : length (borders g l).at ≡ 2 * (segments g + sum_below (border_length l) (length g.parents)) =
    length-borders_at g l in
    let one : HoldsTable (start + 2 * k + 1)
    (set at (start + 2 * k) (border_vertex g (slice_index (cluster_list l c) k) c)) (vertex_of (borders g l)) =
    HoldsTable-more (start + 2 * k) at (vertex_of (borders g l)) (border_vertex g (slice_index (cluster_list l c) k) c)
    table (omega (arith, range.1))
    (sym (stands_begin g l c k above lt within)
    ∙ ap (vertex_of (borders g l)) (let h : begin_dart g l c k ≡ start + 2 * k = omega arith in h)) in
    HoldsTable-same (start + 2 * k + 1 + 1) (start + 2 * (k + 1)) _ (vertex_of (borders g l)) (omega arith)
    (HoldsTable-more (start + 2 * k + 1) (set at (start + 2 * k) (border_vertex g (slice_index (cluster_list l c) k) c))
    (vertex_of (borders g l))
    (border_vertex g (slice_index (cluster_list l c) (place_after (length (cluster_list l c)) k)) c) one
    (omega (arith, range.1, length-set at (start + 2 * k) (border_vertex g (slice_index (cluster_list l c) k) c)))
    (sym (stands_finish g l c k above lt within)
    ∙ ap (vertex_of (borders g l)) (let h : finish_dart g l c k ≡ start + 2 * k + 1 = omega arith in h)))

-- where the border edges of the next cluster begin
pub next_border_edge : (g : Clustered) (l : Layout) (c : ℕ) → 0 < c →
    first_border_edge g l (c + 1) ≡ first_border_edge g l c + length (cluster_list l c)
next_border_edge g l c above =
    let place : sum_below (border_length l) (c + 1 - 1) ≡ sum_below (border_length l) (suc (c - 1)) =
    ap (sum_below (border_length l)) (let h : c + 1 - 1 ≡ suc (c - 1) = omega arith in h) in
    let same : border_length l (c - 1) ≡ length (cluster_list l c) =
    ap (λ (m : ℕ). length (cluster_list l m)) (let h : c - 1 + 1 ≡ c = omega arith in h) in
    let sum : sum_below (border_length l) (suc (c - 1))
    ≡ sum_below (border_length l) (c - 1) + border_length l (c - 1) =
    refl in
    omega arith

-- behind the last cluster all darts are told
pub last_border_edge : (g : Clustered) (l : Layout) → 2 * first_border_edge g l (clusters g) ≡ length (borders g l).at
last_border_edge g l =
    let place : sum_below (border_length l) (clusters g - 1) ≡ sum_below (border_length l) (length g.parents) =
    ap (sum_below (border_length l)) (let h : clusters g - 1 ≡ length g.parents = omega arith in h) in
    omega (arith, length-borders_at g l)

-- the darts of the segments and of the borders of the clusters below c are told
pub record HasBorders (g : Clustered) (l : Layout) (c start : ℕ) (at : List ℕ) : Type 0 where
  pub begins : start ≡ 2 * first_border_edge g l c
  pub table : HoldsTable start at (vertex_of (borders g l))

-- before the first border
pub HasBorders-start : (g : Clustered) (l : Layout) (first at : List ℕ) →
    HoldsTable (edges g + 1) first (sum_below (crossed g)) →
    HoldsTable (2 * segments g) at (slice_index (segment_vertices g)) →
    HasBorders g l 1 (2 * (edges g + slice_index first (edges g))) at
HasBorders-start g l first at sums table =
    let told : slice_index first (edges g) ≡ sum_below (crossed g) (edges g) = sums.told (edges g) (omega arith) in
    record {
      begins = omega arith;
      table = HoldsTable-same (2 * segments g) (2 * (edges g + slice_index first (edges g))) at
          (vertex_of (borders g l)) (omega arith) (segments-whole g l at table);
    }

-- one border more
pub HasBorders-more : (g : Clustered) (l : Layout) (c start : ℕ) (old new : List ℕ) → 0 < c →
    HasBorders g l c start old → HoldsTable (start + 2 * length (cluster_list l c)) new (vertex_of (borders g l)) →
    HasBorders g l (c + 1) (start + 2 * length (cluster_list l c)) new
HasBorders-more g l c start old new above so table =
    record { begins = omega (arith, so.begins, next_border_edge g l c above); table = table }

-- after the last border all darts are written
pub HasBorders-end : (g : Clustered) (l : Layout) (c start : ℕ) (at : List ℕ) → c ≡ clusters g →
    HasBorders g l c start at → HoldsTable (length (borders g l).at) at (vertex_of (borders g l))
HasBorders-end g l c start at whole so =
    HoldsTable-same start (length (borders g l).at) at (vertex_of (borders g l))
    (so.begins ∙ ap (λ (m : ℕ). 2 * first_border_edge g l m) whole ∙ last_border_edge g l) so.table
