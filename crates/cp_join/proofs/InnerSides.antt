-- The inner vertices of the first end are a side of the system of the inner vertices; an order for it is a list of the
-- vertex that they are made.
use Rattle.std.proofs.Common.{◌≡◌, ℕ, zero, suc, ◌+◌, ◌-◌, ◌*◌, ◌/◌, ◌%◌, ◌<◌, ◌≤◌, Bool, true, false, not, List, [], ◌∷◌, ◌++◌, length, get_or, map, reverse, replicate, slice_index, slice_index_or, sym, refl, ap, ap₂, ◌∙◌, subst, ⊎_elim, arith}
use Rattle.std.specs.Prelude.{filter}
use Rattle.std.specs.Option.{option_map_or}
use Rattle.std.proofs.lemmas.Bool.{cases_eq, cond-true}
use Rattle.std.proofs.lemmas.List.{append-nil, get_or-append-add, get_or_append_left, get_or-append_right, get_or-map, get_or-replicate, length-append, length-map, length-replicate, reverse-reverse, same_lists}
use Rattle.std.proofs.lemmas.List.Elements.{Contains-get_or, filter-append}
use Rattle.std.proofs.lemmas.List.Sorted.{length_permutation}
use Rattle.cp_lists.specs.CyclicLists.{Has}
use Rattle.cp_lists.proofs.DistinctLists.{Exactly-Has, Has-Contains, Has-append_cases, Has_at}
use Rattle.cp_lists.proofs.MappedLists.{map_agree_on}
use Rattle.cp_lists.proofs.ReversedLists.{map-reverse}
use Rattle.cp_faces.specs.Twins.{twin}
use Rattle.cp_faces.proofs.Twins.{twin_even, twin_odd}
use Rattle.cp_conn.specs.NamedGraphs.{NamedGraph, rank}
use Rattle.cp_mergelaw.specs.Sides.{IsMergedSide}
use Rattle.cp_rot.specs.Rewrites.{values}
use Rattle.cp_rot.specs.Systems.{System, darts, edges, list_of, vertex_of}
use Rattle.cp_rot.proofs.ListEdits.{length-values, values_at}
use Rattle.cp_rotlaw.specs.SideOrders.{IsSideOf, IsSideOrder, in_side, rows_where, side_dart}
use Rattle.cp_board.specs.declared.parts.Pipe.{Pipe}
use Rattle.cp_board.specs.Instances.{Synchronized, edges_of, graph}
use Rattle.cp_board.specs.Joins.{part_of}
use Rattle.cp_board.specs.Rotations.{dart, system}
use Rattle.cp_board.specs.Solutions.{Solves}
use Rattle.cp_board.specs.Steps.{partner}
use Rattle.cp_maplaw.specs.NamedDarts.{dart_list}
use Rattle.cp_sync.specs.Numbering.{numbered_ends}
use Rattle.cp_synclaw.proofs.InstanceDarts.{length-two_each, two_each-first, two_each-second}
use Rattle.cp_join.specs.InnerSystems.{first_back, first_marks, second_back}
use Rattle.cp_join.specs.declared.parted_ends.Parting.{Parting}
use Rattle.cp_join.proofs.EarlierSolutions.{others_side, perm_a, perm_b, side}
use Rattle.cp_join.proofs.HatOrders.{map_twice}
use Rattle.cp_join.proofs.InnerFits.{first_place, hat_edge, second_place}
use Rattle.cp_join.proofs.JoinNames.{HasPartings}
use Rattle.cp_join.proofs.JoinedGraph.{edges_a, hat, joined, once_firsts, partner_a, partner_of_a}
use Rattle.cp_join.proofs.JoinedHalves.{by_place, inner_graph, new_ends}
use Rattle.cp_join.proofs.PartLists.{all_has, part_has}
use Rattle.cp_join.proofs.PipePairs.{found_once}

-- the numbers below a + b that pass a test for those below a
values_below : (a b : ℕ) (p : ℕ → Bool) → ((v : ℕ) → v < a → p v ≡ true)
    → ((v : ℕ) → a ≤ v → v < a + b → p v ≡ false) → filter p (values (a + b) (λ v. v)) ≡ values a (λ v. v)
values_below a zero p low high =
    let none : a + 0 ≡ a = omega arith in
    ap (λ n. filter p (values n (λ v. v))) none ∙ all a (λ v lt. low v lt)
  where
    all : (n : ℕ) → ((v : ℕ) → v < n → p v ≡ true) → filter p (values n (λ v. v)) ≡ values n (λ v. v)
    all zero each = refl
    all (suc n) each =
        filter-append p (values n (λ v. v)) (n ∷ [])
        ∙ ap₂ (λ us ws. us ++ ws) (all n (λ v lt. each v (omega (arith, lt)))) (rw (each n (omega arith)) refl)
values_below a (suc b) p low high =
    let more : a + suc b ≡ suc (a + b) = omega arith in
    ap (λ n. filter p (values n (λ v. v))) more
    ∙ filter-append p (values (a + b) (λ v. v)) ((a + b) ∷ [])
    ∙ ap₂ (λ us ws. us ++ ws) (values_below a b p low (λ v le lt. high v le (omega (arith, lt))))
    (rw (high (a + b) (omega arith) (omega arith)) refl)
    ∙ append-nil (values a (λ v. v))

-- and those that fail it
values_above : (a b : ℕ) (p : ℕ → Bool) → ((v : ℕ) → v < a → p v ≡ false)
    → ((v : ℕ) → a ≤ v → v < a + b → p v ≡ true)
    → filter p (values (a + b) (λ v. v)) ≡ values b (λ v. a + v)
values_above a zero p low high =
    let none : a + 0 ≡ a = omega arith in
    ap (λ n. filter p (values n (λ v. v))) none ∙ nothing a (λ v lt. low v lt)
  where
    nothing : (n : ℕ) → ((v : ℕ) → v < n → p v ≡ false) → filter p (values n (λ v. v)) ≡ []
    nothing zero each = refl
    nothing (suc n) each =
        filter-append p (values n (λ v. v)) (n ∷ [])
        ∙ ap₂ (λ us ws. us ++ ws) (nothing n (λ v lt. each v (omega (arith, lt)))) (rw (each n (omega arith)) refl)
values_above a (suc b) p low high =
    let more : a + suc b ≡ suc (a + b) = omega arith in
    ap (λ n. filter p (values n (λ v. v))) more
    ∙ filter-append p (values (a + b) (λ v. v)) ((a + b) ∷ [])
    ∙ ap₂ (λ us ws. us ++ ws) (values_above a b p low (λ v le lt. high v le (omega (arith, lt))))
    (rw (high (a + b) (omega arith) (omega arith)) refl)

module _ (i : Synchronized) (p : Pipe) (s t : Parting) (hats : List ℕ) (h : HasPartings i p s t hats)
    (r : ℕ → List ℕ) (solves : Solves (joined i p s t hats h) r) where
  -- the graph of the inner vertices
  abbrev inner : NamedGraph
  inner = inner_graph i p s t hats h

  -- its system with the lists of the solution
  abbrev made : System
  made = system inner r

  -- how many inner vertices the first end has
  abbrev a : ℕ
  a = length s.inner

  -- how many the second end has
  abbrev b : ℕ
  b = length t.inner

  -- the marks: true for each vertex of the first end, false for each of the second
  abbrev marks : List Bool
  marks = first_marks s t

  -- vertices below a, those of the first end, are marked
  marks_low : (v : ℕ) → v < a → in_side marks v ≡ true
  marks_low v lt =
      get_or_append_left (replicate a true) (replicate b false) false v (omega (arith, lt, length-replicate a true))
      ∙ get_or-replicate a v true false lt

  -- the b vertices behind them are not
  marks_high : (v : ℕ) → a ≤ v → v < a + b → in_side marks v ≡ false
  marks_high v le lt =
      get_or-append_right (replicate a true) (replicate b false) a v false (length-replicate a true) le
      ∙ get_or-replicate b (v - a) false false (omega (arith, lt, le))

  -- there are two darts for each new edge
  made_darts : darts made ≡ 2 * length hats
  made_darts = length-two_each (numbered_ends inner) hats

  -- the first dart of a new edge stands at a vertex of the first end
  first_low : (k : ℕ) → k < length hats → vertex_of made (2 * k) < a
  first_low k lt =
      let e : ℕ = slice_index hats k in
      let x = hat_edge i p s t hats h e (Contains-get_or hats k 0 lt) in
      let part = part_has s.parts x.0 (all_has (graph i) p.a s.parts h.rules.edges_named.rise h.parts_a x.0
      ((Has-Contains x.0 (edges_a i p s t hats h)).0 x.1)) in
      let place : vertex_of made (2 * k) ≡ part_of s.parts x.0 =
      two_each-first (numbered_ends inner) hats k lt
      ∙ ap (λ (y : ℕ). rank inner.verts (inner.ends y).0) (sym x.2)
      ∙ ap (λ (y : ℕ × ℕ). rank inner.verts y.0) (new_ends i p s t hats h x.0 x.1)
      ∙ first_place i p s t hats h r solves x.0 x.1 in
      omega (arith, place, part.0, h.parted.first_end.inner_each)

  -- and the second at a vertex of the second end
  second_high : (k : ℕ) → k < length hats → (a ≤ vertex_of made (2 * k + 1)) × (vertex_of made (2 * k + 1) < a + b)
  second_high k lt =
      let e : ℕ = slice_index hats k in
      let x = hat_edge i p s t hats h e (Contains-get_or hats k 0 lt) in
      let y : ℕ = partner p p.a x.0 in
      let part = part_has t.parts y (all_has (graph i) p.b t.parts h.rules.edges_named.rise h.parts_b y
      ((Has-Contains y (edges_of i p.b)).0 (partner_of_a i p s t hats h x.0 x.1))) in
      let place : vertex_of made (2 * k + 1) ≡ length s.parts + part_of t.parts y =
      two_each-second (numbered_ends inner) hats k lt
      ∙ ap (λ (z : ℕ). rank inner.verts (inner.ends z).1) (sym x.2)
      ∙ ap (λ (z : ℕ × ℕ). rank inner.verts z.1) (new_ends i p s t hats h x.0 x.1)
      ∙ second_place i p s t hats h r solves x.0 x.1 in (
        omega (arith, place, h.parted.first_end.inner_each),
        omega (arith, place, part.0, h.parted.first_end.inner_each, h.parted.second_end.inner_each),
      )

  -- no inner vertex is without a new edge
  filled_vertex : (w : ℕ) → Has w (s.inner ++ t.inner) → 0 < length (r w)
  filled_vertex w m = ⊎_elim
      (λ k. by_place (λ v. 0 < length (r v)) s.inner s.parts h.parted.first_end.inner_each (λ j lt.
      let part : List ℕ = slice_index_or s.parts j [] in
      let size = length_permutation (map (hat i p s t hats h) part) (r (slice_index s.inner j))
      (perm_a i p s t hats h r solves j lt) in
      omega (arith, size, length-map part (hat i p s t hats h), h.parts_a.filled j [] lt)) w k)
      (λ k. by_place (λ v. 0 < length (r v)) t.inner t.parts h.parted.second_end.inner_each (λ j lt.
      let part : List ℕ = slice_index_or t.parts j [] in
      let there : ℕ → ℕ = λ y. hat i p s t hats h (partner p p.b y) in
      let size = length_permutation (map there part) (r (slice_index t.inner j)) (perm_b i p s t hats h r solves j lt)
      in
      omega (arith, size, length-map part there, h.parts_b.filled j [] lt)) w k)
      (Has-append_cases w s.inner t.inner m)

  -- the list of a vertex of the system
  made_list : (v : ℕ) → v < a + b → list_of made v ≡ dart_list (dart inner) r (slice_index (s.inner ++ t.inner) v)
  made_list v lt = get_or-map (dart_list (dart inner) r) (s.inner ++ t.inner) v 0 []
      (omega (arith, lt, length-append s.inner t.inner))

  -- the first end is a side, where it has a part
  pub first-IsSideOf : 0 < length s.parts → IsSideOf (system (inner_graph i p s t hats h) r) (first_marks s t)
  first-IsSideOf some = record {
    size = length-append (replicate a true) (replicate b false)
        ∙ (let one = length-replicate a true in let two = length-replicate b false in
        let whole = length-append s.inner t.inner in
        let q : length (replicate a true) + length (replicate b false) ≡ length (s.inner ++ t.inner) =
        omega (arith, one, two, whole) in q);
    across = λ d lt.
        let k : ℕ = d / 2 in
        let low : k < length hats = omega (arith, lt, made_darts) in
        let first = marks_low (vertex_of made (2 * k)) (first_low k low) in
        let high = second_high k low in
        let second = marks_high (vertex_of made (2 * k + 1)) high.0 high.1 in
        ⊎_elim
        (λ even.
        let here : d ≡ 2 * k = omega (arith, even) in
        let there : twin d ≡ 2 * k + 1 = twin_even d even ∙ (let q : d + 1 ≡ 2 * k + 1 = omega (arith, here) in q) in
        ap (λ y. in_side marks (vertex_of made y)) there ∙ second
        ∙ sym (ap (λ y. not (in_side marks (vertex_of made y))) here ∙ ap not first))
        (λ odd.
        let here : d ≡ 2 * k + 1 = omega (arith, odd) in
        let there : twin d ≡ 2 * k = twin_odd d odd ∙ (let q : d - 1 ≡ 2 * k = omega (arith, here) in q) in
        ap (λ y. in_side marks (vertex_of made y)) there ∙ first
        ∙ sym (ap (λ y. not (in_side marks (vertex_of made y))) here ∙ ap not second))
        (cases_eq (d % 2) 0);
    some = (
      0,
      omega (arith, some, h.parted.first_end.inner_each, length-append s.inner t.inner),
      marks_low 0 (omega (arith, some, h.parted.first_end.inner_each)),
    );
    filled = λ v lt none.
        let w : ℕ = slice_index (s.inner ++ t.inner) v in
        let size : length (list_of made v) ≡ length (r w) =
        ap length (made_list v (omega (arith, lt, length-append s.inner t.inner))) ∙ length-map (r w) (dart inner w) in
        let empty = ap length none in
        let more = filled_vertex w (Has_at (s.inner ++ t.inner) v lt) in
        omega (arith, size, empty, more);
  }

  -- the lists of the marked vertices are those of the first end
  first_rows : rows_where made (in_side marks) ≡ side i p s t hats h r solves
  first_rows =
      ap (λ n. map (list_of made) (filter (in_side marks) (values n (λ v. v)))) (length-append s.inner t.inner)
      ∙ ap (map (list_of made)) (values_below a b (in_side marks) marks_low marks_high)
      ∙ same_lists (map (list_of made) (values a (λ v. v))) (side i p s t hats h r solves)
      (length-map (values a (λ v. v)) (list_of made) ∙ length-values a (λ v. v)
      ∙ sym (length-map s.inner (dart_list (dart inner) r)))
      (λ k z lt.
      let low : k < a = omega (arith, lt, length-map (values a (λ v. v)) (list_of made), length-values a (λ v. v)) in
      get_or-map (list_of made) (values a (λ v. v)) k 0 z (omega (arith, low, length-values a (λ v. v)))
      ∙ ap (list_of made) (values_at a (λ v. v) k 0 low) ∙ made_list k (omega (arith, low))
      ∙ ap (dart_list (dart inner) r) (get_or_append_left s.inner t.inner 0 k low)
      ∙ sym (get_or-map (dart_list (dart inner) r) s.inner k 0 z low))

  -- the lists of the vertices without a mark are those of the second end
  second_rows : rows_where made (λ v. not (in_side marks v)) ≡ others_side i p s t hats h r solves
  second_rows =
      ap (λ n. map (list_of made) (filter (λ v. not (in_side marks v)) (values n (λ v. v))))
      (length-append s.inner t.inner)
      ∙ ap (map (list_of made)) (values_above a b (λ v. not (in_side marks v)) (λ v lt. ap not (marks_low v lt))
      (λ v le lt. ap not (marks_high v le lt)))
      ∙ same_lists (map (list_of made) (values b (λ v. a + v))) (others_side i p s t hats h r solves)
      (length-map (values b (λ v. a + v)) (list_of made) ∙ length-values b (λ v. a + v)
      ∙ sym (length-map t.inner (dart_list (dart inner) r)))
      (λ k z lt.
      let low : k < b =
      omega (arith, lt, length-map (values b (λ v. a + v)) (list_of made), length-values b (λ v. a + v)) in
      get_or-map (list_of made) (values b (λ v. a + v)) k 0 z (omega (arith, low, length-values b (λ v. a + v)))
      ∙ ap (list_of made) (values_at b (λ v. a + v) k 0 low) ∙ made_list (a + k) (omega (arith, low))
      ∙ ap (dart_list (dart inner) r) (get_or-append-add s.inner t.inner k 0)
      ∙ sym (get_or-map (dart_list (dart inner) r) t.inner k 0 z low))

  -- an order for the side
  module _ (order : List ℕ) (is : IsSideOrder (system (inner_graph i p s t hats h) r) (first_marks s t) order) where
    -- its items are places of new edges
    pub order-low : (k : ℕ) → Has k order → k < length hats
    order-low k m =
        let low = ((Exactly-Has (edges made) (λ e. true) order is.arranged k).0 m).0 in
        omega (arith, low, made_darts)

    -- the list of the vertex that the first end is made
    abbrev pub whole : List ℕ
    whole = map (λ k. 2 * k) order

    -- the first end is made one vertex with it
    pub order-IsMergedSide : IsMergedSide (length hats) (side i p s t hats h r solves)
        (others_side i p s t hats h r solves)
        (map (λ k. 2 * k) order)
    order-IsMergedSide =
        subst (IsMergedSide (length hats) (side i p s t hats h r solves) (others_side i p s t hats h r solves))
        (map_agree_on (side_dart made marks) (λ k. 2 * k) order (λ k m.
        cond-true (in_side marks (vertex_of made (2 * k))) (2 * k) (2 * k + 1)
        (marks_low (vertex_of made (2 * k)) (first_low k (order-low k m)))))
        (subst (λ rows. IsMergedSide (length hats) (side i p s t hats h r solves) rows
        (map (side_dart made marks) order))
        second_rows
        (subst (λ rows. IsMergedSide (length hats) rows (rows_where made (λ v. not (in_side marks v)))
        (map (side_dart made marks) order)) first_rows
        (subst (λ n. IsMergedSide n (rows_where made (in_side marks)) (rows_where made (λ v. not (in_side marks v)))
        (map (side_dart made marks) order))
        (let two = made_darts in let q : edges made ≡ length hats = omega (arith, two) in q) is.merged)))

    -- the first of the pair at a place
    first_at : (k : ℕ) → k < length hats
        → get_or (edges_a i p s t hats h) (2 * k / 2) 0 ≡ (slice_index_or p.pairs k (0, 0)).0
    first_at k lt =
        let half : 2 * k / 2 ≡ k = omega arith in
        ap (λ n. get_or (edges_a i p s t hats h) n 0) half
        ∙ ap (λ (es : List ℕ). get_or es k 0) (sym h.pairs.first)
        ∙ get_or-map (λ (x : ℕ × ℕ). x.0) p.pairs k (0, 0) 0 (omega (arith, lt, h.hats_each))

    -- and the second is its partner
    second_at : (k : ℕ) → k < length hats
        → partner p p.a (slice_index_or p.pairs k (0, 0)).0 ≡ (slice_index_or p.pairs k (0, 0)).1
    second_at k lt =
        partner_a i p s t hats h (slice_index_or p.pairs k (0, 0)).0
        ∙ ap (λ o. option_map_or (λ (y : ℕ × ℕ). y.1) o 0)
        (found_once (λ (y : ℕ × ℕ). y.0) p.pairs k (0, 0) (once_firsts i p s t hats h) (omega (arith, lt, h.hats_each)))

    -- the edges of the first end for the darts of the list
    keys : map (λ d. get_or (edges_a i p s t hats h) (d / 2) 0) (map (λ k. 2 * k) order)
        ≡ map (λ k. (slice_index_or p.pairs k (0, 0)).0) order
    keys =
        map_twice (λ k. 2 * k) (λ d. get_or (edges_a i p s t hats h) (d / 2) 0) order
        ∙ map_agree_on (λ k. get_or (edges_a i p s t hats h) (2 * k / 2) 0)
        (λ k. (slice_index_or p.pairs k (0, 0)).0) order (λ k m. first_at k (order-low k m))

    -- the order of the first end that it gives has the edges of the darts of this list, in reverse
    pub first_back-order : first_back p.pairs order
        ≡ map (λ d. get_or (edges_a i p s t hats h) (d / 2) 0) (reverse (map (λ k. 2 * k) order))
    first_back-order =
        sym (map-reverse (λ d. get_or (edges_a i p s t hats h) (d / 2) 0) (map (λ k. 2 * k) order) ∙ ap reverse keys)

    -- that of the second end has the partners of these edges, in reverse
    pub second_back-order : second_back p.pairs order ≡ reverse (map (partner p p.a) (first_back p.pairs order))
    second_back-order =
        sym (ap reverse (map-reverse (partner p p.a) (map (λ k. (slice_index_or p.pairs k (0, 0)).0) order))
        ∙ reverse-reverse (map (partner p p.a) (map (λ k. (slice_index_or p.pairs k (0, 0)).0) order))
        ∙ map_twice (λ k. (slice_index_or p.pairs k (0, 0)).0) (partner p p.a) order
        ∙ map_agree_on (λ k. partner p p.a (slice_index_or p.pairs k (0, 0)).0)
        (λ k. (slice_index_or p.pairs k (0, 0)).1) order (λ k m. second_at k (order-low k m)))
