-- A vertex of a flat map whose list is put together of others without a crossing, taken apart: the map stays flat.
use Rattle.std.proofs.Common.{◌≡◌, ℕ, zero, suc, ◌*◌, ◌<◌, true, eqb, List, [], ◌∷◌, ◌++◌, length, get_or, sym, ap, ◌∙◌, subst, ⊎_elim, arith}
use Rattle.std.specs.List.{filter}
use Rattle.std.proofs.lemmas.Bool.{cases_Bool, eq-eqb, false≢true, ne_eqb}
use Rattle.cp_lists.specs.CyclicLists.{Distinct, Has, follow}
use Rattle.cp_lists.specs.Rows.{flat}
use Rattle.cp_lists.proofs.DistinctLists.{Distinct-append, Distinct-append_left, Distinct-append_right, Distinct-apart, Has-append_cases, Has-append_left, Has-append_right}
use Rattle.cp_lists.proofs.FilteredLists.{filter-Has, filter_agree}
use Rattle.cp_lists.proofs.FlatLists.{flat-append, flat-Distinct, flat-Distinct_once, flat-Has}
use Rattle.cp_lists.proofs.TurnedLists.{turn-follow, turn-Has, turn-sym}
use Rattle.cp_maps.specs.Genus.{CanBeFlat}
use Rattle.cp_maps.specs.Gluings.{IsAssembled}
use Rattle.cp_maps.specs.ListClasses.{EachClassOf, IsClassOf}
use Rattle.cp_maps.specs.Maps.{IsMapOf, Ring, Rings, has}
use Rattle.cp_maps.proofs.AssembledLists.{uncrossed-IsAssembled}
use Rattle.cp_maps.proofs.AssembledVertices.{assembled_item, item_assembled}
use Rattle.cp_maps.proofs.ListFacts.{has_true}
use Rattle.cp_maps.proofs.MapLists.{IsMapOf-front, IsMapOf-other, IsMapOf-swap, IsMapOf-turn, IsMapOf-unbare}
use Rattle.cp_maps.proofs.Rings.{Rings-append, Rings-append_left, Rings-append_right}
use Rattle.cp_mergelaw.specs.Sides.{EachList, IsMergeOf, RestrictsTo, class_by, is_of}
use Rattle.cp_mergelaw.proofs.JoinedBranches.{parted-CanBeFlat}
use Rattle.cp_mergelaw.proofs.ListClasses.{AllUncrossed-NoCross, class_by-is_of, class_by-passes}

-- a list made of parts that stand in it in one piece, one after the other, taken apart
pub assembled_parts-CanBeFlat : (e : ℕ) (row : List ℕ) (parts rows : List (List ℕ)) → IsAssembled row parts
    → CanBeFlat e (row ∷ rows) → CanBeFlat e (parts ++ rows)
assembled_parts-CanBeFlat e row [] rows is can =
    (can.0, IsMapOf-unbare (2 * e) can.0 rows (subst (λ xs. IsMapOf (2 * e) can.0 (xs ∷ rows)) is can.1), can.2)
assembled_parts-CanBeFlat e row (xs ∷ parts) rows is can =
    let two : CanBeFlat e (xs ∷ is.0 ∷ rows) =
    parted-CanBeFlat e xs is.0 rows
    (can.0, IsMapOf-turn (2 * e) can.0 row (xs ++ is.0) rows (turn-sym (xs ++ is.0) row is.1) can.1, can.2) in
    let all : CanBeFlat e (parts ++ xs ∷ rows) =
    assembled_parts-CanBeFlat e is.0 parts (xs ∷ rows) is.2
    (two.0, IsMapOf-swap (2 * e) two.0 xs is.0 rows two.1, two.2) in
    (all.0, IsMapOf-front (2 * e) all.0 xs parts rows all.1, all.2)

-- an item of a list of which the whole keeps the order is one of the whole
pub RestrictsTo-whole : (whole xs : List ℕ) (d : ℕ) → RestrictsTo whole xs → Has d xs → Has d whole
RestrictsTo-whole whole xs d turn h = (filter-Has (is_of xs) d whole (turn-Has xs (filter (is_of xs) whole) d turn h)).0

-- a property of each list is one of the list at a place
each_at : (good : List ℕ → Type 0) (rows : List (List ℕ)) (k : ℕ) → k < length rows → EachList good rows
    → good (get_or rows k [])
each_at good [] k lt each = absurd (omega (arith, lt))
each_at good (xs ∷ rows) zero lt each = each.0
each_at good (xs ∷ rows) (suc k) lt each = each_at good rows k (omega (arith, lt)) each.1

-- a list of classes has at each place a class of the row
class_at : (cls : ℕ → ℕ) (row : List ℕ) (rows : List (List ℕ)) (k : ℕ) → k < length rows → EachClassOf cls row rows
    → IsClassOf cls row (get_or rows k [])
class_at cls row [] k lt each = absurd (omega (arith, lt))
class_at cls row (xs ∷ rows) zero lt each = each.0
class_at cls row (xs ∷ rows) (suc k) lt each = class_at cls row rows k (omega (arith, lt)) each.1

-- a ring is one of the rings at its place
ring_at : (f : ℕ → ℕ) (rows : List (List ℕ)) (k : ℕ) → k < length rows → Rings f rows → Ring f (get_or rows k [])
ring_at f [] k lt rings = absurd (omega (arith, lt))
ring_at f (xs ∷ rows) zero lt rings = rings.0
ring_at f (xs ∷ rows) (suc k) lt rings = ring_at f rows k (omega (arith, lt)) rings.1

-- and the other way round
rings_by_place : (f : ℕ → ℕ) (rows : List (List ℕ)) → ((k : ℕ) → k < length rows → Ring f (get_or rows k []))
    → Rings f rows
rings_by_place f [] each = tt
rings_by_place f (xs ∷ rows) each =
    (each 0 (omega arith), rings_by_place f rows (λ k lt. each (suc k) (omega (arith, lt))))

-- a flat map, a list that is put together of others, and these
module _ (e : ℕ) (whole : List ℕ) (copies rows : List (List ℕ)) (can : CanBeFlat e (whole ∷ rows))
    (merge : IsMergeOf whole copies) (once : Distinct (flat copies))
    (all : (d : ℕ) → Has d whole → Has d (flat copies)) where
  -- the place of the list that has a dart
  abbrev class : ℕ → ℕ
  class = class_by is_of copies

  -- each dart of the whole list has the place of one of the lists
  class_less : (d : ℕ) → Has d whole → class d < length copies
  class_less d h = class_by-is_of copies d (all d h)

  -- a dart of the list at a place is of this class
  class_is : (k d : ℕ) → k < length copies → Has d (get_or copies k []) → Has d whole → class d ≡ k
  class_is k d lt h in_whole =
      flat-Distinct_once d (class d) k copies (class_less d in_whole) lt once
      (has_true d (get_or copies (class d) []) (class_by-passes is_of copies d (class_less d in_whole))) h

  -- a dart of one of them is one of the whole list
  copy_item : (d : ℕ) → Has d (flat copies) → Has d whole
  copy_item d h =
      let r = flat-Has d copies h in
      RestrictsTo-whole whole (get_or copies r.0 []) d (each_at (RestrictsTo whole) copies r.0 r.1 merge.restricted) r.2

  -- the whole list is distinct
  whole_once : Distinct whole
  whole_once = Distinct-append_left whole (flat rows) can.1.once

  -- it is made of its classes, each in one piece
  made : (parts : List (List ℕ)) × IsAssembled whole parts × EachClassOf class whole parts
  made = uncrossed-IsAssembled (suc (length whole)) class whole (omega arith) whole_once
      (AllUncrossed-NoCross is_of whole copies merge.uncrossed class_less)

  -- taken apart into these it can be flat
  apart : CanBeFlat e (made.0 ++ rows)
  apart = assembled_parts-CanBeFlat e whole made.0 rows made.1 can

  -- the lists are rings of this map
  copy_ring : (k : ℕ) → k < length copies → Ring apart.0 (get_or copies k [])
  copy_ring k lt = record {
    distinct = flat-Distinct k copies lt once;
    along = λ d h.
        let ys : List ℕ = get_or copies k [] in
        let turn : RestrictsTo whole ys = each_at (RestrictsTo whole) copies k lt merge.restricted in
        let in_whole : Has d whole = RestrictsTo-whole whole ys d turn h in
        let r = flat-Has d made.0 (assembled_item whole made.0 d made.1 in_whole) in
        let zs : List ℕ = get_or made.0 r.0 [] in
        let is : IsClassOf class whole zs = class_at class whole made.0 r.0 r.1 made.2 in
        let ring : Ring apart.0 zs = ring_at apart.0 made.0 r.0 r.1
        (Rings-append_left apart.0 made.0 rows apart.1.rings) in
        let mine : class d ≡ k = class_is k d lt h in_whole in
        let same : class is.one ≡ k = sym ((is.items d).0 r.2).1 ∙ mine in
        let kept : filter (λ y. eqb (class y) (class is.one)) whole ≡ filter (is_of ys) whole =
        filter_agree (λ y. eqb (class y) (class is.one)) (is_of ys) whole (λ y hy. agrees y hy (class is.one) same) in
        ring.along d r.2 ∙ is.order d r.2 ∙ ap (λ us. follow us d) kept
        ∙ turn-follow ys (filter (is_of ys) whole) d (flat-Distinct k copies lt once) turn h;
  }
    where
      -- a dart of the whole list is of the class k exactly where it is one of the list at this place
      agrees : (y : ℕ) → Has y whole → (c : ℕ) → c ≡ k → eqb (class y) c ≡ has y (get_or copies k [])
      agrees y hy c same = ⊎_elim
          (λ t.
          let is : class y ≡ k = class_is k y lt (has_true y (get_or copies k []) t) hy in
          eq-eqb (class y) c (is ∙ sym same) ∙ sym t)
          (λ f. ne_eqb (class y) c (λ q. false≢true (sym f
          ∙ subst (λ i. has y (get_or copies i []) ≡ true) (q ∙ same)
          (class_by-passes is_of copies y (class_less y hy)))) ∙ sym f)
          (cases_Bool (has y (get_or copies k [])))

  -- taken apart the map can be flat
  pub taken_apart-CanBeFlat : CanBeFlat e (copies ++ rows)
  taken_apart-CanBeFlat = (
    apart.0,
    IsMapOf-other (2 * e) apart.0 (made.0 ++ rows) apart.1 (copies ++ rows)
        (λ d h. subst (Has d) (sym (flat-append made.0 rows)) (⊎_elim
        (λ k. Has-append_left d (flat made.0) (flat rows) (assembled_item whole made.0 d made.1 (copy_item d k)))
        (λ k. Has-append_right d (flat made.0) (flat rows) k)
        (Has-append_cases d (flat copies) (flat rows) (subst (Has d) (flat-append copies rows) h))))
        (λ d h. subst (Has d) (sym (flat-append copies rows)) (⊎_elim
        (λ k. Has-append_left d (flat copies) (flat rows) (all d (item_assembled whole made.0 d made.1 k)))
        (λ k. Has-append_right d (flat copies) (flat rows) k)
        (Has-append_cases d (flat made.0) (flat rows) (subst (Has d) (flat-append made.0 rows) h))))
        (subst Distinct (sym (flat-append copies rows))
        (Distinct-append (flat copies) (flat rows) once (Distinct-append_right whole (flat rows) can.1.once)
        (λ d h. Distinct-apart d whole (flat rows) can.1.once (copy_item d h))))
        (Rings-append apart.0 copies rows (rings_by_place apart.0 copies copy_ring)
        (Rings-append_right apart.0 made.0 rows apart.1.rings)),
    apart.2,
  )
