-- Vertices of different components made one vertex, whose list keeps the order of each without a crossing.
use Rattle.std.proofs.Common.{◌≡◌, ℕ, ◌<◌, ◌*◌, zero, suc, true, false, List, [], ◌∷◌, ◌++◌, length, get_or, refl, sym, ap, ◌∙◌, subst, inl, inr, ⊎_elim, arith}
use Rattle.std.proofs.lemmas.Bool.{cases_Bool, cond-false, cond-true, false≢true}
use Rattle.cp_lists.specs.Crossings.{NoCross}
use Rattle.cp_lists.specs.CyclicLists.{Distinct, Has}
use Rattle.cp_lists.specs.Rows.{flat}
use Rattle.cp_lists.proofs.DistinctLists.{Distinct-append, Distinct-append_right, Distinct-apart, Has-append_cases, Has-append_left, Has-append_right}
use Rattle.cp_lists.proofs.FlatLists.{Has-flat, flat-append}
use Rattle.cp_lists.proofs.Orders.{order_Has}
use Rattle.cp_lists.proofs.TurnedLists.{turn-sym}
use Rattle.std.specs.List.{filter}
use Rattle.cp_orbits.specs.Classes.{labels}
use Rattle.cp_maps.specs.Genus.{AllApart, Becomes, OnePart, linked}
use Rattle.cp_maps.specs.Gluings.{EachTurnOf}
use Rattle.cp_maps.specs.Maps.{IsMapOf, Ring, Rings, has, next_by}
use Rattle.cp_maps.proofs.AssembledVertices.{uncrossed_copies-SameGenus}
use Rattle.cp_maps.proofs.ListFacts.{below_item, has_true, has_yes}
use Rattle.cp_maps.proofs.MapLists.{IsMapOf-Permutes, IsMapOf-some}
use Rattle.cp_maps.proofs.Parts.{Ring-OnePart}
use Rattle.cp_maps.proofs.Rings.{Rings-append_left}
use Rattle.cp_mergelaw.specs.Sides.{EachList, IsMergeOf, RestrictsTo, class_by, is_of}
use Rattle.cp_mergelaw.proofs.ListClasses.{AllUncrossed-NoCross, class_by-is_of, class_by-passes}

-- lists of which the whole keeps the orders are turns of what it has of them
EachTurnOf-from : (whole : List ℕ) (rows : List (List ℕ)) → EachList (RestrictsTo whole) rows → EachTurnOf whole rows
EachTurnOf-from whole [] each = tt
EachTurnOf-from whole (xs ∷ rows) each =
    (turn-sym xs (filter (is_of xs) whole) each.0, EachTurnOf-from whole rows each.1)

-- the list at a place is a ring
Rings-at : (f : ℕ → ℕ) (rows : List (List ℕ)) (i : ℕ) → i < length rows → Rings f rows → Ring f (get_or rows i [])
Rings-at f [] i lt rings = absurd (omega arith)
Rings-at f (xs ∷ rows) zero lt rings = rings.0
Rings-at f (xs ∷ rows) (suc i) lt rings = Rings-at f rows i (omega arith) rings.1

-- of lists in different components two darts of one component are of one list
OnePart-class : (e : ℕ) (g : ℕ → ℕ) (rows : List (List ℕ)) (c d : ℕ) → AllApart e g rows → Has c (flat rows)
    → Has d (flat rows) → OnePart e g c d → class_by is_of rows c ≡ class_by is_of rows d
OnePart-class e g [] c d apart hc hd one = absurd hc
OnePart-class e g (xs ∷ rows) c d apart hc hd one = ⊎_elim
    (λ t. ⊎_elim
    (λ u. first c t ∙ sym (first d u))
    (λ u. absurd (apart.0 c d (has_true c xs t) (later d u hd) one))
    (cases_Bool (has d xs)))
    (λ t. ⊎_elim
    (λ u. absurd (apart.0 d c (has_true d xs u) (later c t hc) (sym one)))
    (λ u. behind c t ∙ ap suc (OnePart-class e g rows c d apart.1 (later c t hc) (later d u hd) one) ∙ sym (behind d u))
    (cases_Bool (has d xs)))
    (cases_Bool (has c xs))
  where
    first : (y : ℕ) → has y xs ≡ true → class_by is_of (xs ∷ rows) y ≡ 0
    first y t = cond-true (has y xs) 0 (suc (class_by is_of rows y)) t

    behind : (y : ℕ) → has y xs ≡ false → class_by is_of (xs ∷ rows) y ≡ suc (class_by is_of rows y)
    behind y u = cond-false (has y xs) 0 (suc (class_by is_of rows y)) u

    later : (y : ℕ) → has y xs ≡ false → Has y (xs ++ flat rows) → Has y (flat rows)
    later y u h =
        ⊎_elim (λ k. absurd (false≢true (sym u ∙ has_yes y xs k))) (λ k. k) (Has-append_cases y xs (flat rows) h)

-- vertices of different components, and a list that is put together of theirs
module _ (e : ℕ) (g : ℕ → ℕ) (whole : List ℕ) (copies rows : List (List ℕ)) (is : IsMapOf (2 * e) g (copies ++ rows))
    (apart : AllApart e g copies) (merge : IsMergeOf whole copies) (once : Distinct whole)
    (all : (d : ℕ) → Has d whole → Has d (flat copies)) where
  -- a dart of the copies is one of all
  somewhere : (d : ℕ) → Has d (flat copies) → Has d (flat (copies ++ rows))
  somewhere d h = subst (Has d) (sym (flat-append copies rows)) (Has-append_left d (flat copies) (flat rows) h)

  -- a dart of the list is of the class of one of the copies
  class_less : (d : ℕ) → Has d whole → class_by is_of copies d < length copies
  class_less d h = class_by-is_of copies d (all d h)

  -- two darts of one copy are of one component
  class-OnePart : (c d : ℕ) → Has c whole → Has d whole → class_by is_of copies c ≡ class_by is_of copies d
      → OnePart e g c d
  class-OnePart c d hc hd same =
      let i : ℕ = class_by is_of copies c in
      let xs : List ℕ = get_or copies i [] in
      Ring-OnePart e g (IsMapOf-Permutes (2 * e) g (copies ++ rows) is) xs
      (Rings-at g copies i (class_less c hc) (Rings-append_left g copies rows is.rings))
      (λ y h. below_item (2 * e) y (flat (copies ++ rows)) is.below
      (somewhere y (Has-flat y i copies (class_less c hc) h))) c d
      (has_true c xs (class_by-passes is_of copies c (class_less c hc)))
      (has_true d xs (subst (λ j. has d (get_or copies j []) ≡ true) (sym same)
      (class_by-passes is_of copies d (class_less d hd))))

  -- the components of its darts do not cross in the list
  parts-NoCross : NoCross (labels (linked g (2 * e) e)) whole
  parts-NoCross w x y z order one two =
      let item : (d : ℕ) → Has d (w ∷ x ∷ y ∷ z ∷ []) → Has d whole =
      λ d h. order_Has d (w ∷ x ∷ y ∷ z ∷ []) whole order h in
      let hw : Has w whole = item w (inl refl) in
      let hx : Has x whole = item x (inr (inl refl)) in
      let hy : Has y whole = item y (inr (inr (inl refl))) in
      let hz : Has z whole = item z (inr (inr (inr (inl refl)))) in
      class-OnePart w x hw hx
      (AllUncrossed-NoCross is_of whole copies merge.uncrossed class_less w x y z order
      (OnePart-class e g copies w y apart (all w hw) (all y hy) one)
      (OnePart-class e g copies x z apart (all x hx) (all z hz) two))

  -- the map with the vertices made one
  made : IsMapOf (2 * e) (next_by (whole ∷ rows)) (whole ∷ rows)
  made =
      let dis : Distinct (flat copies ++ flat rows) = subst Distinct (flat-append copies rows) is.once in
      IsMapOf-some (2 * e) g (copies ++ rows) (whole ∷ rows) is
      (Distinct-append whole (flat rows) once (Distinct-append_right (flat copies) (flat rows) dis)
      (λ d h. Distinct-apart d (flat copies) (flat rows) dis (all d h)))
      (λ d h. ⊎_elim
      (λ k. somewhere d (all d k))
      (λ k. subst (Has d) (sym (flat-append copies rows)) (Has-append_right d (flat copies) (flat rows) k))
      (Has-append_cases d whole (flat rows) h))

  -- vertices of different components can be made one vertex with this list: the genus stays
  pub merged_copies-Becomes : Becomes e g (whole ∷ rows)
  merged_copies-Becomes = (
    next_by (whole ∷ rows),
    made,
    uncrossed_copies-SameGenus e (next_by (whole ∷ rows)) g whole copies rows made is
        (record { turned = EachTurnOf-from whole copies merge.restricted; all = all }) apart parts-NoCross,
  )
