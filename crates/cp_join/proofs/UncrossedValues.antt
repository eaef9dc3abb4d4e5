-- Lists that keep the order of a whole list, and that a value which does not cross in it tells apart.
use Rattle.std.proofs.Common.{◌≡◌, ◌≢◌, ℕ, zero, suc, ◌<◌, true, false, eqb, List, [], ◌∷◌, ◌++◌, length, get_or, sym, refl, ap, ◌∙◌, subst, inl, inr, ⊎_elim, arith}
use Rattle.std.proofs.lemmas.Bool.{cases_Bool, cond-false, cond-true, eq-eqb, false≢true}
use Rattle.cp_lists.specs.Crossings.{NoCross}
use Rattle.cp_lists.specs.CyclicLists.{Has}
use Rattle.cp_lists.specs.Rows.{flat}
use Rattle.cp_lists.proofs.Crossings.{Crosses-weaker, NoCross-uncrossed}
use Rattle.cp_lists.proofs.DistinctLists.{Has-append_cases, Has-append_left, Has-append_right}
use Rattle.cp_lists.proofs.Orders.{order_Has}
use Rattle.cp_maps.specs.Maps.{has}
use Rattle.cp_maps.proofs.ListFacts.{has_true, has_yes}
use Rattle.cp_mergelaw.specs.Sides.{AllUncrossed, EachList, IsMergeOf, RestrictsTo, Uncrossed, class_by, is_of}
use Rattle.cp_mergelaw.proofs.ListClasses.{AllUncrossed-NoCross, class_by-is_of, class_by-passes}
use Rattle.cp_join.proofs.CopiesApart.{HasOneValue, HaveOtherValues}

module _ (value : ℕ → ℕ) (whole : List ℕ) (apart : NoCross value whole) where
  -- two lists of different values do not cross
  two_values-Uncrossed : (xs ys : List ℕ) → HasOneValue value xs → HasOneValue value ys
      → ((c d : ℕ) → Has c xs → Has d ys → value c ≢ value d) → Uncrossed is_of whole xs ys
  two_values-Uncrossed xs ys one two other cross =
      let first : Has cross.first xs = has_true cross.first xs cross.first_passes in
      let second : Has cross.second ys = has_true cross.second ys cross.second_passes in
      NoCross-uncrossed value whole (value cross.first) (value cross.second) apart
      (other cross.first cross.second first second)
      (Crosses-weaker (is_of xs) (is_of ys) (λ d. eqb (value d) (value cross.first))
      (λ d. eqb (value d) (value cross.second)) whole
      (λ x h t. eq-eqb (value x) (value cross.first) (one x cross.first (has_true x xs t) first))
      (λ x h t. eq-eqb (value x) (value cross.second) (two x cross.second (has_true x ys t) second)) cross)

  -- one list crosses none of those behind it
  one_by_one : (xs : List ℕ) (rows : List (List ℕ)) → HasOneValue value xs → EachList (HasOneValue value) rows
      → ((c d : ℕ) → Has c xs → Has d (flat rows) → value c ≢ value d) → EachList (Uncrossed is_of whole xs) rows
  one_by_one xs [] one each other = tt
  one_by_one xs (ys ∷ rows) one each other = (
    two_values-Uncrossed xs ys one each.0 (λ c d hc hd. other c d hc (Has-append_left d ys (flat rows) hd)),
    one_by_one xs rows one each.1 (λ c d hc hd. other c d hc (Has-append_right d ys (flat rows) hd)),
  )

  -- no two of the lists cross
  all_values-AllUncrossed : (rows : List (List ℕ)) → EachList (HasOneValue value) rows → HaveOtherValues value rows
      → AllUncrossed is_of whole rows
  all_values-AllUncrossed [] each other = tt
  all_values-AllUncrossed (xs ∷ rows) each other =
      (one_by_one xs rows each.0 each.1 other.0, all_values-AllUncrossed rows each.1 other.1)

  -- a list is put together of lists whose order it keeps and that the value tells apart
  pub values-IsMergeOf : (rows : List (List ℕ)) → EachList (RestrictsTo whole) rows → EachList (HasOneValue value) rows
      → HaveOtherValues value rows → IsMergeOf whole rows
  values-IsMergeOf rows restricted each other =
      record { restricted = restricted; uncrossed = all_values-AllUncrossed rows each other }

-- the other way round: a value that is one on each of the lists, and another on each
module _ (value : ℕ → ℕ) where
  -- darts of one value are in one list
  value-class : (rows : List (List ℕ)) (c d : ℕ) → HaveOtherValues value rows → Has c (flat rows) → Has d (flat rows)
      → value c ≡ value d → class_by is_of rows c ≡ class_by is_of rows d
  value-class [] c d other hc hd same = absurd hc
  value-class (xs ∷ rows) c d other hc hd same = ⊎_elim
      (λ tc. ⊎_elim
      (λ td. at_first c tc ∙ sym (at_first d td))
      (λ fd. absurd (other.0 c d (has_true c xs tc) (behind d fd hd) same))
      (cases_Bool (has d xs)))
      (λ fc. ⊎_elim
      (λ td. absurd (other.0 d c (has_true d xs td) (behind c fc hc) (sym same)))
      (λ fd. later c fc
      ∙ ap suc (value-class rows c d other.1 (behind c fc hc) (behind d fd hd) same) ∙ sym (later d fd))
      (cases_Bool (has d xs)))
      (cases_Bool (has c xs))
    where
      at_first : (y : ℕ) → has y xs ≡ true → class_by is_of (xs ∷ rows) y ≡ 0
      at_first y t = cond-true (has y xs) 0 (suc (class_by is_of rows y)) t

      later : (y : ℕ) → has y xs ≡ false → class_by is_of (xs ∷ rows) y ≡ suc (class_by is_of rows y)
      later y t = cond-false (has y xs) 0 (suc (class_by is_of rows y)) t

      behind : (y : ℕ) → has y xs ≡ false → Has y (xs ++ flat rows) → Has y (flat rows)
      behind y t h =
          ⊎_elim (λ k. absurd (false≢true (sym t ∙ has_yes y xs k))) (λ k. k) (Has-append_cases y xs (flat rows) h)

  -- and darts of one list have one value
  at_place : (rows : List (List ℕ)) (k : ℕ) → k < length rows → EachList (HasOneValue value) rows
      → HasOneValue value (get_or rows k [])
  at_place [] k lt each = absurd (omega (arith, lt))
  at_place (xs ∷ rows) zero lt each = each.0
  at_place (xs ∷ rows) (suc k) lt each = at_place rows k (omega (arith, lt)) each.1

  -- and darts at one place have one value
  class-value : (rows : List (List ℕ)) (c d : ℕ) → EachList (HasOneValue value) rows → Has c (flat rows)
      → Has d (flat rows) → class_by is_of rows c ≡ class_by is_of rows d → value c ≡ value d
  class-value rows c d each hc hd same =
      at_place rows (class_by is_of rows c) (class_by-is_of rows c hc) each c d
      (has_true c (get_or rows (class_by is_of rows c) []) (class_by-passes is_of rows c (class_by-is_of rows c hc)))
      (has_true d (get_or rows (class_by is_of rows c) [])
      (subst (λ k. has d (get_or rows k []) ≡ true) (sym same)
      (class_by-passes is_of rows d (class_by-is_of rows d hd))))

  -- in a list that is put together of the lists the value does not cross
  pub IsMergeOf-NoCross : (whole : List ℕ) (rows : List (List ℕ)) → IsMergeOf whole rows
      → ((d : ℕ) → Has d whole → Has d (flat rows)) → EachList (HasOneValue value) rows → HaveOtherValues value rows
      → NoCross value whole
  IsMergeOf-NoCross whole rows merge all each other w x y z order wy xz =
      let item : (d : ℕ) → Has d (w ∷ x ∷ y ∷ z ∷ []) → Has d (flat rows) =
      λ d h. all d (order_Has d (w ∷ x ∷ y ∷ z ∷ []) whole order h) in
      let hw = item w (inl refl) in
      let hx = item x (inr (inl refl)) in
      let hy = item y (inr (inr (inl refl))) in
      let hz = item z (inr (inr (inr (inl refl)))) in
      class-value rows w x each hw hx
      (AllUncrossed-NoCross is_of whole rows merge.uncrossed (λ d h. class_by-is_of rows d (all d h)) w x y z order
      (value-class rows w y other hw hy wy) (value-class rows x z other hx hz xz))
