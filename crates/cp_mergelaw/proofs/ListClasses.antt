-- Lists of which no two cross in a whole list, as classes that do not cross.
use Rattle.std.proofs.Common.{◌≡◌, ◌≢◌, ◌⊎◌, ℕ, ◌<◌, zero, suc, Bool, true, List, [], ◌∷◌, ◌++◌, length, get_or, refl, sym, ap, ◌∙◌, subst, inl, inr, ⊎_elim, cond, eqb, arith}
use Rattle.std.proofs.lemmas.Bool.{cases_Bool, cond-false, cond-true, eqb-true, false≢true}
use Rattle.cp_lists.specs.Crossings.{Crosses, NoCross}
use Rattle.cp_lists.specs.CyclicLists.{Has}
use Rattle.cp_lists.proofs.Crossings.{Crosses-swap, Crosses-weaker, NoCross-from, parts_of_Crosses}
use Rattle.cp_lists.specs.Rows.{flat}
use Rattle.cp_lists.proofs.DistinctLists.{Has-append_cases, Has-append_right}
use Rattle.cp_faces.specs.Twins.{twin}
use Rattle.cp_maps.specs.Maps.{has}
use Rattle.cp_maps.proofs.ListFacts.{has_yes}
use Rattle.cp_lists.proofs.TurnedLists.{Has-of_turn}
use Rattle.cp_mergelaw.specs.Sides.{AllUncrossed, EachList, Uncrossed, class_by, is_of, leads_to}

-- a property of each list is one of the list at a place
EachList-at : (good : List ℕ → Type 0) (rows : List (List ℕ)) (i : ℕ) → i < length rows → EachList good rows
    → good (get_or rows i [])
EachList-at good [] i lt each = absurd (omega arith)
EachList-at good (xs ∷ rows) zero lt each = each.0
EachList-at good (xs ∷ rows) (suc i) lt each = EachList-at good rows i (omega arith) each.1

-- of lists of which no two cross those at two places do not
AllUncrossed-at : (test : List ℕ → ℕ → Bool) (whole : List ℕ) (rows : List (List ℕ)) (i j : ℕ) → i < j
    → j < length rows → AllUncrossed test whole rows → Uncrossed test whole (get_or rows i []) (get_or rows j [])
AllUncrossed-at test whole [] i j less lt apart = absurd (omega arith)
AllUncrossed-at test whole (xs ∷ rows) i zero less lt apart = absurd (omega arith)
AllUncrossed-at test whole (xs ∷ rows) zero (suc j) less lt apart =
    EachList-at (Uncrossed test whole xs) rows j (omega arith) apart.0
AllUncrossed-at test whole (xs ∷ rows) (suc i) (suc j) less lt apart =
    AllUncrossed-at test whole rows i j (omega arith) (omega arith) apart.1

-- an item passes the test of the list at the place of its class
pub class_by-passes : (test : List ℕ → ℕ → Bool) (rows : List (List ℕ)) (d : ℕ) → class_by test rows d < length rows
    → test (get_or rows (class_by test rows d) []) d ≡ true
class_by-passes test [] d lt = absurd (omega arith)
class_by-passes test (xs ∷ rows) d lt = ⊎_elim
    (λ t. subst (λ i. test (get_or (xs ∷ rows) i []) d ≡ true) (sym (cond-true (test xs d) 0 (suc later) t)) t)
    (λ f. let here : class_by test (xs ∷ rows) d ≡ suc later = cond-false (test xs d) 0 (suc later) f in
    subst (λ i. test (get_or (xs ∷ rows) i []) d ≡ true) (sym here)
    (class_by-passes test rows d (omega (arith, here, lt))))
    (cases_Bool (test xs d))
  where
    later : ℕ
    later = class_by test rows d

-- classes of items of which no two lists cross do not cross
module _ (test : List ℕ → ℕ → Bool) (whole : List ℕ) (rows : List (List ℕ)) (apart : AllUncrossed test whole rows)
    (each : (d : ℕ) → Has d whole → class_by test rows d < length rows) where
  -- the class
  abbrev class : ℕ → ℕ
  class d = class_by test rows d

  -- two classes do not cross
  classes-Uncrossed : (k m : ℕ) → k < m → Crosses (λ d. eqb (class d) k) (λ d. eqb (class d) m) whole → ⊥
  classes-Uncrossed k m less cross =
      let lt : m < length rows = subst (λ i. i < length rows) (eqb-true (class cross.second) m cross.second_passes)
      (each cross.second (second_item k m cross)) in
      AllUncrossed-at test whole rows k m less lt apart
      (Crosses-weaker (λ d. eqb (class d) k) (λ d. eqb (class d) m) (test (get_or rows k [])) (test (get_or rows m []))
      whole (λ d h t. passes k d h t) (λ d h t. passes m d h t) cross)
    where
      passes : (i d : ℕ) → Has d whole → eqb (class d) i ≡ true → test (get_or rows i []) d ≡ true
      passes i d h t = subst (λ j. test (get_or rows j []) d ≡ true) (eqb-true (class d) i t)
          (class_by-passes test rows d (each d h))

      second_item : (i j : ℕ) (c : Crosses (λ d. eqb (class d) i) (λ d. eqb (class d) j) whole) → Has c.second whole
      second_item i j c =
          let w = parts_of_Crosses (λ d. eqb (class d) i) (λ d. eqb (class d) j) whole c in
          Has-of_turn whole (c.first ∷ (w.0 ++ c.second ∷ (w.1 ++ c.third ∷ (w.2 ++ c.fourth ∷ w.3)))) c.second w.4
          (inr (Has-append_right c.second w.0 (c.second ∷ (w.1 ++ c.third ∷ (w.2 ++ c.fourth ∷ w.3))) (inl refl)))

  -- so no two do
  pub AllUncrossed-NoCross : NoCross (class_by test rows) whole
  AllUncrossed-NoCross = NoCross-from class whole (λ k m ne cross. ⊎_elim
      (λ less. classes-Uncrossed k m less cross)
      (λ less. classes-Uncrossed m k less (Crosses-swap (λ d. eqb (class d) k) (λ d. eqb (class d) m) whole cross))
      (less_or_more k m ne))
    where
      less_or_more : (k m : ℕ) → k ≢ m → (k < m) ⊎ (m < k)
      less_or_more zero zero ne = absurd (ne refl)
      less_or_more zero (suc m) ne = inl (omega arith)
      less_or_more (suc k) zero ne = inr (omega arith)
      less_or_more (suc k) (suc m) ne = ⊎_elim (λ l. inl (omega arith)) (λ l. inr (omega arith))
          (less_or_more k m (λ e. ne (ap suc e)))

-- an item of one of the lists has the class of one
pub class_by-is_of : (rows : List (List ℕ)) (d : ℕ) → Has d (flat rows) → class_by is_of rows d < length rows
class_by-is_of [] d h = absurd h
class_by-is_of (xs ∷ rows) d h = ⊎_elim
    (λ t. let here : class_by is_of (xs ∷ rows) d ≡ 0 = cond-true (has d xs) 0 (suc (class_by is_of rows d)) t in
    omega (arith, here))
    (λ f. let here : class_by is_of (xs ∷ rows) d ≡ suc (class_by is_of rows d) =
    cond-false (has d xs) 0 (suc (class_by is_of rows d)) f in
    let lt : class_by is_of rows d < length rows = class_by-is_of rows d (⊎_elim
    (λ k. absurd (false≢true (sym f ∙ has_yes d xs k))) (λ k. k) (Has-append_cases d xs (flat rows) h)) in
    omega (arith, here, lt))
    (cases_Bool (has d xs))

-- an item whose twin is one of one of the lists has the class of one
pub class_by-leads_to : (rows : List (List ℕ)) (d : ℕ) → Has (twin d) (flat rows)
    → class_by leads_to rows d < length rows
class_by-leads_to rows d h =
    subst (λ i. i < length rows) (sym (same rows)) (class_by-is_of rows (twin d) h)
  where
    same : (rows : List (List ℕ)) → class_by leads_to rows d ≡ class_by is_of rows (twin d)
    same [] = refl
    same (xs ∷ rows) = ap (λ i. cond (has (twin d) xs) 0 (suc i)) (same rows)
