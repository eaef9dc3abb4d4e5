-- Lists of different classes one behind the other: no two classes stand crosswise, and what is kept of a class is its list.
use Rattle.std.proofs.Common.{◌≡◌, ◌≢◌, ℕ, zero, suc, ◌<◌, ◌⊎◌, Bool, false, eqb, List, [], ◌∷◌, ◌++◌, length, drop, take, filter, slice_index, sym, refl, ap, ◌∙◌, subst, inl, inr, ⊎_elim, arith, append-nil}
use Rattle.std.specs.Prelude.{slice_index_or}
use Rattle.std.specs.List.{AllByRecursion}
use Rattle.std.proofs.lemmas.Bool.{eq-eqb, ne_eqb}
use Rattle.std.proofs.lemmas.List.Elements.{filter-append}
use Rattle.cp_lists.specs.Crossings.{InOrder, NoCross}
use Rattle.cp_lists.specs.CyclicLists.{Distinct, Has, Lacks, head_or}
use Rattle.cp_lists.specs.Rows.{flat}
use Rattle.cp_lists.proofs.DistinctLists.{Distinct-append, Has-append_cases, Has_at, Lacks-from, has_lacks}
use Rattle.cp_lists.proofs.FilteredLists.{filter_all, filter_no}

-- what stands in order stands so behind one item more
InOrder-more : (ws : List ℕ) (x : ℕ) (xs : List ℕ) → InOrder ws xs → InOrder ws (x ∷ xs)
InOrder-more [] x xs h = tt
InOrder-more (w ∷ ws) x xs h = inr h

-- what stands in order is there
InOrder-Has : (ws xs : List ℕ) (a : ℕ) → InOrder ws xs → Has a ws → Has a xs
InOrder-Has [] xs a h m = absurd m
InOrder-Has (w ∷ ws) [] a h m = absurd h
InOrder-Has (w ∷ ws) (x ∷ xs) a h m = ⊎_elim
    (λ p. ⊎_elim (λ e. inl (p.0 ∙ e)) (λ k. inr (InOrder-Has ws xs a p.1 k)) m)
    (λ k. inr (InOrder-Has (w ∷ ws) xs a k m))
    h

-- items in order in two lists one behind the other: the first of them in the one, the others in the other
InOrder-cut : (ws xs ys : List ℕ) → InOrder ws (xs ++ ys)
    → (us : List ℕ) × (vs : List ℕ) × (ws ≡ us ++ vs) × InOrder us xs × InOrder vs ys
InOrder-cut ws [] ys h = ([], ws, refl, tt, h)
InOrder-cut [] (x ∷ xs) ys h = ([], [], refl, tt, tt)
InOrder-cut (w ∷ ws) (x ∷ xs) ys h = ⊎_elim
    (λ p. let r = InOrder-cut ws xs ys p.1 in (w ∷ r.0, r.1, ap (λ us. w ∷ us) r.2, inl (p.0, r.3), r.4))
    (λ k. let r = InOrder-cut (w ∷ ws) xs ys k in (r.0, r.1, r.2, InOrder-more r.0 x xs r.3, r.4))
    h

-- four of them: all in one list, or two of which one stands between the others are apart
order_cases : (w x y z : ℕ) (xs ys : List ℕ) → InOrder (w ∷ x ∷ y ∷ z ∷ []) (xs ++ ys)
    → (InOrder (w ∷ x ∷ y ∷ z ∷ []) xs ⊎ InOrder (w ∷ x ∷ y ∷ z ∷ []) ys)
    ⊎ ((Has w xs × Has y ys) ⊎ (Has x xs × Has z ys))
order_cases w x y z xs ys h =
    let r = InOrder-cut (w ∷ x ∷ y ∷ z ∷ []) xs ys h in by_parts r.0 r.1 r.2 r.3 r.4
  where
    -- the cases by how many of the four stand in the first list
    by_parts : (us vs : List ℕ) → w ∷ x ∷ y ∷ z ∷ [] ≡ us ++ vs → InOrder us xs → InOrder vs ys
        → (InOrder (w ∷ x ∷ y ∷ z ∷ []) xs ⊎ InOrder (w ∷ x ∷ y ∷ z ∷ []) ys)
        ⊎ ((Has w xs × Has y ys) ⊎ (Has x xs × Has z ys))
    by_parts [] vs e hu hv = inl (inr (subst (λ l. InOrder l ys) (sym e) hv))
    by_parts (a ∷ []) vs e hu hv = inr (inl (
      InOrder-Has (a ∷ []) xs w hu (inl (sym (ap (head_or 0) e))),
      InOrder-Has vs ys y hv (subst (Has y) (ap (drop 1) e) (inr (inl refl))),
    ))
    by_parts (a ∷ b ∷ []) vs e hu hv = inr (inl (
      InOrder-Has (a ∷ b ∷ []) xs w hu (inl (sym (ap (head_or 0) e))),
      InOrder-Has vs ys y hv (subst (Has y) (ap (drop 2) e) (inl refl)),
    ))
    by_parts (a ∷ b ∷ c ∷ []) vs e hu hv = inr (inr (
      InOrder-Has (a ∷ b ∷ c ∷ []) xs x hu (inr (inl (sym (ap (λ l. head_or 0 (drop 1 l)) e)))),
      InOrder-Has vs ys z hv (subst (Has z) (ap (drop 3) e) (inl refl)),
    ))
    by_parts (a ∷ b ∷ c ∷ d ∷ []) vs e hu hv = inl (inl (subst (λ l. InOrder l xs) (sym (ap (take 4) e)) hu))
    by_parts (a ∷ b ∷ c ∷ d ∷ f ∷ us) vs e hu hv =
        let size = ap length e in absurd (omega (arith, size))

-- where no item passes a test nothing is kept
pub filter_none : (p : ℕ → Bool) (xs : List ℕ) → ((x : ℕ) → Has x xs → p x ≡ false) → filter p xs ≡ []
filter_none p [] fails = refl
filter_none p (x ∷ xs) fails =
    filter_no p x xs (fails x (inl refl)) ∙ filter_none p xs (λ y h. fails y (inr h))

module _ (class : ℕ → ℕ) where
  -- no two classes stand crosswise in a list of one class
  NoCross-one : (c : ℕ) (xs : List ℕ) → ((x : ℕ) → Has x xs → class x ≡ c) → NoCross class xs
  NoCross-one c xs one w x y z h first second =
      one w (InOrder-Has (w ∷ x ∷ y ∷ z ∷ []) xs w h (inl refl))
      ∙ sym (one x (InOrder-Has (w ∷ x ∷ y ∷ z ∷ []) xs x h (inr (inl refl))))

  -- nor in two lists without a common class, one behind the other
  NoCross-append : (xs ys : List ℕ) → ((x y : ℕ) → Has x xs → Has y ys → class x ≢ class y) → NoCross class xs
      → NoCross class ys
      → NoCross class (xs ++ ys)
  NoCross-append xs ys apart nx ny w x y z h first second = ⊎_elim
      (λ one. ⊎_elim (λ a. nx w x y z a first second) (λ b. ny w x y z b first second) one)
      (λ two. ⊎_elim
      (λ p. absurd (apart w y p.0 p.1 first))
      (λ q. absurd (apart x z q.0 q.1 second))
      two)
      (order_cases w x y z xs ys h)

  -- a list of items of each class
  abbrev pub AreOfClasses : List ℕ → List (List ℕ) → Type 0
  AreOfClasses [] [] = Unit {0}
  AreOfClasses [] (xs ∷ rows) = ⊥
  AreOfClasses (c ∷ cs) [] = ⊥
  AreOfClasses (c ∷ cs) (xs ∷ rows) = ((x : ℕ) → Has x xs → class x ≡ c) × AreOfClasses cs rows

  -- an item of the lists of some classes is of one of them
  item_class : (cs : List ℕ) (rows : List (List ℕ)) (x : ℕ) → AreOfClasses cs rows → Has x (flat rows) → Has (class x) cs
  item_class [] [] x own h = absurd h
  item_class [] (xs ∷ rows) x own h = absurd own
  item_class (c ∷ cs) [] x own h = absurd own
  item_class (c ∷ cs) (xs ∷ rows) x own h = ⊎_elim
      (λ a. inl (sym (own.0 x a)))
      (λ b. inr (item_class cs rows x own.1 b))
      (Has-append_cases x xs (flat rows) h)

  -- no two classes stand crosswise in the lists of different classes, one behind the other
  pub joined-NoCross : (cs : List ℕ) (rows : List (List ℕ)) → AreOfClasses cs rows → Distinct cs → NoCross class (flat rows)
  joined-NoCross [] [] own once = λ w x y z h first second. absurd h
  joined-NoCross [] (xs ∷ rows) own once = absurd own
  joined-NoCross (c ∷ cs) [] own once = absurd own
  joined-NoCross (c ∷ cs) (xs ∷ rows) own once =
      NoCross-append xs (flat rows)
      (λ x y hx hy same. has_lacks c cs
      (subst (λ k. Has k cs) (sym same ∙ own.0 x hx) (item_class cs rows y own.1 hy)) once.0)
      (NoCross-one c xs own.0) (joined-NoCross cs rows own.1 once.1)

  -- no item stands twice in them where none does in one of them
  pub joined-Distinct : (cs : List ℕ) (rows : List (List ℕ)) → AreOfClasses cs rows → Distinct cs
      → AllByRecursion Distinct rows
      → Distinct (flat rows)
  joined-Distinct [] [] own once each = tt
  joined-Distinct [] (xs ∷ rows) own once each = absurd own
  joined-Distinct (c ∷ cs) [] own once each = absurd own
  joined-Distinct (c ∷ cs) (xs ∷ rows) own once each =
      Distinct-append xs (flat rows) each.0 (joined-Distinct cs rows own.1 once.1 each.1)
      (λ x h. Lacks-from x (flat rows) (λ k. has_lacks c cs
      (subst (λ j. Has j cs) (own.0 x h) (item_class cs rows x own.1 k)) once.0))

  -- nothing is kept of a class that is none of them
  none_kept : (c : ℕ) (cs : List ℕ) (rows : List (List ℕ)) → AreOfClasses cs rows → Lacks c cs
      → filter (λ x. eqb (class x) c) (flat rows) ≡ []
  none_kept c cs rows own lacks = filter_none (λ x. eqb (class x) c) (flat rows)
      (λ x h. ne_eqb (class x) c (λ e. has_lacks c cs (subst (λ k. Has k cs) e (item_class cs rows x own h)) lacks))

  -- of each of them its list is kept
  pub joined-kept : (cs : List ℕ) (rows : List (List ℕ)) (k : ℕ) → AreOfClasses cs rows → Distinct cs → k < length cs
      → filter (λ x. eqb (class x) (slice_index cs k)) (flat rows) ≡ slice_index_or rows k []
  joined-kept [] rows k own once lt = absurd (omega (arith, lt))
  joined-kept (c ∷ cs) [] k own once lt = absurd own
  joined-kept (c ∷ cs) (xs ∷ rows) zero own once lt =
      let p = λ (x : ℕ). eqb (class x) c in
      filter-append p xs (flat rows)
      ∙ ap (λ ys. ys ++ filter p (flat rows)) (filter_all p xs (λ x m. eq-eqb (class x) c (own.0 x m)))
      ∙ ap (λ ys. xs ++ ys) (none_kept c cs rows own.1 once.0)
      ∙ append-nil xs
  joined-kept (c ∷ cs) (xs ∷ rows) (suc k) own once lt =
      let d = slice_index cs k in
      let p = λ (x : ℕ). eqb (class x) d in
      let other : c ≢ d = λ e. has_lacks d cs (Has_at cs k (omega (arith, lt))) (subst (λ j. Lacks j cs) e once.0) in
      filter-append p xs (flat rows)
      ∙ ap (λ ys. ys ++ filter p (flat rows))
      (filter_none p xs (λ x m. ne_eqb (class x) d (λ e. other (sym (own.0 x m) ∙ e))))
      ∙ joined-kept cs rows k own.1 once.1 (omega (arith, lt))
