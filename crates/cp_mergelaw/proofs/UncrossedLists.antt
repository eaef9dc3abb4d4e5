-- Lists that do not stand crosswise in a whole list, which keeps their orders.
use Rattle.std.proofs.Common.{◌≡◌, ℕ, Bool, true, false, List, [], ◌∷◌, ◌++◌, append-nil, sym, refl, ap, ap₂, ◌∙◌, subst, inl, inr, ⊎_elim, drop, cond, eqb, arith}
use Rattle.std.proofs.lemmas.Bool.{cond-false, cond-true, false≢true, cases_Bool, eq-eqb}
use Rattle.std.specs.List.{filter}
use Rattle.std.proofs.lemmas.List.Elements.{filter-append}
use Rattle.cp_lists.specs.Crossings.{Crosses, InOrder, NoCross}
use Rattle.cp_lists.specs.CyclicLists.{Distinct, Has, head_or}
use Rattle.cp_lists.specs.Turns.{IsTurn}
use Rattle.cp_lists.proofs.Crossings.{Crosses-from_parts, Crosses-swap, Crosses-turn, Crosses-weaker, NoCross-uncrossed, parts_of_Crosses}
use Rattle.cp_lists.proofs.DistinctLists.{Distinct-apart, Has-append_cases, Lacks-from, has_lacks}
use Rattle.cp_lists.proofs.FilteredLists.{filter-Has, filter_all, filter_no, filter_yes}
use Rattle.cp_lists.proofs.Orders.{order_Has, order_split}
use Rattle.cp_lists.proofs.TurnedLists.{Has-of_turn, turn-Has, turn-filter, turn-sym, turn-trans}
use Rattle.cp_maps.specs.Maps.{has}
use Rattle.cp_maps.proofs.ListFacts.{has_no, has_true, has_yes}
use Rattle.cp_mergelaw.specs.Sides.{AllUncrossed, EachList, RestrictsTo, Uncrossed, is_of}

-- where no item passes, nothing is kept
pub filter_none : (p : ℕ → Bool) (xs : List ℕ) → ((d : ℕ) → Has d xs → p d ≡ false) → filter p xs ≡ []
filter_none p [] none = refl
filter_none p (x ∷ xs) none = filter_no p x xs (none x (inl refl)) ∙ filter_none p xs (λ d h. none d (inr h))

-- a test within another leaves of what the other keeps what it leaves of the list
pub filter_within : (p q : ℕ → Bool) (xs : List ℕ) → ((d : ℕ) → p d ≡ true → q d ≡ true)
    → filter p (filter q xs) ≡ filter p xs
filter_within p q [] le = refl
filter_within p q (x ∷ xs) le = ⊎_elim
    (λ t. ap (filter p) (filter_yes q x xs (le x t)) ∙ filter_yes p x (filter q xs) t
    ∙ ap (λ ws. x ∷ ws) (filter_within p q xs le) ∙ sym (filter_yes p x xs t))
    (λ t. ⊎_elim
    (λ u. ap (filter p) (filter_yes q x xs u) ∙ filter_no p x (filter q xs) t ∙ filter_within p q xs le
    ∙ sym (filter_no p x xs t))
    (λ u. ap (filter p) (filter_no q x xs u) ∙ filter_within p q xs le ∙ sym (filter_no p x xs t))
    (cases_Bool (q x)))
    (cases_Bool (p x))

-- a list keeps its own order
pub RestrictsTo-refl : (xs : List ℕ) → RestrictsTo xs xs
RestrictsTo-refl xs = (0, omega arith, filter_all (is_of xs) xs (λ d h. has_yes d xs h) ∙ sym (append-nil xs))

-- an item of a list of which the whole keeps the order is one of the whole
pub RestrictsTo-Has : (whole xs : List ℕ) (d : ℕ) → RestrictsTo whole xs → Has d xs → Has d whole
RestrictsTo-Has whole xs d r h = (filter-Has (is_of xs) d whole (turn-Has xs (filter (is_of xs) whole) d r h)).0

-- what keeps an order that keeps another keeps the other
pub RestrictsTo-trans : (whole mid xs : List ℕ) → RestrictsTo whole mid → RestrictsTo mid xs → RestrictsTo whole xs
RestrictsTo-trans whole mid xs a b =
    turn-trans xs (filter (is_of xs) mid) (filter (is_of xs) whole) b
    (subst (IsTurn (filter (is_of xs) mid))
    (filter_within (is_of xs) (is_of mid) whole
    (λ d t. has_yes d mid (RestrictsTo-Has mid xs d b (has_true d xs t))))
    (turn-filter (is_of xs) mid (filter (is_of mid) whole) a))

-- two lists, each turned, one behind the other
module _ (xs ys us vs : List ℕ) (one : IsTurn xs us) (two : IsTurn ys vs) (dis : Distinct (us ++ vs)) where
  -- an item of the first part is none of the second list
  first_apart : (d : ℕ) → Has d us → has d ys ≡ false
  first_apart d h =
      has_no d ys (Lacks-from d ys (λ k. has_lacks d vs (turn-Has ys vs d two k) (Distinct-apart d us vs dis h)))

  -- an item of the second part is none of the first list
  second_apart : (d : ℕ) → Has d vs → has d xs ≡ false
  second_apart d h =
      has_no d xs (Lacks-from d xs (λ k. has_lacks d vs h (Distinct-apart d us vs dis (turn-Has xs us d one k))))

  -- the order of the first is kept
  pub appended-RestrictsTo_first : RestrictsTo (us ++ vs) xs
  appended-RestrictsTo_first = subst (IsTurn xs) (sym (filter-append (is_of xs) us vs
      ∙ ap₂ (λ gs hs. gs ++ hs)
      (filter_all (is_of xs) us (λ d h. has_yes d xs (Has-of_turn xs us d one h)))
      (filter_none (is_of xs) vs second_apart)
      ∙ append-nil us)) one

  -- and that of the second
  pub appended-RestrictsTo_second : RestrictsTo (us ++ vs) ys
  appended-RestrictsTo_second = subst (IsTurn ys) (sym (filter-append (is_of ys) us vs
      ∙ ap₂ (λ gs hs. gs ++ hs)
      (filter_none (is_of ys) us first_apart)
      (filter_all (is_of ys) vs (λ d h. has_yes d ys (Has-of_turn ys vs d two h))))) two

-- a value that tells the parts of a list does not cross itself
parts-NoCross : (class : ℕ → ℕ) (us vs : List ℕ) → ((d : ℕ) → Has d us → class d ≡ 0)
    → ((d : ℕ) → Has d vs → class d ≡ 1) → NoCross class (us ++ vs)
parts-NoCross class us vs on_us on_vs w x y z order one two =
    let s = order_split (w ∷ x ∷ y ∷ z ∷ []) us vs order in parts s.0 s.1 s.2 s.3 s.4
  where
    parts : (gs hs : List ℕ) → w ∷ x ∷ y ∷ z ∷ [] ≡ gs ++ hs → InOrder gs us → InOrder hs vs → class w ≡ class x
    parts [] hs e a b =
        let in_vs : (d : ℕ) → Has d (w ∷ x ∷ y ∷ z ∷ []) → class d ≡ 1 =
        λ d h. on_vs d (order_Has d hs vs b (subst (Has d) e h)) in
        in_vs w (inl refl) ∙ sym (in_vs x (inr (inl refl)))
    parts (p ∷ []) hs e a b =
        let rest : (d : ℕ) → Has d (x ∷ y ∷ z ∷ []) → class d ≡ 1 =
        λ d h. on_vs d (order_Has d hs vs b (subst (Has d) (ap (drop 1) e) h)) in
        one ∙ rest y (inr (inl refl)) ∙ sym (rest x (inl refl))
    parts (p ∷ q ∷ gs) hs e a b =
        let in_us : (d : ℕ) → Has d (p ∷ q ∷ gs) → class d ≡ 0 = λ d h. on_us d (order_Has d (p ∷ q ∷ gs) us a h) in
        in_us w (inl (sym (ap (head_or w) e)))
        ∙ sym (in_us x (inr (inl (sym (ap (λ l. head_or w (drop 1 l)) e)))))

-- two lists, each turned and one behind the other, are not crossed
pub appended-Uncrossed : (xs ys us vs : List ℕ) → IsTurn xs us → IsTurn ys vs → Distinct (us ++ vs)
    → Uncrossed is_of (us ++ vs) xs ys
appended-Uncrossed xs ys us vs one two dis cross =
    NoCross-uncrossed class (us ++ vs) 0 1 (parts-NoCross class us vs on_us on_vs) (λ e. omega arith)
    (Crosses-weaker (is_of xs) (is_of ys) (λ d. eqb (class d) 0) (λ d. eqb (class d) 1) (us ++ vs)
    (λ d h t. eq-eqb (class d) 0 (cond-true (has d xs) 0 1 t))
    (λ d h t. eq-eqb (class d) 1 (⊎_elim
    (λ k. absurd (false≢true (sym (first_apart xs ys us vs one two dis d k) ∙ t)))
    (λ k. on_vs d k)
    (Has-append_cases d us vs h))) cross)
  where
    class : ℕ → ℕ
    class d = cond (has d xs) 0 1

    on_us : (d : ℕ) → Has d us → class d ≡ 0
    on_us d h = cond-true (has d xs) 0 1 (has_yes d xs (Has-of_turn xs us d one h))

    on_vs : (d : ℕ) → Has d vs → class d ≡ 1
    on_vs d h = cond-false (has d xs) 0 1 (second_apart xs ys us vs one two dis d h)

-- what stands crosswise does so among the items that a weaker test keeps
pub Crosses-filter : (r p q : ℕ → Bool) (xs : List ℕ) → ((d : ℕ) → p d ≡ true → r d ≡ true)
    → ((d : ℕ) → q d ≡ true → r d ≡ true) → Crosses p q xs → Crosses p q (filter r xs)
Crosses-filter r p q xs one two cross =
    let w = parts_of_Crosses p q xs cross in
    let a : ℕ = cross.first in
    let b : ℕ = cross.second in
    let c : ℕ = cross.third in
    let d : ℕ = cross.fourth in
    let kept : List ℕ → List ℕ = filter r in
    let last : kept (d ∷ w.3) ≡ d ∷ kept w.3 = filter_yes r d w.3 (two d cross.fourth_passes) in
    let third : kept (c ∷ (w.2 ++ d ∷ w.3)) ≡ c ∷ (kept w.2 ++ d ∷ kept w.3) =
    filter_yes r c (w.2 ++ d ∷ w.3) (one c cross.third_passes)
    ∙ ap (λ zs. c ∷ zs) (filter-append r w.2 (d ∷ w.3) ∙ ap (λ zs. kept w.2 ++ zs) last) in
    let second : kept (b ∷ (w.1 ++ c ∷ (w.2 ++ d ∷ w.3))) ≡ b ∷ (kept w.1 ++ c ∷ (kept w.2 ++ d ∷ kept w.3)) =
    filter_yes r b (w.1 ++ c ∷ (w.2 ++ d ∷ w.3)) (two b cross.second_passes)
    ∙ ap (λ zs. b ∷ zs) (filter-append r w.1 (c ∷ (w.2 ++ d ∷ w.3)) ∙ ap (λ zs. kept w.1 ++ zs) third) in
    let first : kept (a ∷ (w.0 ++ b ∷ (w.1 ++ c ∷ (w.2 ++ d ∷ w.3))))
    ≡ a ∷ (kept w.0 ++ b ∷ (kept w.1 ++ c ∷ (kept w.2 ++ d ∷ kept w.3))) =
    filter_yes r a (w.0 ++ b ∷ (w.1 ++ c ∷ (w.2 ++ d ∷ w.3))) (one a cross.first_passes)
    ∙ ap (λ zs. a ∷ zs) (filter-append r w.0 (b ∷ (w.1 ++ c ∷ (w.2 ++ d ∷ w.3))) ∙ ap (λ zs. kept w.0 ++ zs) second) in
    Crosses-from_parts p q (kept xs) a b c d (kept w.0) (kept w.1) (kept w.2) (kept w.3)
    (subst (IsTurn (kept xs)) first (turn-filter r xs (a ∷ (w.0 ++ b ∷ (w.1 ++ c ∷ (w.2 ++ d ∷ w.3)))) w.4))
    cross.first_passes cross.second_passes cross.third_passes cross.fourth_passes

-- lists that are not crossed in a part are not crossed in the whole that keeps the order of the part
pub Uncrossed-whole : (whole mid xs ys : List ℕ) → RestrictsTo whole mid → RestrictsTo mid xs → RestrictsTo mid ys
    → Uncrossed is_of mid xs ys → Uncrossed is_of whole xs ys
Uncrossed-whole whole mid xs ys r a b apart cross =
    apart (Crosses-turn (is_of xs) (is_of ys) (filter (is_of mid) whole) mid
    (turn-sym mid (filter (is_of mid) whole) r)
    (Crosses-filter (is_of mid) (is_of xs) (is_of ys) whole
    (λ d t. has_yes d mid (RestrictsTo-Has mid xs d a (has_true d xs t)))
    (λ d t. has_yes d mid (RestrictsTo-Has mid ys d b (has_true d ys t))) cross))

-- what a list of which mid keeps the order crosses, mid crosses
pub Uncrossed-part : (whole mid xs ys : List ℕ) → RestrictsTo mid xs → Uncrossed is_of whole mid ys
    → Uncrossed is_of whole xs ys
Uncrossed-part whole mid xs ys r apart cross =
    apart (Crosses-weaker (is_of xs) (is_of ys) (is_of mid) (is_of ys) whole
    (λ d h t. has_yes d mid (RestrictsTo-Has mid xs d r (has_true d xs t))) (λ d h t. t) cross)

-- the same for each of several lists
pub Uncrossed-part_each : (whole mid xs : List ℕ) (rows : List (List ℕ)) → RestrictsTo mid xs
    → EachList (Uncrossed is_of whole mid) rows → EachList (Uncrossed is_of whole xs) rows
Uncrossed-part_each whole mid xs [] r each = tt
Uncrossed-part_each whole mid xs (ys ∷ rows) r each =
    (Uncrossed-part whole mid xs ys r each.0, Uncrossed-part_each whole mid xs rows r each.1)

-- it is the same which of the two comes first
pub Uncrossed-swap : (test : List ℕ → ℕ → Bool) (whole xs ys : List ℕ) → Uncrossed test whole xs ys
    → Uncrossed test whole ys xs
Uncrossed-swap test whole xs ys apart cross = apart (Crosses-swap (test ys) (test xs) whole cross)

-- a list among others, with a property of each
pub EachList-among : (good : List ℕ → Type 0) (xs : List ℕ) (before behind : List (List ℕ)) → good xs
    → EachList good (before ++ behind) → EachList good (before ++ xs ∷ behind)
EachList-among good xs [] behind one rest = (one, rest)
EachList-among good xs (ys ∷ before) behind one rest = (rest.0, EachList-among good xs before behind one rest.1)

-- a list among others of which no two are crossed, where it is not crossed by any of them
pub AllUncrossed-among : (test : List ℕ → ℕ → Bool) (whole xs : List ℕ) (before behind : List (List ℕ))
    → EachList (Uncrossed test whole xs) (before ++ behind) → AllUncrossed test whole (before ++ behind)
    → AllUncrossed test whole (before ++ xs ∷ behind)
AllUncrossed-among test whole xs [] behind one rest = (one, rest)
AllUncrossed-among test whole xs (ys ∷ before) behind one rest = (
  EachList-among (Uncrossed test whole ys) xs before behind (Uncrossed-swap test whole xs ys one.0) rest.0,
  AllUncrossed-among test whole xs before behind one.1 rest.1,
)
