-- A list whose classes do not cross is made of them.
use Rattle.std.proofs.Common.{◌≡◌, ℕ, ◌<◌, ◌≢◌, false, eqb, List, [], ◌∷◌, ◌++◌, append_assoc, sym, refl, ap, ◌∙◌, subst, inl, inr, ⊎_elim, suc, ◌+◌, Bool, arith, zero, length, length-append, ap₂}
use Rattle.std.proofs.lemmas.Bool.{eq-eqb, ne_eqb}
use Rattle.std.proofs.lemmas.List.{append-nil}
use Rattle.std.proofs.lemmas.List.Elements.{filter-append}
use Rattle.std.specs.List.{filter}
use Rattle.cp_lists.specs.Crossings.{InOrder, NoCross}
use Rattle.cp_lists.specs.CyclicLists.{Distinct, Has, follow}
use Rattle.cp_lists.specs.Turns.{IsTurn}
use Rattle.cp_lists.proofs.Crossings.{NoCross-turn}
use Rattle.cp_lists.proofs.DistinctLists.{Distinct-apart, Distinct-append, Distinct-append_left, Distinct-append_right, Distinct-turn, Has-append_cases, Has-append_left, Has-append_right, Has-turn, Lacks-append_right}
use Rattle.cp_lists.proofs.FilteredLists.{Has-filter, filter-Distinct, filter_all, filter_no}
use Rattle.cp_lists.proofs.Orders.{order_append, order_right, order_split}
use Rattle.cp_lists.proofs.Runs.{Run, least_run}
use Rattle.cp_lists.proofs.TurnedLists.{turn-follow, turn_parts}
use Rattle.cp_maps.specs.Gluings.{IsAssembled}
use Rattle.cp_maps.specs.ListClasses.{EachClassOf, IsClassOf}

-- what is not crossed in a list is not in the list with a part less, turned
NoCross-turned : (cls : ℕ → ℕ) (a m b : List ℕ) → NoCross cls (a ++ (m ++ b)) → NoCross cls (b ++ a)
NoCross-turned cls a m b apart = NoCross-turn cls (a ++ b) (b ++ a) (turn_parts a b) (λ w x y z h.
    let s = order_split (w ∷ x ∷ y ∷ z ∷ []) a b h in
    apart w x y z (subst (λ ws. InOrder ws (a ++ (m ++ b))) (sym s.2)
    (order_append s.0 s.1 a (m ++ b) s.3 (order_right s.1 m b s.4))))

-- none of the items passes
filter_none : (p : ℕ → Bool) (xs : List ℕ) → ((d : ℕ) → Has d xs → p d ≡ false) → filter p xs ≡ []
filter_none p [] none = refl
filter_none p (x ∷ xs) none = filter_no p x xs (none x (inl refl)) ∙ filter_none p xs (λ d h. none d (inr h))

-- a run of one class, and the rest of the list turned to begin behind it
module _ (cls : ℕ → ℕ) (a m b : List ℕ) (first : ℕ) (dis : Distinct (a ++ (m ++ b))) (inside : Has first m)
    (one : (d : ℕ) → Has d m → cls d ≡ cls first) (none_before : (d : ℕ) → Has d a → cls d ≢ cls first)
    (none_behind : (d : ℕ) → Has d b → cls d ≢ cls first) where
  -- the whole list
  abbrev whole : List ℕ
  whole = a ++ (m ++ b)

  -- an item of the rest is one of the list
  rest_item : (d : ℕ) → Has d (b ++ a) → Has d whole
  rest_item d h =
      ⊎_elim (λ k. Has-append_right d a (m ++ b) (Has-append_right d m b k)) (λ k. Has-append_left d a (m ++ b) k)
      (Has-append_cases d b a h)

  -- an item of the rest is of another class
  rest_class : (d : ℕ) → Has d (b ++ a) → cls d ≢ cls first
  rest_class d h = ⊎_elim (none_behind d) (none_before d) (Has-append_cases d b a h)

  -- an item of the list of another class is one of the rest
  other_class_rest : (d : ℕ) → Has d whole → cls d ≢ cls first → Has d (b ++ a)
  other_class_rest d h ne = ⊎_elim
      (λ k. Has-append_right d b a k)
      (λ k. ⊎_elim (λ q. absurd (ne (one d q))) (λ q. Has-append_left d b a q) (Has-append_cases d m b k))
      (Has-append_cases d a (m ++ b) h)

  -- the run is its class
  run-IsClassOf : IsClassOf cls whole m
  run-IsClassOf = record {
    one = first;
    some = inside;
    items = λ d. (
      λ h. (Has-append_right d a (m ++ b) (Has-append_left d m b h), one d h),
      λ w. ⊎_elim
          (λ k. absurd (none_before d k w.1))
          (λ k. ⊎_elim (λ q. q) (λ q. absurd (none_behind d q w.1)) (Has-append_cases d m b k))
          (Has-append_cases d a (m ++ b) w.0),
    );
    order = λ d h. ap (λ zs. follow zs d) (sym (
        filter-append test a (m ++ b)
        ∙ ap₂ (λ us vs. us ++ vs) (filter_none test a (λ y k. ne_eqb (cls y) (cls first) (none_before y k)))
        (filter-append test m b ∙ ap₂ (λ us vs. us ++ vs)
        (filter_all test m (λ y k. eq-eqb (cls y) (cls first) (one y k)))
        (filter_none test b (λ y k. ne_eqb (cls y) (cls first) (none_behind y k))) ∙ append-nil m)));
  }
    where
      test : ℕ → Bool
      test y = eqb (cls y) (cls first)

  -- a class of the rest is one of the list
  rest-IsClassOf : (ys : List ℕ) → IsClassOf cls (b ++ a) ys → IsClassOf cls whole ys
  rest-IsClassOf ys is = record {
    one = is.one;
    some = is.some;
    items = λ d. (
      λ h. let w = (is.items d).0 h in (rest_item d w.0, w.1),
      λ w. (is.items d).1 (other_class_rest d w.0 (λ e. other (sym w.1 ∙ e)), w.1),
    );
    order = λ d h. is.order d h
        ∙ ap (λ zs. follow zs d) (filter-append test b a)
        ∙ turn-follow (filter test a ++ filter test b) (filter test b ++ filter test a) d
        (subst Distinct (filter-append test a b)
        (filter-Distinct test (a ++ b)
        (Distinct-append a b (Distinct-append_left a (m ++ b) dis)
        (Distinct-append_right m b (Distinct-append_right a (m ++ b) dis))
        (λ y k. Lacks-append_right y m b (Distinct-apart y a (m ++ b) dis k)))))
        (turn_parts (filter test a) (filter test b))
        (let w = (is.items d).0 h in
        subst (Has d) (filter-append test a b)
        (Has-filter test d (a ++ b) (Has-turn d b a w.0) (eq-eqb (cls d) (cls is.one) w.1)))
        ∙ ap (λ zs. follow zs d) (sym (
        filter-append test a (m ++ b)
        ∙ ap (λ zs. filter test a ++ zs)
        (filter-append test m b ∙ ap (λ zs. zs ++ filter test b)
        (filter_none test m (λ y k. ne_eqb (cls y) (cls is.one) (λ e. other (sym e ∙ one y k)))))));
  }
    where
      test : ℕ → Bool
      test y = eqb (cls y) (cls is.one)

      other : cls is.one ≢ cls first
      other = rest_class is.one ((is.items is.one).0 is.some).0

  -- several classes
  rest-EachClassOf : (copies : List (List ℕ)) → EachClassOf cls (b ++ a) copies → EachClassOf cls whole copies
  rest-EachClassOf [] each = tt
  rest-EachClassOf (ys ∷ copies) each = (rest-IsClassOf ys each.0, rest-EachClassOf copies each.1)

-- a list whose classes do not cross is made of its classes
pub uncrossed-IsAssembled : (n : ℕ) (cls : ℕ → ℕ) (row : List ℕ) → length row < n → Distinct row → NoCross cls row
    → (copies : List (List ℕ)) × IsAssembled row copies × EachClassOf cls row copies
uncrossed-IsAssembled zero cls row lt dis apart = absurd (omega arith)
uncrossed-IsAssembled (suc n) cls [] lt dis apart = ([], refl, tt)
uncrossed-IsAssembled (suc n) cls (x ∷ l) lt dis apart =
    let r : Run cls (x ∷ l) = least_run cls x l apart in
    let m : List ℕ = r.first ∷ r.others in
    let rest : List ℕ = r.behind ++ r.before in
    let dis' : Distinct (r.before ++ (m ++ r.behind)) = subst Distinct r.whole dis in
    let size : suc (length l) ≡ length r.before + (suc (length r.others) + length r.behind) = ap length r.whole
    ∙ length-append r.before (m ++ r.behind) ∙ ap (λ (k : ℕ). length r.before + k) (length-append m r.behind) in
    let less : length rest < n = omega (arith, size, length-append r.behind r.before, lt) in
    let again = uncrossed-IsAssembled n cls rest less
    (Distinct-turn r.before r.behind
    (Distinct-append r.before r.behind (Distinct-append_left r.before (m ++ r.behind) dis')
    (Distinct-append_right m r.behind (Distinct-append_right r.before (m ++ r.behind) dis'))
    (λ y k. Lacks-append_right y m r.behind (Distinct-apart y r.before (m ++ r.behind) dis' k))))
    (NoCross-turned cls r.before m r.behind (subst (NoCross cls) r.whole apart)) in
    let one : (d : ℕ) → Has d m → cls d ≡ cls r.first = λ d h. ⊎_elim (λ e. ap cls (sym e)) (λ k. r.one d k) h in (
      m ∷ again.0,
      (
        rest,
        subst (IsTurn (m ++ rest)) (sym r.whole)
            (subst (λ zs. IsTurn zs (r.before ++ (m ++ r.behind))) (append_assoc m r.behind r.before)
            (turn_parts (m ++ r.behind) r.before)),
        again.1,
      ),
      (
        subst (λ zs. IsClassOf cls zs m) (sym r.whole)
            (run-IsClassOf cls r.before m r.behind r.first dis' (inl refl) one r.none_before r.none_behind),
        subst (λ zs. EachClassOf cls zs again.0) (sym r.whole)
            (rest-EachClassOf cls r.before m r.behind r.first dis'
            (inl refl) one r.none_before r.none_behind again.0 again.2),
      ),
    )
