-- Lists in the order of names: what they hold, what is found under a name, and that the names rise.
use Rattle.std.proofs.Common.{◌≡◌, ℕ, zero, suc, ◌+◌, ◌<◌, Bool, true, false, not, ◌||◌, eqb, ltb, List, [], ◌∷◌, length, sym, refl, ap, ◌∙◌, subst, ⊎_elim, arith, ◌≢◌, cond, ◌≤◌}
use Rattle.std.specs.Prelude.{slice_index, filter, map, Option, Some, find, slice_index_or}
use Rattle.std.specs.List.{list_all, find}
use Rattle.std.specs.List.Sorted.{IsPermutation, IsStrictlyIncreasing}
use Rattle.std.proofs.lemmas.Bool.{and_parts, eqb-false, ltb-true, not-true, cond_both, cases_eq, cond-true, cond-false, and_from, eq-eqb, ne_eqb, or_parts, lt-ltb, ltb-false}
use Rattle.std.proofs.lemmas.List.Sorted.{IsPermutation-refl, IsPermutation-sym, IsPermutation-trans, IsPermutation-cons, IsPermutation-middle}
use Rattle.cp_board.specs.Names.{has, put, by_name, rising}
use Rattle.cp_board.proofs.ListTests.{rises, distinct}

-- an item is put in and nothing is lost
pub put_keeps : {A : Type 0} (name : A → ℕ) (x : A) (ys : List A) → IsPermutation (x ∷ ys) (put name x ys)
put_keeps name x [] = IsPermutation-refl (x ∷ [])
put_keeps name x (y ∷ ys) =
    cond_both (ltb (name x) (name y)) (x ∷ y ∷ ys) (y ∷ put name x ys) (IsPermutation (x ∷ y ∷ ys))
    (λ e. IsPermutation-refl (x ∷ y ∷ ys))
    (λ e. IsPermutation-trans (x ∷ y ∷ ys) (y ∷ x ∷ ys) (y ∷ put name x ys) (IsPermutation-middle (x ∷ []) y ys) (IsPermutation-cons y (x ∷ ys) (put name x ys) (put_keeps name x ys)))

-- the order of names keeps the items
pub by_name_keeps : {A : Type 0} (name : A → ℕ) (xs : List A) → IsPermutation xs (by_name name xs)
by_name_keeps name [] = IsPermutation-refl []
by_name_keeps name (x ∷ xs) = IsPermutation-trans (x ∷ xs) (x ∷ by_name name xs) (put name x (by_name name xs)) (IsPermutation-cons x xs (by_name name xs) (by_name_keeps name xs)) (put_keeps name x (by_name name xs))

-- a list arranges what it is in rising order
pub arranged : (xs ys : List ℕ) → rising ys ≡ xs → IsPermutation xs ys
arranged xs ys e = subst (λ z. IsPermutation z ys) e (IsPermutation-sym ys (rising ys) (by_name_keeps (λ x. x) ys))

-- what stands under a name in a list in which one more item was put: that item, or what stood there
abbrev pub under : {A : Type 0} → (A → ℕ) → ℕ → List A → Option A
under name n xs = find (λ x. eqb (name x) n) xs

-- of two items with different names it does not matter which is looked at first
exchanged : {A : Type 0} (name : A → ℕ) (n : ℕ) (x y : A) (o : Option A) → name x ≢ name y
    → cond (eqb (name y) n) (Some y) (cond (eqb (name x) n) (Some x) o) ≡ cond (eqb (name x) n) (Some x)
    (cond (eqb (name y) n) (Some y) o)
exchanged name n x y o ne =
    ⊎_elim
    (λ e. let other = ne_eqb (name x) n (λ h. ne (h ∙ sym e)) in cond-true (eqb (name y) n) (Some y) _ (eq-eqb (name y) n e) ∙ sym (cond-false (eqb (name x) n) (Some x) _ other ∙ cond-true (eqb (name y) n) (Some y) o (eq-eqb (name y) n e)))
    (λ no. cond-false (eqb (name y) n) (Some y) _ (ne_eqb (name y) n no) ∙ ap (λ z. cond (eqb (name x) n) (Some x) z) (sym (cond-false (eqb (name y) n) (Some y) o (ne_eqb (name y) n no))))
    (cases_eq (name y) n)

-- what stands under a name where an item of a new name was put in: this item, or what stood there
pub under-put : {A : Type 0} (name : A → ℕ) (n : ℕ) (x : A) (ys : List A) → has (map name ys) (name x) ≡ false
    → under name n (put name x ys) ≡ cond (eqb (name x) n) (Some x) (under name n ys)
under-put name n x [] free = refl
under-put name n x (y ∷ ys) free =
    let h = or_parts (eqb (name x) (name y)) (has (map name ys) (name x)) free in
    cond_both (ltb (name x) (name y)) (x ∷ y ∷ ys) (y ∷ put name x ys) (λ zs. under name n zs ≡ cond (eqb (name x) n) (Some x) (under name n (y ∷ ys)))
    (λ t. refl)
    (λ f. ap (λ z. cond (eqb (name y) n) (Some y) z) (under-put name n x ys h.1) ∙ exchanged name n x y (under name n ys) (eqb-false (name x) (name y) h.0))

-- what rises passes the test
pub rises_from : (xs : List ℕ) → IsStrictlyIncreasing xs → rises xs ≡ true
rises_from [] up = refl
rises_from (x ∷ []) up = refl
rises_from (x ∷ y ∷ ys) up = and_from (ltb x y) (rises (y ∷ ys)) (lt-ltb x y (up 0 (omega arith))) (rises_from (y ∷ ys) (λ k lt. up_later k lt))
  where
    up_later : (k : ℕ) → k + 1 < length (y ∷ ys) → slice_index (y ∷ ys) k < slice_index (y ∷ ys) (k + 1)
    up_later k lt = subst (λ n. slice_index (x ∷ y ∷ ys) (suc k) < slice_index (x ∷ y ∷ ys) n) (let e : suc k + 1 ≡ suc (k + 1) = omega arith in e) (up (suc k) (omega arith))

-- what stands in the order of names already stays
pub by_name_same : {A : Type 0} (name : A → ℕ) (xs : List A) → rises (map name xs) ≡ true → by_name name xs ≡ xs
by_name_same name [] t = refl
by_name_same name (x ∷ []) t = refl
by_name_same name (x ∷ y ∷ ys) t =
    let h = and_parts (ltb (name x) (name y)) (rises (map name (y ∷ ys))) t in
    ap (put name x) (by_name_same name (y ∷ ys) h.1) ∙ cond-true (ltb (name x) (name y)) (x ∷ y ∷ ys) (y ∷ put name x ys) h.0

-- the names in order are the same names
pub has-put : {A : Type 0} (name : A → ℕ) (n : ℕ) (x : A) (ys : List A)
    → has (map name (put name x ys)) n ≡ has (map name (x ∷ ys)) n
has-put name n x [] = refl
has-put name n x (y ∷ ys) =
    cond_both (ltb (name x) (name y)) (x ∷ y ∷ ys) (y ∷ put name x ys) (λ zs. has (map name zs) n ≡ has (map name (x ∷ y ∷ ys)) n)
    (λ t. refl)
    (λ f. ap (λ z. eqb n (name y) || z) (has-put name n x ys) ∙ or_swap (eqb n (name y)) (eqb n (name x)) (has (map name ys) n))
  where
    or_swap : (a b c : Bool) → (a || (b || c)) ≡ (b || (a || c))
    or_swap true true c = refl
    or_swap true false c = refl
    or_swap false true c = refl
    or_swap false false c = refl

-- and so they are where all items were put in order
pub has-by_name : {A : Type 0} (name : A → ℕ) (n : ℕ) (xs : List A)
    → has (map name (by_name name xs)) n ≡ has (map name xs) n
has-by_name name n [] = refl
has-by_name name n (x ∷ xs) = has-put name n x (by_name name xs) ∙ ap (λ z. eqb n (name x) || z) (has-by_name name n xs)

-- a list in the order of names is the same finite map
pub under-by_name : {A : Type 0} (name : A → ℕ) (n : ℕ) (xs : List A) → distinct (map name xs) ≡ true
    → under name n (by_name name xs) ≡ under name n xs
under-by_name name n [] t = refl
under-by_name name n (x ∷ xs) t =
    let h = and_parts (not (has (map name xs) (name x))) (distinct (map name xs)) t in
    under-put name n x (by_name name xs) (has-by_name name (name x) xs ∙ not-true (has (map name xs) (name x)) h.0)
    ∙ ap (λ z. cond (eqb (name x) n) (Some x) z) (under-by_name name n xs h.1)

-- a test that each item passes keeps the whole list
pub filter_true : {A : Type 0} (xs : List A) → filter (λ (x : A). true) xs ≡ xs
filter_true [] = refl
filter_true (x ∷ xs) = ap (λ z. x ∷ z) (filter_true xs)

-- x is below each item
abbrev pub under_all : {A : Type 0} → (A → ℕ) → ℕ → List A → Bool
under_all name n xs = list_all (λ x. ltb n (name x)) xs

-- a number below one that is below all items is below all items
pub under_all-lower : {A : Type 0} (name : A → ℕ) (n m : ℕ) → n < m → (xs : List A) → under_all name m xs ≡ true
    → under_all name n xs ≡ true
under_all-lower name n m lt [] t = refl
under_all-lower name n m lt (x ∷ xs) t =
    let h = and_parts (ltb m (name x)) (under_all name m xs) t in
    and_from (ltb n (name x)) (under_all name n xs) (lt-ltb n (name x) (omega (arith, ltb-true m (name x) h.0))) (under_all-lower name n m lt xs h.1)

-- of names that rise the first is below all others
pub under_all-rises : {A : Type 0} (name : A → ℕ) (n : ℕ) (xs : List A) → rises (n ∷ map name xs) ≡ true
    → under_all name n xs ≡ true
under_all-rises name n [] t = refl
under_all-rises name n (x ∷ xs) t =
    let h = and_parts (ltb n (name x)) (rises (name x ∷ map name xs)) t in
    and_from (ltb n (name x)) (under_all name n xs) h.0 (under_all-lower name n (name x) (ltb-true n (name x) h.0) xs (under_all-rises name (name x) xs h.1))

-- names that rise still rise without the first
pub rises_after : {A : Type 0} (name : A → ℕ) (x : A) (xs : List A) → rises (map name (x ∷ xs)) ≡ true
    → rises (map name xs) ≡ true
rises_after name x [] t = refl
rises_after name x (y ∷ ys) t = (and_parts (ltb (name x) (name y)) (rises (map name (y ∷ ys))) t).1

-- a number below all names that rise can stand before them
pub rises-under : {A : Type 0} (name : A → ℕ) (n : ℕ) (xs : List A) → under_all name n xs ≡ true
    → rises (map name xs) ≡ true → rises (n ∷ map name xs) ≡ true
rises-under name n [] u t = refl
rises-under name n (x ∷ xs) u t = and_from (ltb n (name x)) (rises (name x ∷ map name xs)) (and_parts (ltb n (name x)) (under_all name n xs) u).0 t

-- what is below all items is below those that are kept
pub under_all-filter : {A : Type 0} (name : A → ℕ) (n : ℕ) (p : A → Bool) (xs : List A) → under_all name n xs ≡ true
    → under_all name n (filter p xs) ≡ true
under_all-filter name n p [] t = refl
under_all-filter name n p (x ∷ xs) t =
    let h = and_parts (ltb n (name x)) (under_all name n xs) t in
    cond_both (p x) (x ∷ filter p xs) (filter p xs) (λ zs. under_all name n zs ≡ true)
    (λ e. and_from (ltb n (name x)) (under_all name n (filter p xs)) h.0 (under_all-filter name n p xs h.1))
    (λ e. under_all-filter name n p xs h.1)

-- names that rise still rise where some go
pub rises-filter : {A : Type 0} (name : A → ℕ) (p : A → Bool) (xs : List A) → rises (map name xs) ≡ true
    → rises (map name (filter p xs)) ≡ true
rises-filter name p [] t = refl
rises-filter name p (x ∷ xs) t =
    let after = rises-filter name p xs (rises_after name x xs t) in
    cond_both (p x) (x ∷ filter p xs) (filter p xs) (λ zs. rises (map name zs) ≡ true)
    (λ e. rises-under name (name x) (filter p xs) (under_all-filter name (name x) p xs (under_all-rises name (name x) xs t)) after)
    (λ e. after)

-- an item below all others is put in front
put_front : {A : Type 0} (name : A → ℕ) (x : A) (ys : List A) → under_all name (name x) ys ≡ true
    → put name x ys ≡ x ∷ ys
put_front name x [] u = refl
put_front name x (y ∷ ys) u = cond-true (ltb (name x) (name y)) (x ∷ y ∷ ys) (y ∷ put name x ys) (and_parts (ltb (name x) (name y)) (under_all name (name x) ys) u).0

-- what is below an item and below all of a list is below all where the item is put in
under_all-put : {A : Type 0} (name : A → ℕ) (n : ℕ) (x : A) (ys : List A) → ltb n (name x) ≡ true
    → under_all name n ys ≡ true → under_all name n (put name x ys) ≡ true
under_all-put name n x [] l u = and_from (ltb n (name x)) true l refl
under_all-put name n x (y ∷ ys) l u =
    let h = and_parts (ltb n (name y)) (under_all name n ys) u in
    cond_both (ltb (name x) (name y)) (x ∷ y ∷ ys) (y ∷ put name x ys) (λ zs. under_all name n zs ≡ true)
    (λ t. and_from (ltb n (name x)) (under_all name n (y ∷ ys)) l u)
    (λ f. and_from (ltb n (name y)) (under_all name n (put name x ys)) h.0 (under_all-put name n x ys l h.1))

-- an item of a new name is put in, and the names rise still
pub rises-put : {A : Type 0} (name : A → ℕ) (x : A) (ys : List A) → has (map name ys) (name x) ≡ false
    → rises (map name ys) ≡ true → rises (map name (put name x ys)) ≡ true
rises-put name x [] free t = refl
rises-put name x (y ∷ ys) free t =
    let h = or_parts (eqb (name x) (name y)) (has (map name ys) (name x)) free in
    cond_both (ltb (name x) (name y)) (x ∷ y ∷ ys) (y ∷ put name x ys) (λ zs. rises (map name zs) ≡ true)
    (λ l. and_from (ltb (name x) (name y)) (rises (map name (y ∷ ys))) l t)
    (λ l. rises-under name (name y) (put name x ys)
    (under_all-put name (name y) x ys (lt-ltb (name y) (name x) (let ne : name x ≢ name y = eqb-false (name x) (name y) h.0 in omega (arith, ltb-false (name x) (name y) l))) (under_all-rises name (name y) ys t))
    (rises-put name x ys h.1 (rises_after name y ys t)))

-- different names rise in their order
pub rises-by_name : {A : Type 0} (name : A → ℕ) (xs : List A) → distinct (map name xs) ≡ true
    → rises (map name (by_name name xs)) ≡ true
rises-by_name name [] d = refl
rises-by_name name (x ∷ xs) d =
    let h = and_parts (not (has (map name xs) (name x))) (distinct (map name xs)) d in
    rises-put name x (by_name name xs) (has-by_name name (name x) xs ∙ not-true (has (map name xs) (name x)) h.0) (rises-by_name name xs h.1)

-- what passes of a list in which an item was put
filter-put : {A : Type 0} (name : A → ℕ) (p : A → Bool) (x : A) (ys : List A) → rises (map name ys) ≡ true
    → filter p (put name x ys) ≡ cond (p x) (put name x (filter p ys)) (filter p ys)
filter-put name p x [] t = refl
filter-put name p x (y ∷ ys) t =
    cond_both (ltb (name x) (name y)) (x ∷ y ∷ ys) (y ∷ put name x ys) (λ zs. filter p zs ≡ cond (p x) (put name x (filter p (y ∷ ys))) (filter p (y ∷ ys)))
    (λ l. ap (λ zs. cond (p x) zs (filter p (y ∷ ys))) (sym (put_front name x (filter p (y ∷ ys)) (under_all-filter name (name x) p (y ∷ ys) (under_all-rises name (name x) (y ∷ ys) (and_from (ltb (name x) (name y)) (rises (map name (y ∷ ys))) l t))))))
    (λ l. ap (λ zs. cond (p y) (y ∷ zs) zs) (filter-put name p x ys (rises_after name y ys t)) ∙ four (p x) (p y) (filter p ys) l)
  where
    four : (a b : Bool) (zs : List _) → ltb (name x) (name y) ≡ false
        → cond b (y ∷ cond a (put name x zs) zs) (cond a (put name x zs) zs) ≡ cond a (put name x (cond b (y ∷ zs) zs))
        (cond b (y ∷ zs) zs)
    four true true zs l = sym (cond-false (ltb (name x) (name y)) (x ∷ y ∷ zs) (y ∷ put name x zs) l)
    four true false zs l = refl
    four false true zs l = refl
    four false false zs l = refl

-- what passes of a list in the order of names is the order of names of what passes
pub filter-by_name : {A : Type 0} (name : A → ℕ) (p : A → Bool) (xs : List A) → distinct (map name xs) ≡ true
    → filter p (by_name name xs) ≡ by_name name (filter p xs)
filter-by_name name p [] d = refl
filter-by_name name p (x ∷ xs) d =
    let h = and_parts (not (has (map name xs) (name x))) (distinct (map name xs)) d in
    filter-put name p x (by_name name xs) (rises-by_name name xs h.1)
    ∙ ap (λ zs. cond (p x) (put name x zs) zs) (filter-by_name name p xs h.1)
    ∙ by_cond (p x) (filter p xs)
  where
    by_cond : (b : Bool) (zs : List _)
        → cond b (put name x (by_name name zs)) (by_name name zs) ≡ by_name name (cond b (x ∷ zs) zs)
    by_cond true zs = refl
    by_cond false zs = refl

-- a name below all others is none of them
below_none : {A : Type 0} (name : A → ℕ) (n : ℕ) (xs : List A) → under_all name n xs ≡ true
    → has (map name xs) n ≡ false
below_none name n [] u = refl
below_none name n (x ∷ xs) u =
    let h = and_parts (ltb n (name x)) (under_all name n xs) u in
    let lt = ltb-true n (name x) h.0 in
    ap (λ b. b || has (map name xs) n) (ne_eqb n (name x) (λ e. omega (arith, e, lt))) ∙ below_none name n xs h.1

-- names that rise are different
pub distinct_from_rises : {A : Type 0} (name : A → ℕ) (xs : List A) → rises (map name xs) ≡ true
    → distinct (map name xs) ≡ true
distinct_from_rises name [] t = refl
distinct_from_rises name (x ∷ xs) t =
    and_from (not (has (map name xs) (name x))) (distinct (map name xs)) (ap not (below_none name (name x) xs (under_all-rises name (name x) xs t))) (distinct_from_rises name xs (rises_after name x xs t))

-- what is below all is below each
pub under_at : {A : Type 0} (name : A → ℕ) (n : ℕ) (xs : List A) (k : ℕ) (d : A) → under_all name n xs ≡ true
    → k < length xs → n < name (slice_index_or xs k d)
under_at name n [] k d u lt = absurd (omega arith)
under_at name n (x ∷ xs) zero d u lt = ltb-true n (name x) (and_parts (ltb n (name x)) (under_all name n xs) u).0
under_at name n (x ∷ xs) (suc k) d u lt = under_at name n xs k d (and_parts (ltb n (name x)) (under_all name n xs) u).1 (omega arith)

-- names rise with places
pub place_order : {A : Type 0} (name : A → ℕ) (xs : List A) (j k : ℕ) (d : A) → rises (map name xs) ≡ true → j ≤ k
    → k < length xs → name (slice_index_or xs j d) ≤ name (slice_index_or xs k d)
place_order name [] j k d t le lt = absurd (omega arith)
place_order name (x ∷ xs) zero zero d t le lt = omega arith
place_order name (x ∷ xs) zero (suc k) d t le lt = let h = under_at name (name x) xs k d (under_all-rises name (name x) xs t) (omega arith) in omega arith
place_order name (x ∷ xs) (suc j) zero d t le lt = absurd (omega arith)
place_order name (x ∷ xs) (suc j) (suc k) d t le lt = place_order name xs j k d (rises_after name x xs t) (omega arith) (omega arith)

-- an item is found under its name
pub found_at : {A : Type 0} (name : A → ℕ) (xs : List A) (k : ℕ) (d : A) → rises (map name xs) ≡ true → k < length xs
    → find (λ x. eqb (name x) (name (slice_index_or xs k d))) xs ≡ Some (slice_index_or xs k d)
found_at name [] k d t lt = absurd (omega arith)
found_at name (x ∷ xs) zero d t lt = cond-true (eqb (name x) (name x)) (Some x) (find (λ y. eqb (name y) (name x)) xs) (eq-eqb (name x) (name x) refl)
found_at name (x ∷ xs) (suc k) d t lt =
    let h = under_at name (name x) xs k d (under_all-rises name (name x) xs t) (omega arith) in
    cond-false (eqb (name x) (name (slice_index_or xs k d))) (Some x) (find (λ y. eqb (name y) (name (slice_index_or xs k d))) xs) (ne_eqb (name x) (name (slice_index_or xs k d)) (λ e. omega (arith, e, h)))
    ∙ found_at name xs k d (rises_after name x xs t) (omega arith)
