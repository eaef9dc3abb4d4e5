-- Lists that are equal, or equal up to their order.
use Rattle.std.proofs.Common.{◌≡◌, ℕ, zero, suc, ◌<◌, ◌≤◌, Bool, true, false, not, cond, ltb, List, [], ◌∷◌, length, map, slice_index, sym, refl, ap, ◌∙◌, subst, inl, inr, ⊎_elim, arith}
use Rattle.std.specs.Prelude.{filter}
use Rattle.std.specs.List.{All}
use Rattle.std.proofs.lemmas.Bool.{and_from, and_parts, ltb-true, cases_Bool, cond-true, cond-false, cond_both}
use Rattle.std.proofs.lemmas.List.{get_or-map, length-map}
use Rattle.std.proofs.lemmas.List.Elements.{All-head, All-tail}
use Rattle.cp_lists.specs.CyclicLists.{Distinct, Has}
use Rattle.cp_lists.proofs.DistinctLists.{has_lacks}
use Rattle.cp_conn.specs.NamedGraphs.{rank}
use Rattle.cp_conn.proofs.NamedGraphs.{rank_is}
use Rattle.cp_board.specs.Names.{has}
use Rattle.cp_board.proofs.ListTests.{distinct, rises}
use Rattle.cp_join.proofs.NamedParts.{has_not}

-- lists that agree at each place are equal
pub same_places : (xs ys : List ℕ) → length xs ≡ length ys
    → ((k : ℕ) → k < length xs → slice_index xs k ≡ slice_index ys k) → xs ≡ ys
same_places [] [] size each = refl
same_places [] (y ∷ ys) size each = absurd (omega (arith, size))
same_places (x ∷ xs) [] size each = absurd (omega (arith, size))
same_places (x ∷ xs) (y ∷ ys) size each =
    ap (λ z. z ∷ xs) (each 0 (omega arith))
    ∙ ap (λ zs. y ∷ zs) (same_places xs ys (omega (arith, size)) (λ k lt. each (suc k) (omega (arith, lt))))

-- the values at the places of distinct numbers are all values
pub map_ranks : (keys values : List ℕ) → Distinct keys → length values ≡ length keys
    → map (λ x. slice_index values (rank keys x)) keys ≡ values
map_ranks keys values once size =
    same_places (map f keys) values (length-map keys f ∙ sym size)
    (λ k lt. let within : k < length keys = omega (arith, lt, length-map keys f) in
    get_or-map f keys k 0 0 within ∙ ap (slice_index values) (rank_is keys k (slice_index keys k) once within refl))
  where
    f : ℕ → ℕ
    f x = slice_index values (rank keys x)

-- two functions that agree on all items
pub map_same_on : {A B : Type 0} (f g : A → B) (xs : List A) → All (λ x. f x ≡ g x) xs → map f xs ≡ map g xs
map_same_on f g [] all = refl
map_same_on f g (x ∷ xs) all =
    ap (λ y. y ∷ map f xs) (All-head (λ z. f z ≡ g z) x xs all)
    ∙ ap (λ ys. g x ∷ ys) (map_same_on f g xs (All-tail (λ z. f z ≡ g z) x xs all))

-- what holds of each item
pub All-from_has : (holds : ℕ → Type 0) (xs : List ℕ) → ((x : ℕ) → Has x xs → holds x) → All holds xs
All-from_has holds [] each k d lt = absurd (omega (arith, lt))
All-from_has holds (x ∷ xs) each zero d lt = each x (inl refl)
All-from_has holds (x ∷ xs) each (suc k) d lt =
    All-from_has holds xs (λ y h. each y (inr h)) k d (omega (arith, lt))

-- and back
pub All-has : (holds : ℕ → Type 0) (xs : List ℕ) → All holds xs → (x : ℕ) → Has x xs → holds x
All-has holds [] all x h = elim h [ ]
All-has holds (y ∷ ys) all x h =
    ⊎_elim (λ e. subst holds e (All-head holds y ys all)) (λ k. All-has holds ys (All-tail holds y ys all) x k) h

-- a filter and a map of the names of items
pub names_kept : {A : Type 0} (name : A → ℕ) (t : A → Bool) (q : ℕ → Bool) (xs : List A)
    → All (λ x. t x ≡ q (name x)) xs → map name (filter t xs) ≡ filter q (map name xs)
names_kept name t q [] all = refl
names_kept name t q (x ∷ xs) all =
    ap (λ b. map name (cond b (x ∷ filter t xs) (filter t xs))) (All-head (λ z. t z ≡ q (name z)) x xs all)
    ∙ by_test (q (name x)) (names_kept name t q xs (All-tail (λ z. t z ≡ q (name z)) x xs all))
  where
    by_test : (b : Bool) → map name (filter t xs) ≡ filter q (map name xs)
        → map name (cond b (x ∷ filter t xs) (filter t xs))
        ≡ cond b (name x ∷ filter q (map name xs)) (filter q (map name xs))
    by_test true e = ap (λ ns. name x ∷ ns) e
    by_test false e = e

-- where no item passes
pub none_kept : {A : Type 0} (t : A → Bool) (xs : List A) → All (λ x. t x ≡ false) xs → filter t xs ≡ []
none_kept t [] all = refl
none_kept t (x ∷ xs) all =
    cond-false (t x) (x ∷ filter t xs) (filter t xs) (All-head (λ z. t z ≡ false) x xs all)
    ∙ none_kept t xs (All-tail (λ z. t z ≡ false) x xs all)

-- distinct numbers pass the test for it
pub distinct_from : (xs : List ℕ) → Distinct xs → distinct xs ≡ true
distinct_from [] once = refl
distinct_from (x ∷ xs) once =
    and_from (not (has xs x)) (distinct xs)
    (ap not (has_not xs x (λ h. has_lacks x xs h once.0))) (distinct_from xs once.1)

-- what a filter keeps
pub Has-kept : (q : ℕ → Bool) (xs : List ℕ) (x : ℕ) → Has x (filter q xs) → Has x xs × (q x ≡ true)
Has-kept q [] x h = elim h [ ]
Has-kept q (y ∷ ys) x h =
    ⊎_elim
    (λ t. ⊎_elim
    (λ e. (inl e, subst (λ z. q z ≡ true) e t))
    (λ k. let r = Has-kept q ys x k in (inr r.0, r.1))
    (let now : Has x (y ∷ filter q ys) = subst (Has x) (cond-true (q y) (y ∷ filter q ys) (filter q ys) t) h in now))
    (λ f. let r = Has-kept q ys x (subst (Has x) (cond-false (q y) (y ∷ filter q ys) (filter q ys) f) h) in (inr r.0, r.1))
    (cases_Bool (q y))

-- and the other way round
pub kept-Has : (q : ℕ → Bool) (xs : List ℕ) (x : ℕ) → Has x xs → q x ≡ true → Has x (filter q xs)
kept-Has q [] x h t = elim h [ ]
kept-Has q (y ∷ ys) x h t =
    ⊎_elim
    (λ e. subst (Has x) (sym (cond-true (q y) (y ∷ filter q ys) (filter q ys) (subst (λ z. q z ≡ true) (sym e) t))) (inl e))
    (λ k. cond_both (q y) (y ∷ filter q ys) (filter q ys) (Has x) (λ _. inr (kept-Has q ys x k t)) (λ _. kept-Has q ys x k t))
    h

-- the first of numbers that rise is less than the others
head_less : (x : ℕ) (xs : List ℕ) → rises (x ∷ xs) ≡ true → (z : ℕ) → Has z xs → x < z
head_less x [] t z h = elim h [ ]
head_less x (y ∷ ys) t z h =
    let parts = and_parts (ltb x y) (rises (y ∷ ys)) t in
    let less = ltb-true x y parts.0 in
    ⊎_elim
    (λ e. subst (λ n. x < n) e less)
    (λ k. omega (arith, less, head_less y ys parts.1 z k))
    h

-- what rises does so without its first
rises_tail : (x : ℕ) (xs : List ℕ) → rises (x ∷ xs) ≡ true → rises xs ≡ true
rises_tail x [] t = refl
rises_tail x (y ∷ ys) t = (and_parts (ltb x y) (rises (y ∷ ys)) t).1

-- numbers that rise are told by what they are
pub one_order : (xs ys : List ℕ) → rises xs ≡ true → rises ys ≡ true → ((z : ℕ) → Has z xs → Has z ys)
    → ((z : ℕ) → Has z ys → Has z xs) → xs ≡ ys
one_order [] [] up vp there back = refl
one_order [] (y ∷ ys) up vp there back = absurd (back y (inl refl))
one_order (x ∷ xs) [] up vp there back = absurd (there x (inl refl))
one_order (x ∷ xs) (y ∷ ys) up vp there back =
    ap (λ z. z ∷ xs) same
    ∙ ap (λ zs. y ∷ zs) (one_order xs ys (rises_tail x xs up) (rises_tail y ys vp)
    (λ z h. ⊎_elim
    (λ e. let less = head_less x xs up z h in absurd (omega (arith, less, e, same)))
    (λ k. k)
    (there z (inr h)))
    (λ z h. ⊎_elim
    (λ e. let less = head_less y ys vp z h in absurd (omega (arith, less, e, same)))
    (λ k. k)
    (back z (inr h))))
  where
    below : y ≤ x
    below = ⊎_elim (λ e. omega (arith, e)) (λ k. let less = head_less y ys vp x k in omega (arith, less)) (there x (inl refl))

    above : x ≤ y
    above = ⊎_elim (λ e. omega (arith, e)) (λ k. let less = head_less x xs up y k in omega (arith, less)) (back y (inl refl))

    same : x ≡ y
    same = omega (arith, below, above)
