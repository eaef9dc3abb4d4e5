-- Rising lists of the same numbers are equal.
use Rattle.std.proofs.Common.{◌≡◌, ℕ, suc, ◌+◌, ◌<◌, ◌≤◌, true, false, not, List, [], ◌∷◌, map, take, refl, sym, ap, ◌∙◌, subst, inl, inr, ⊎_elim, arith}
use Rattle.std.specs.Prelude.{◌||◌}
use Rattle.std.proofs.lemmas.Bool.{and_from, ne_eqb}
use Rattle.std.proofs.lemmas.List.Sorted.{IsPermutation-sym}
use Rattle.cp_lists.proofs.PermutedLists.{Has-IsPermutation}
use Rattle.cp_board.specs.Names.{has, rising}
use Rattle.cp_board.proofs.ListTests.{IsStrictlyIncreasing-from_test, distinct}
use Rattle.cp_board.proofs.NamedLists.{by_name_keeps, rises-by_name}
use Rattle.std.specs.List.Sorted.{IsStrictlyIncreasing}
use Rattle.std.proofs.lemmas.List.Kept.{AllPairs-from_increasing}
use Rattle.cp_lists.specs.CyclicLists.{Distinct, Has, Lacks}
use Rattle.cp_lists.proofs.DistinctLists.{Has-place}

-- the first of rising numbers is the least
pub rest_greater : (x : ℕ) (xs : List ℕ) (y : ℕ) → IsStrictlyIncreasing (x ∷ xs) → Has y xs → x < y
rest_greater x xs y up h =
    let w = Has-place y xs h in
    let less = AllPairs-from_increasing (x ∷ xs) up 0 (suc w.0) 0 (omega arith) (omega (arith, w.1)) in
    omega (arith, less, w.2)

-- and the others rise
rest_rises : (x : ℕ) (xs : List ℕ) → IsStrictlyIncreasing (x ∷ xs) → IsStrictlyIncreasing xs
rest_rises x xs up k lt = AllPairs-from_increasing (x ∷ xs) up (suc k) (suc (k + 1)) 0 (omega arith) (omega (arith, lt))

-- rising lists of the same numbers are equal
pub rising_same : (xs ys : List ℕ) → IsStrictlyIncreasing xs → IsStrictlyIncreasing ys
    → ((z : ℕ) → Has z xs → Has z ys) → ((z : ℕ) → Has z ys → Has z xs) → xs ≡ ys
rising_same [] [] up other to from = refl
rising_same [] (y ∷ ys) up other to from = absurd (from y (inl refl))
rising_same (x ∷ xs) [] up other to from = absurd (to x (inl refl))
rising_same (x ∷ xs) (y ∷ ys) up other to from =
    let le : y ≤ x = ⊎_elim (λ (e : y ≡ x). omega (arith, e))
    (λ h. let g = rest_greater y ys x other h in omega (arith, g)) (to x (inl refl)) in
    let ge : x ≤ y = ⊎_elim (λ (e : x ≡ y). omega (arith, e))
    (λ h. let g = rest_greater x xs y up h in omega (arith, g)) (from y (inl refl)) in
    let same : x ≡ y = omega (arith, le, ge) in
    ap (λ z. z ∷ xs) same
    ∙ ap (λ zs. y ∷ zs) (rising_same xs ys (rest_rises x xs up) (rest_rises y ys other)
    (λ z h. ⊎_elim (λ (e : y ≡ z). let g = rest_greater x xs z up h in absurd (omega (arith, g, e, same))) (λ k. k)
    (to z (inr h)))
    (λ z h. ⊎_elim (λ (e : x ≡ z). let g = rest_greater y ys z other h in absurd (omega (arith, g, e, same))) (λ k. k)
    (from z (inr h))))

-- what a list lacks it has not
has-Lacks : (x : ℕ) (xs : List ℕ) → Lacks x xs → has xs x ≡ false
has-Lacks x [] h = refl
has-Lacks x (y ∷ ys) h = ap (λ b. b || has ys x) (ne_eqb x y (λ e. h.0 (sym e))) ∙ has-Lacks x ys h.1

-- distinct numbers pass the test
distinct-from : (xs : List ℕ) → Distinct xs → distinct xs ≡ true
distinct-from [] h = refl
distinct-from (x ∷ xs) h =
    and_from (not (has xs x)) (distinct xs) (ap not (has-Lacks x xs h.0)) (distinct-from xs h.1)

-- the images of a list under the identity
map_same : (xs : List ℕ) → map (λ x. x) xs ≡ xs
map_same [] = refl
map_same (x ∷ xs) = ap (λ zs. x ∷ zs) (map_same xs)

-- distinct numbers in rising order are the rising list of the same numbers
pub rising_is : (ys xs : List ℕ) → Distinct ys → IsStrictlyIncreasing xs → ((z : ℕ) → Has z ys → Has z xs)
    → ((z : ℕ) → Has z xs → Has z ys) → rising ys ≡ xs
rising_is ys xs once up to from =
    let perm = by_name_keeps (λ (x : ℕ). x) ys in
    let order : IsStrictlyIncreasing (rising ys) =
    subst IsStrictlyIncreasing (map_same (rising ys)) (IsStrictlyIncreasing-from_test (map (λ x. x) (rising ys))
    (rises-by_name (λ (x : ℕ). x) ys (distinct-from (map (λ x. x) ys) (subst Distinct (sym (map_same ys)) once)))) in
    rising_same (rising ys) xs order up
    (λ z h. to z (Has-IsPermutation z (rising ys) ys (IsPermutation-sym ys (rising ys) perm) h))
    (λ z h. Has-IsPermutation z ys (rising ys) perm (from z h))

-- the least of rising numbers is the first
pub first_is : (xs : List ℕ) (x : ℕ) → IsStrictlyIncreasing xs → Has x xs → ((y : ℕ) → Has y xs → x ≤ y)
    → take 1 xs ≡ x ∷ []
first_is [] x up h least = absurd h
first_is (y ∷ ys) x up h least = ⊎_elim
    (λ (e : y ≡ x). ap (λ z. z ∷ []) e)
    (λ k. let less = rest_greater y ys x up k in let le = least y (inl refl) in absurd (omega (arith, less, le)))
    h
