-- Numbers that rise are told by their items, so sorting brings distinct numbers into the list of them that rises.
use Rattle.std.proofs.Common.{◌≡◌, ℕ, zero, suc, ◌+◌, ◌<◌, ◌≤◌, eqb, List, [], ◌∷◌, length, slice_index, slice_index_or, sym, refl, ap, ◌∙◌, subst, ⊎_elim, arith}
use Rattle.std.specs.List.{Contains, IsDistinct}
use Rattle.std.specs.List.Sorted.{IsPermutation, IsStrictlyIncreasing, IsSorted}
use Rattle.std.specs.Ordering.{nat_cmp}
use Rattle.std.proofs.lemmas.Bool.{cases_eq, cases_lt, eq-eqb, ne_eqb}
use Rattle.std.proofs.lemmas.List.{get_or_default}
use Rattle.std.proofs.lemmas.List.Sorted.{IsPermutation-sym, Contains-permutation, IsNonDecreasingBy-from_sort}
use Rattle.std.proofs.lemmas.Map.Keys.{IsDistinct-from_apart, IsDistinct-IsPermutation, IsStrictlyIncreasing-from_distinct}
use Rattle.cp_lists.specs.CyclicLists.{Distinct}
use Rattle.cp_lists.proofs.DistinctLists.{Distinct-once}
use Rattle.cp_orbits.proofs.ClassLabels.{Contains-cons_cases}

-- rising numbers rise over any distance
rising_apart : (xs : List ℕ) → IsStrictlyIncreasing xs → (j k : ℕ) → j < k → k < length xs
    → slice_index xs j < slice_index xs k
rising_apart xs up j zero lt len = absurd (omega arith)
rising_apart xs up j (suc k) lt len =
    let next : slice_index xs k < slice_index xs (suc k) = subst (λ n. slice_index xs k < slice_index xs n)
    (let e : k + 1 ≡ suc k = omega arith in e) (up k (omega arith)) in
    ⊎_elim
    (λ (l : j < k). omega (arith, rising_apart xs up j k l (omega arith), next))
    (λ (g : k ≤ j). let same : j ≡ k = omega arith in rw same next)
    (cases_lt j k)

-- the rest of rising numbers rises
rising_rest : (n : ℕ) (ns : List ℕ) → IsStrictlyIncreasing (n ∷ ns) → IsStrictlyIncreasing ns
rising_rest n ns up k lt =
    subst (λ j. slice_index ns k < slice_index (n ∷ ns) j) (let e : suc k + 1 ≡ suc (k + 1) = omega arith in e)
    (up (suc k) (omega (arith, lt)))

-- an item behind the first is greater
rest_greater : (x : ℕ) (xs : List ℕ) (z : ℕ) → IsStrictlyIncreasing (x ∷ xs) → Contains xs z → x < z
rest_greater x xs z up c =
    subst (λ n. x < n) (get_or_default xs c.0 0 z c.1 ∙ c.2)
    (rising_apart (x ∷ xs) up 0 (suc c.0) (omega arith) (omega (arith, c.1)))

-- the first item is in the list
first_in : (x : ℕ) (xs : List ℕ) → Contains (x ∷ xs) x
first_in x xs = (0, omega arith, refl)

-- an item of the rest is in the list
later_in : (x z : ℕ) (xs : List ℕ) → Contains xs z → Contains (x ∷ xs) z
later_in x z xs c = (suc c.0, omega (arith, c.1), c.2)

-- rising lists of the same numbers are equal
rising_same : (xs ys : List ℕ) → IsStrictlyIncreasing xs → IsStrictlyIncreasing ys
    → ((z : ℕ) → Contains xs z → Contains ys z)
    → ((z : ℕ) → Contains ys z → Contains xs z)
    → xs ≡ ys
rising_same [] [] up_x up_y there back = refl
rising_same [] (y ∷ ys) up_x up_y there back = absurd (omega (arith, (back y (first_in y ys)).1))
rising_same (x ∷ xs) [] up_x up_y there back = absurd (omega (arith, (there x (first_in x xs)).1))
rising_same (x ∷ xs) (y ∷ ys) up_x up_y there back =
    let le : y ≤ x = ⊎_elim (λ (e : y ≡ x). omega (arith, e))
    (λ h. let g = rest_greater y ys x up_y h in omega (arith, g))
    (Contains-cons_cases y x ys (there x (first_in x xs))) in
    let ge : x ≤ y = ⊎_elim (λ (e : x ≡ y). omega (arith, e))
    (λ h. let g = rest_greater x xs y up_x h in omega (arith, g))
    (Contains-cons_cases x y xs (back y (first_in y ys))) in
    let same : x ≡ y = omega (arith, le, ge) in
    ap (λ z. z ∷ xs) same
    ∙ ap (λ zs. y ∷ zs) (rising_same xs ys (rising_rest x xs up_x) (rising_rest y ys up_y)
    (λ z c. ⊎_elim (λ (e : y ≡ z). let g = rest_greater x xs z up_x c in absurd (omega (arith, g, e, same)))
    (λ h. h) (Contains-cons_cases y z ys (there z (later_in x z xs c))))
    (λ z c. ⊎_elim (λ (e : x ≡ z). let g = rest_greater y ys z up_y c in absurd (omega (arith, g, e, same)))
    (λ h. h) (Contains-cons_cases x z xs (back z (later_in y z ys c)))))

-- equality of numbers is tested alike from both sides
eqb_comm : (x y : ℕ) → eqb x y ≡ eqb y x
eqb_comm x y = ⊎_elim (λ e. eq-eqb x y e ∙ sym (eq-eqb y x (sym e)))
    (λ ne. ne_eqb x y ne ∙ sym (ne_eqb y x (λ h. ne (sym h)))) (cases_eq x y)

-- distinct numbers pass as keys that differ
IsDistinct-from : (xs : List ℕ) → Distinct xs → IsDistinct eqb xs
IsDistinct-from xs once = IsDistinct-from_apart eqb xs (λ i j d lt len.
    let in_i : i < length xs = omega (arith, lt, len) in
    let at_i = get_or_default xs i d 0 in_i in
    let at_j = get_or_default xs j d 0 len in
    ne_eqb (slice_index_or xs i d) (slice_index_or xs j d)
    (λ e. omega (arith, lt, Distinct-once xs once i j in_i len (sym at_i ∙ e ∙ at_j))))

-- distinct numbers, sorted, are the rising list of the same numbers
pub sorted_same : (names given sorted : List ℕ) → IsStrictlyIncreasing names → Distinct given
    → ((z : ℕ) → Contains given z → Contains names z)
    → ((z : ℕ) → Contains names z → Contains given z)
    → IsPermutation given sorted
    → IsSorted nat_cmp sorted
    → sorted ≡ names
sorted_same names given sorted up once there back moved order =
    let rising = IsStrictlyIncreasing-from_distinct sorted (IsNonDecreasingBy-from_sort (λ x. x) sorted order)
    (IsDistinct-IsPermutation eqb eqb_comm given sorted moved (IsDistinct-from given once)) in
    rising_same sorted names rising up
    (λ z c. there z (Contains-permutation sorted given z (IsPermutation-sym given sorted moved) c))
    (λ z c. Contains-permutation given sorted z moved (back z c))
