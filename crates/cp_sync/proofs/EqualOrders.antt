-- Lists of the same numbers that rise are equal, so sorting tells whether a list arranges numbers that rise.
use Rattle.std.proofs.Common.{◌≡◌, ℕ, suc, ◌<◌, ◌≤◌, eqb, List, [], ◌∷◌, length, take, slice_index, slice_index_or, sym, refl, ap, ◌∙◌, subst, ⊎_elim, arith}
use Rattle.std.specs.List.{Contains, IsDistinct}
use Rattle.std.specs.List.Sorted.{IsPermutation, IsStrictlyIncreasing, IsSorted}
use Rattle.std.specs.Ordering.{nat_cmp}
use Rattle.std.proofs.lemmas.Bool.{cases_eq, eq-eqb, ne_eqb}
use Rattle.std.proofs.lemmas.List.{get_or_default}
use Rattle.std.proofs.lemmas.List.Sorted.{IsPermutation-sym, IsPermutation-trans, Contains-permutation, IsNonDecreasingBy-from_sort}
use Rattle.std.proofs.lemmas.Map.Keys.{IsDistinct-from_apart, IsDistinct-IsPermutation, IsStrictlyIncreasing-from_distinct}
use Rattle.cp_orbits.proofs.ClassLabels.{Contains-cons_cases}
use Rattle.cp_sync.proofs.NamedRows.{rising_rest}
use Rattle.cp_sync.proofs.Places.{rising_apart}

-- an item behind the first is greater
rest_greater : (x : ℕ) (xs : List ℕ) (z : ℕ) → IsStrictlyIncreasing (x ∷ xs) → Contains xs z → x < z
rest_greater x xs z up c =
    subst (λ n. x < n) (get_or_default xs c.0 0 z c.1 ∙ c.2) (rising_apart (x ∷ xs) up 0 (suc c.0) (omega arith) (omega (arith, c.1)))

-- the first item, and those behind it
first_in : (x : ℕ) (xs : List ℕ) → Contains (x ∷ xs) x
first_in x xs = (0, omega arith, refl)

-- an item of the rest is one of the list
later_in : (x z : ℕ) (xs : List ℕ) → Contains xs z → Contains (x ∷ xs) z
later_in x z xs c = (suc c.0, omega (arith, c.1), c.2)

-- rising lists of the same numbers are equal
pub rising_same : (xs ys : List ℕ) → IsStrictlyIncreasing xs → IsStrictlyIncreasing ys
    → ((z : ℕ) → Contains xs z → Contains ys z)
    → ((z : ℕ) → Contains ys z → Contains xs z)
    → xs ≡ ys
rising_same [] [] up_x up_y there back = refl
rising_same [] (y ∷ ys) up_x up_y there back = absurd (omega (arith, (back y (first_in y ys)).1))
rising_same (x ∷ xs) [] up_x up_y there back = absurd (omega (arith, (there x (first_in x xs)).1))
rising_same (x ∷ xs) (y ∷ ys) up_x up_y there back =
    let le : y ≤ x = ⊎_elim (λ (e : y ≡ x). omega (arith, e)) (λ h. let g = rest_greater y ys x up_y h in omega (arith, g)) (Contains-cons_cases y x ys (there x (first_in x xs))) in
    let ge : x ≤ y = ⊎_elim (λ (e : x ≡ y). omega (arith, e)) (λ h. let g = rest_greater x xs y up_x h in omega (arith, g)) (Contains-cons_cases x y xs (back y (first_in y ys))) in
    let same : x ≡ y = omega (arith, le, ge) in
    ap (λ z. z ∷ xs) same
    ∙ ap (λ zs. y ∷ zs) (rising_same xs ys (rising_rest x xs up_x) (rising_rest y ys up_y)
    (λ z c. ⊎_elim (λ (e : y ≡ z). let g = rest_greater x xs z up_x c in absurd (omega (arith, g, e, same))) (λ h. h) (Contains-cons_cases y z ys (there z (later_in x z xs c))))
    (λ z c. ⊎_elim (λ (e : x ≡ z). let g = rest_greater y ys z up_y c in absurd (omega (arith, g, e, same))) (λ h. h) (Contains-cons_cases x z xs (back z (later_in y z ys c)))))

-- rising numbers differ
pub IsDistinct-rising : (xs : List ℕ) → IsStrictlyIncreasing xs → IsDistinct eqb xs
IsDistinct-rising xs up = IsDistinct-from_apart eqb xs (λ i j d lt len.
    let less = rising_apart xs up i j lt len in
    let at_i = get_or_default xs i d 0 (omega (arith, lt, len)) in
    let at_j = get_or_default xs j d 0 len in
    ne_eqb (slice_index_or xs i d) (slice_index_or xs j d) (λ e. omega (arith, less, at_i, at_j, e)))

-- equality of numbers is tested alike from both sides
pub eqb_comm : (x y : ℕ) → eqb x y ≡ eqb y x
eqb_comm x y = ⊎_elim (λ e. eq-eqb x y e ∙ sym (eq-eqb y x (sym e))) (λ ne. ne_eqb x y ne ∙ sym (ne_eqb y x (λ h. ne (sym h)))) (cases_eq x y)

-- a list that arranges rising numbers is equal to them when it is sorted
pub sorted_arrangement : (edges list sorted : List ℕ) → IsStrictlyIncreasing edges → IsPermutation edges list
    → IsPermutation list sorted
    → IsSorted nat_cmp sorted
    → sorted ≡ edges
sorted_arrangement edges list sorted up is_list is_sorted order =
    let whole = IsPermutation-trans edges list sorted is_list is_sorted in
    let rising = IsStrictlyIncreasing-from_distinct sorted (IsNonDecreasingBy-from_sort (λ x. x) sorted order) (IsDistinct-IsPermutation eqb eqb_comm edges sorted whole (IsDistinct-rising edges up)) in
    rising_same sorted edges rising up
    (λ z c. Contains-permutation sorted edges z (IsPermutation-sym edges sorted whole) c)
    (λ z c. Contains-permutation edges sorted z whole c)

-- lists of no number begin alike
pub take_one-none : (xs ys : List ℕ) → length xs ≡ 0 → length ys ≡ 0 → take 1 xs ≡ take 1 ys
take_one-none [] [] e f = refl
take_one-none [] (y ∷ ys) e f = absurd (omega (arith, f))
take_one-none (x ∷ xs) ys e f = absurd (omega (arith, e))

-- lists that begin alike are both empty or both not
pub take_one-length : (xs ys : List ℕ) → length xs ≡ 0 → take 1 xs ≡ take 1 ys → length ys ≡ 0
take_one-length [] [] e same = refl
take_one-length [] (y ∷ ys) e same = absurd (omega (arith, ap length same))
take_one-length (x ∷ xs) ys e same = absurd (omega (arith, e))

-- lists with one first item begin alike
pub take_one-same : (xs ys : List ℕ) → 0 < length xs → 0 < length ys → slice_index xs 0 ≡ slice_index ys 0
    → take 1 xs ≡ take 1 ys
take_one-same [] ys lx ly e = absurd (omega (arith, lx))
take_one-same (x ∷ xs) [] lx ly e = absurd (omega (arith, ly))
take_one-same (x ∷ xs) (y ∷ ys) lx ly e = ap (λ z. z ∷ []) e

-- lists that begin alike have one first item
pub take_one-first : (xs ys : List ℕ) → 0 < length xs → 0 < length ys → take 1 xs ≡ take 1 ys
    → slice_index xs 0 ≡ slice_index ys 0
take_one-first [] ys lx ly same = absurd (omega (arith, lx))
take_one-first (x ∷ xs) [] lx ly same = absurd (omega (arith, ly))
take_one-first (x ∷ xs) (y ∷ ys) lx ly same = ap (λ zs. slice_index zs 0) same
