-- Lists in the order of names are told by their items, so sorting by names brings a list into this order.
use Rattle.std.proofs.Common.{◌≡◌, ◌⊎◌, ℕ, suc, ◌<◌, true, false, not, ◌||◌, eqb, List, [], ◌∷◌, length, map, find, sym, refl, ap, ◌∙◌, subst, ⊎_elim, arith}
use Rattle.std.specs.Prelude.{Option, Some, None, is_some, MatchOption}
use Rattle.std.specs.List.{Contains}
use Rattle.std.specs.List.Sorted.{IsPermutation, IsStrictlyIncreasing, IsNonDecreasingBy, IsNonDecreasing}
use Rattle.std.proofs.lemmas.Bool.{cond_both, ne_eqb, and_from}
use Rattle.std.proofs.lemmas.List.{get_or-map, length-map, map-id}
use Rattle.std.proofs.lemmas.List.Sorted.{IsPermutation-sym, IsPermutation-trans, IsPermutation-map, Contains-permutation}
use Rattle.std.proofs.lemmas.Map.Keys.{IsDistinct-IsPermutation, IsStrictlyIncreasing-from_distinct}
use Rattle.cp_lists.specs.CyclicLists.{Distinct, Lacks}
use Rattle.cp_orbits.proofs.ClassLabels.{Contains-cons_cases}
use Rattle.cp_board.specs.Names.{has, by_name}
use Rattle.cp_board.proofs.ListTests.{distinct, IsStrictlyIncreasing-from_test}
use Rattle.cp_board.proofs.NamedLists.{by_name_keeps, rises-by_name, has-by_name}
use Rattle.cp_sync.proofs.Places.{rising_apart}
use Rattle.cp_sync.proofs.NamedRows.{rising_rest}
use Rattle.cp_sync.proofs.EqualOrders.{IsDistinct-rising, eqb_comm}

-- an item behind the first has a greater name
rest_greater : {A : Type 0} (name : A → ℕ) (x : A) (xs : List A) (z : A) → IsStrictlyIncreasing (map name (x ∷ xs))
    → Contains xs z
    → name x < name z
rest_greater name x xs z up c =
    let less = rising_apart (map name (x ∷ xs)) up 0 (suc c.0) (omega arith) (omega (arith, c.1, length-map xs name)) in
    let at = get_or-map name xs c.0 z 0 c.1 in
    let is = ap name c.2 in
    omega (arith, less, at, is)

-- lists whose names rise and that have the same items are equal
pub named_same : {A : Type 0} (name : A → ℕ) (xs ys : List A) → IsStrictlyIncreasing (map name xs)
    → IsStrictlyIncreasing (map name ys)
    → ((z : A) → Contains xs z → Contains ys z)
    → ((z : A) → Contains ys z → Contains xs z)
    → xs ≡ ys
named_same name [] [] up_x up_y there back = refl
named_same name [] (y ∷ ys) up_x up_y there back = absurd (omega (arith, (back y (0, omega arith, refl)).1))
named_same name (x ∷ xs) [] up_x up_y there back = absurd (omega (arith, (there x (0, omega arith, refl)).1))
named_same name (x ∷ xs) (y ∷ ys) up_x up_y there back =
    let same = first_same (Contains-cons_cases y x ys (there x (0, omega arith, refl))) (Contains-cons_cases x y xs (back y (0, omega arith, refl))) in
    ap (λ z. z ∷ xs) same
    ∙ ap (λ zs. y ∷ zs) (named_same name xs ys (rising_rest (name x) (map name xs) up_x) (rising_rest (name y) (map name ys) up_y)
    (λ z c. ⊎_elim (λ (e : y ≡ z). let g = rest_greater name x xs z up_x c in absurd (omega (arith, g, ap name e, ap name same))) (λ h. h) (Contains-cons_cases y z ys (there z (suc c.0, omega (arith, c.1), c.2))))
    (λ z c. ⊎_elim (λ (e : x ≡ z). let g = rest_greater name y ys z up_y c in absurd (omega (arith, g, ap name e, ap name same))) (λ h. h) (Contains-cons_cases x z xs (back z (suc c.0, omega (arith, c.1), c.2)))))
  where
    first_same : (y ≡ x) ⊎ Contains ys x → (x ≡ y) ⊎ Contains xs y → x ≡ y
    first_same a b = ⊎_elim (λ (e : y ≡ x). sym e) (λ h. ⊎_elim (λ (e : x ≡ y). e) (λ g. absurd (omega (arith, rest_greater name y ys x up_y h, rest_greater name x xs y up_x g))) b) a

-- where no item has a lower name than one before it, the names do not fall
names_order : {A : Type 0} (name : A → ℕ) (xs : List A) → IsNonDecreasingBy name xs → IsNonDecreasing (map name xs)
names_order name [] order i j d le lt = absurd (omega (arith, lt))
names_order name (x ∷ xs) order i j d le lt =
    let within : j < length (x ∷ xs) = omega (arith, lt, length-map (x ∷ xs) name) in
    let at_i = get_or-map name (x ∷ xs) i x d (omega (arith, le, within)) in
    let at_j = get_or-map name (x ∷ xs) j x d within in
    omega (arith, at_i, at_j, order i j x le within)

-- what is sorted by names, which differ, stands in their order
pub sorted_by_name : {A : Type 0} (name : A → ℕ) (xs ys : List A) → IsStrictlyIncreasing (map name (by_name name xs))
    → IsPermutation xs ys
    → IsNonDecreasingBy name ys
    → ys ≡ by_name name xs
sorted_by_name name xs ys up moved order =
    let whole = IsPermutation-trans (by_name name xs) xs ys (IsPermutation-sym xs (by_name name xs) (by_name_keeps name xs)) moved in
    let rising = IsStrictlyIncreasing-from_distinct (map name ys) (names_order name ys order)
    (IsDistinct-IsPermutation eqb eqb_comm (map name (by_name name xs)) (map name ys) (IsPermutation-map name (by_name name xs) ys whole) (IsDistinct-rising (map name (by_name name xs)) up)) in
    named_same name ys (by_name name xs) rising up
    (λ z c. Contains-permutation ys (by_name name xs) z (IsPermutation-sym (by_name name xs) ys whole) c)
    (λ z c. Contains-permutation (by_name name xs) ys z whole c)

-- what a list lacks it has not
has-Lacks : (x : ℕ) (xs : List ℕ) → Lacks x xs → has xs x ≡ false
has-Lacks x [] h = refl
has-Lacks x (y ∷ ys) h = ap (λ b. b || has ys x) (ne_eqb x y (λ e. h.0 (sym e))) ∙ has-Lacks x ys h.1

-- distinct numbers pass the test
pub distinct-from : (xs : List ℕ) → Distinct xs → distinct xs ≡ true
distinct-from [] h = refl
distinct-from (x ∷ xs) h =
    and_from (not (has xs x)) (distinct xs) (ap not (has-Lacks x xs h.0)) (distinct-from xs h.1)

-- distinct names rise in their order
pub rising-by_name : {A : Type 0} (name : A → ℕ) (xs : List A) → Distinct (map name xs)
    → IsStrictlyIncreasing (map name (by_name name xs))
rising-by_name name xs h = IsStrictlyIncreasing-from_test (map name (by_name name xs)) (rises-by_name name xs (distinct-from (map name xs) h))

-- distinct numbers rise in their order
pub rising-numbers : (xs : List ℕ) → Distinct xs → IsStrictlyIncreasing (by_name (λ (n : ℕ). n) xs)
rising-numbers xs h =
    subst IsStrictlyIncreasing (map-id (by_name (λ (n : ℕ). n) xs)) (rising-by_name (λ (n : ℕ). n) xs (subst Distinct (sym (map-id xs)) h))

-- numbers in their order are the same numbers
pub has-by_number : (n : ℕ) (xs : List ℕ) → has (by_name (λ (m : ℕ). m) xs) n ≡ has xs n
has-by_number n xs =
    ap (λ ys. has ys n) (sym (map-id (by_name (λ (m : ℕ). m) xs)))
    ∙ has-by_name (λ (m : ℕ). m) n xs
    ∙ ap (λ ys. has ys n) (map-id xs)

-- a number that is found is one of the list
pub is_some-has : (n : ℕ) (xs : List ℕ) → is_some (find (λ x. eqb x n) xs) ≡ has xs n
is_some-has n [] = refl
is_some-has n (x ∷ xs) =
    cond_both (eqb x n) (Some x) (find (λ y. eqb y n) xs) (λ o. is_some o ≡ (eqb n x || has xs n))
    (λ t. sym (ap (λ b. b || has xs n) (eqb_comm n x ∙ t)))
    (λ f. is_some-has n xs ∙ sym (ap (λ b. b || has xs n) (eqb_comm n x ∙ f)))

-- of an item that is found or not, and what is known of it, the test whether it is found
pub is_some-found : {B : Type 0} (now : B → ℕ) (found : Option B) (o : Option ℕ)
    → MatchOption found (o ≡ None) (λ x. o ≡ Some (now x))
    → is_some found ≡ is_some o
is_some-found now None o e = sym (ap is_some e)
is_some-found now (Some x) o e = sym (ap is_some e)
