-- A binary search in a rising set.
use Rattle.std.proofs.Common.{◌≡◌, ℕ, zero, suc, ◌<◌, ◌≤◌, ◌⊎◌, List, [], ◌∷◌, length, get_or, slice_index, Result, Ok, Err, MatchResult, inl, inr, ⊎_elim, sym, arith}
use Rattle.std.specs.Prelude.{is_ok, eqb}
use Rattle.std.specs.List.Sorted.{IsStrictlyIncreasing}
use Rattle.std.proofs.lemmas.Bool.{eq-eqb, cases_Bool}
use Rattle.std.proofs.lemmas.List.Folds.{list_any_at}
use Rattle.cp_lists.proofs.DistinctLists.{Has-place, Has_at}
use Rattle.cp_pq.specs.Orders.{inside}
use Rattle.cp_pq.proofs.LeafSets.{inside_of, greater, rest_rises}

-- the items of a rising list do not fall
pub not_falling : (xs : List ℕ) → IsStrictlyIncreasing xs → (i j : ℕ) → i ≤ j → j < length xs
    → get_or xs i 0 ≤ get_or xs j 0
not_falling [] h i j le lt = absurd (omega (arith, lt))
not_falling (x ∷ xs) h zero zero le lt = omega arith
not_falling (x ∷ xs) h zero (suc j) le lt =
    let g : x < slice_index xs j = greater x xs h (slice_index xs j) (Has_at xs j (omega (arith, lt))) in omega (arith, g)
not_falling (x ∷ xs) h (suc i) zero le lt = absurd (omega (arith, le))
not_falling (x ∷ xs) h (suc i) (suc j) le lt = not_falling xs (rest_rises x xs h) i j (omega (arith, le)) (omega (arith, lt))

-- what is found is in the set, and what is not is not
pub searched_inside : (set : List ℕ) (x : ℕ) (r : Result ℕ ℕ)
    → MatchResult r (λ i. (i < length set) × (get_or set i 0 ≡ x))
    (λ i. (i ≤ length set) × ((k : ℕ) → k < i → get_or set k 0 < x) × ((k : ℕ) → i ≤ k → k < length set
    → x < get_or set k 0))
    → is_ok r ≡ inside set x
searched_inside set x (Ok i) h = sym (list_any_at (λ y. eqb y x) set i 0 h.0 (eq-eqb (get_or set i 0) x h.1))
searched_inside set x (Err i) h = ⊎_elim
    (λ e. let p = Has-place x set (inside_of set x e) in
    let lt = p.1 in let at : get_or set p.0 0 ≡ x = p.2 in
    absurd (⊎_elim
    (λ low. let g = h.1 p.0 low in omega (arith, g, at))
    (λ high. let g = h.2 p.0 high p.1 in omega (arith, g, at))
    (side p.0 i)))
    (λ e. sym e)
    (cases_Bool (inside set x))
  where
    side : (k i : ℕ) → (k < i) ⊎ (i ≤ k)
    side zero zero = inr (omega arith)
    side zero (suc i) = inl (omega arith)
    side (suc k) zero = inr (omega arith)
    side (suc k) (suc i) = ⊎_elim (λ a. inl (omega (arith, a))) (λ a. inr (omega (arith, a))) (side k i)
