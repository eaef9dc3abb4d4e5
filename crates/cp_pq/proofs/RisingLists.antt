-- Rising lists: what is put before or behind them, and their first items.
use Rattle.std.proofs.Common.{◌≡◌, ℕ, zero, suc, ◌+◌, ◌<◌, List, [], ◌∷◌, ◌++◌, length, slice_index, take, inl}
use Rattle.std.proofs.Common.{inr, ⊎_elim, refl, subst, arith}
use Rattle.std.specs.List.Sorted.{IsStrictlyIncreasing}
use Rattle.cp_lists.specs.CyclicLists.{Has, Distinct}
use Rattle.cp_lists.proofs.DistinctLists.{Lacks-from, Has_at, Has-append_cases}
use Rattle.cp_pq.proofs.LeafSets.{greater, rest_rises}

-- a rising list has no item twice
pub rising_distinct : (xs : List ℕ) → IsStrictlyIncreasing xs → Distinct xs
rising_distinct [] h = tt
rising_distinct (x ∷ xs) h =
    (Lacks-from x xs (λ m. let g = greater x xs h x m in omega (arith, g)), rising_distinct xs (rest_rises x xs h))

-- an item less than all others before a rising list
rises_from : (x : ℕ) (xs : List ℕ) → ((y : ℕ) → Has y xs → x < y) → IsStrictlyIncreasing xs
    → IsStrictlyIncreasing (x ∷ xs)
rises_from x xs less h zero lt = less (slice_index xs 0) (Has_at xs 0 (omega (arith, lt)))
rises_from x xs less h (suc k) lt =
    let e : suc (k + 1) ≡ suc k + 1 = omega arith in
    subst (λ z. slice_index (x ∷ xs) (suc k) < slice_index (x ∷ xs) z) e (h k (omega (arith, lt)))

-- no item
pub none_rises : IsStrictlyIncreasing []
none_rises k lt = absurd (omega (arith, lt))

-- the first items of a list are items of it
pub take_has : (k : ℕ) (xs : List ℕ) (y : ℕ) → Has y (take k xs) → Has y xs
take_has zero xs y m = absurd m
take_has (suc k) [] y m = absurd m
take_has (suc k) (x ∷ xs) y m = ⊎_elim (λ e. inl e) (λ n. inr (take_has k xs y n)) m

-- and rise where the list does
pub take_rises : (k : ℕ) (xs : List ℕ) → IsStrictlyIncreasing xs → IsStrictlyIncreasing (take k xs)
take_rises zero xs h = none_rises
take_rises (suc k) [] h = none_rises
take_rises (suc k) (x ∷ xs) h =
    rises_from x (take k xs) (λ y m. greater x xs h y (take_has k xs y m)) (take_rises k xs (rest_rises x xs h))

-- an item greater than all others behind a rising list
pub push_rises : (xs : List ℕ) (x : ℕ) → IsStrictlyIncreasing xs → ((y : ℕ) → Has y xs → y < x)
    → IsStrictlyIncreasing (xs ++ x ∷ [])
push_rises [] x h less = rises_from x [] (λ y m. absurd m) none_rises
push_rises (z ∷ xs) x h less =
    rises_from z (xs ++ x ∷ [])
    (λ y m. ⊎_elim (λ n. greater z xs h y n)
    (λ n. ⊎_elim (λ e. subst (λ w. z < w) e (less z (inl refl))) (λ b. absurd b) n)
    (Has-append_cases y xs (x ∷ []) m))
    (push_rises xs x (rest_rises z xs h) (λ y m. less y (inr m)))

-- some first items are no empty list
pub take_some : (k : ℕ) (xs : List ℕ) → 0 < k → k < length xs → take k xs ≡ [] → ⊥
take_some zero xs pos lt e = omega (arith, pos)
take_some (suc k) [] pos lt e = omega (arith, lt)
take_some (suc k) (x ∷ xs) pos lt e = cc
