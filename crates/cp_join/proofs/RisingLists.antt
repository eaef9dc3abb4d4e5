-- Numbers that rise, and lists of lists of numbers.
use Rattle.std.proofs.Common.{◌≡◌, ◌⊎◌, ℕ, zero, suc, ◌+◌, ◌<◌, List, [], ◌∷◌, length, slice_index, slice_index_or, sym, subst, inl, inr, ⊎_elim, arith}
use Rattle.std.specs.List.{flat_map}
use Rattle.std.specs.List.Sorted.{IsStrictlyIncreasing}
use Rattle.std.proofs.lemmas.Bool.{cases_order}
use Rattle.cp_lists.specs.CyclicLists.{Distinct, Has}
use Rattle.cp_lists.proofs.DistinctLists.{Distinct-append, Has-append_cases, Has-append_left, Has-append_right, Lacks-from}
use Rattle.cp_board.proofs.NamedLists.{rises_from}
use Rattle.cp_board.proofs.NumberOfNewNames.{Distinct-from_rises}

-- what rises is distinct
pub Distinct-rising : (xs : List ℕ) → IsStrictlyIncreasing xs → Distinct xs
Distinct-rising xs up = Distinct-from_rises xs (rises_from xs up)

-- numbers that rise are in the order of their places
pub rising_order : (xs : List ℕ) → IsStrictlyIncreasing xs → (j k : ℕ) → j < k → k < length xs
    → slice_index xs j < slice_index xs k
rising_order xs up j zero lt within = absurd (omega (arith, lt))
rising_order xs up j (suc k) lt within =
    let next : slice_index xs k < slice_index xs (suc k) =
    subst (λ n. slice_index xs k < slice_index xs n) (let e : k + 1 ≡ suc k = omega arith in e)
    (up k (omega (arith, within))) in
    ⊎_elim
    (λ (e : j ≡ k). subst (λ n. slice_index xs n < slice_index xs (suc k)) (sym e) next)
    (λ (less : j < k). omega (arith, rising_order xs up j k less (omega (arith, within)), next))
    (cases j k (omega (arith, lt)))
  where
    cases : (m n : ℕ) → m < suc n → (m ≡ n) ⊎ (m < n)
    cases m n l = ⊎_elim (λ e. inl e) (λ o. ⊎_elim (λ a. inr a) (λ b. absurd (omega (arith, l, b))) o) (cases_order m n)

-- what is in some list is in all of them together
pub Has-flat_map : (d : ℕ) (parts : List (List ℕ)) (i : ℕ) → i < length parts → Has d (slice_index_or parts i [])
    → Has d (flat_map (λ part. part) parts)
Has-flat_map d [] i lt h = absurd (omega (arith, lt))
Has-flat_map d (part ∷ parts) zero lt h = Has-append_left d part (flat_map (λ x. x) parts) h
Has-flat_map d (part ∷ parts) (suc i) lt h =
    Has-append_right d part (flat_map (λ x. x) parts) (Has-flat_map d parts i (omega (arith, lt)) h)

-- and the other way round
pub Has-some_part : (d : ℕ) (parts : List (List ℕ)) → Has d (flat_map (λ part. part) parts)
    → (i : ℕ) × (i < length parts) × Has d (slice_index_or parts i [])
Has-some_part d [] h = elim h [ ]
Has-some_part d (part ∷ parts) h =
    ⊎_elim
    (λ k. (0, omega arith, k))
    (λ k. let r = Has-some_part d parts k in (suc r.0, omega (arith, r.1), r.2))
    (Has-append_cases d part (flat_map (λ x. x) parts) h)

-- distinct lists of which no two have an item in common are distinct together
pub Distinct-flat_map : (parts : List (List ℕ)) → ((i : ℕ) → i < length parts → Distinct (slice_index_or parts i []))
    → ((i j d : ℕ) → i < j → j < length parts → Has d (slice_index_or parts i [])
    → Has d (slice_index_or parts j []) → ⊥)
    → Distinct (flat_map (λ part. part) parts)
Distinct-flat_map [] each apart = tt
Distinct-flat_map (part ∷ parts) each apart =
    Distinct-append part (flat_map (λ x. x) parts) (each 0 (omega arith))
    (Distinct-flat_map parts (λ i lt. each (suc i) (omega (arith, lt)))
    (λ i j d lt within h k. apart (suc i) (suc j) d (omega (arith, lt)) (omega (arith, within)) h k))
    (λ d h. Lacks-from d (flat_map (λ x. x) parts) (λ k.
    let r = Has-some_part d parts k in
    apart 0 (suc r.0) d (omega arith) (omega (arith, r.1)) h r.2))
