-- The numbers of a range.
use Rattle.std.proofs.Common.{ℕ, zero, suc, ◌+◌, ◌<◌, ◌≤◌, inl, inr, ⊎_elim, arith}
use Rattle.std.specs.List.{range_with_len}
use Rattle.std.proofs.lemmas.Bool.{cases_eq}
use Rattle.cp_lists.specs.CyclicLists.{Distinct, Has}
use Rattle.cp_lists.proofs.DistinctLists.{Lacks-from}

-- an item of a range is within its bounds
pub range-Has : (x a n : ℕ) → Has x (range_with_len a n) → (a ≤ x) × (x < a + n)
range-Has x a zero h = absurd h
range-Has x a (suc n) h = ⊎_elim (λ e. (omega arith, omega arith))
    (λ k. let r = range-Has x (a + 1) n k in (omega (arith, r.0), omega (arith, r.1))) h

-- a number within the bounds is an item
pub Has-range : (x a n : ℕ) → a ≤ x → x < a + n → Has x (range_with_len a n)
Has-range x a zero le lt = absurd (omega arith)
Has-range x a (suc n) le lt =
    ⊎_elim (λ e. inl e) (λ ne. inr (Has-range x (a + 1) n (omega arith) (omega arith))) (cases_eq a x)

-- no number stands twice
pub Distinct-range : (a n : ℕ) → Distinct (range_with_len a n)
Distinct-range a zero = tt
Distinct-range a (suc n) = (
  Lacks-from a (range_with_len (a + 1) n) (λ h. let r = range-Has a (a + 1) n h in omega (arith, r.0)),
  Distinct-range (a + 1) n,
)
