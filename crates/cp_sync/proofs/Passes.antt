-- Passes that look for the first number of which a property does not hold.
use Rattle.std.proofs.Common.{◌≡◌, ℕ, ◌+◌, ◌-◌, ◌^◌, ◌<◌, ◌≤◌, List, length, slice_index, sym, ap, ◌∙◌, subst, ⊎_elim, arith}
use Rattle.std.proofs.lemmas.Bool.{cases_lt}
use Rattle.std.proofs.lemmas.List.{get_or_default, get_or-take, length-take-le}
use Rattle.cp_board.specs.Faults.{IsNextName}
use Rattle.cp_sync.specs.Checks.{AllBelow}

-- with one number more
pub AllBelow-more : (holds : ℕ → Type 0) (n : ℕ) → AllBelow holds n → holds n → AllBelow holds (n + 1)
AllBelow-more holds n all here k lt =
    ⊎_elim (λ (l : k < n). all k l) (λ (g : n ≤ k). let same : n ≡ k = omega arith in subst holds same here) (cases_lt k n)

-- a name that fits and is greater than the one before it, where those before rise
pub IsNextName-from : (names : List ℕ) (k : ℕ) → k < length names → AllBelow (IsNextName names) k → 0 < k
    → slice_index names k < 2 ^ 63
    → slice_index names (k - 1) < slice_index names k
    → IsNextName names k
IsNextName-from names k lt all pos fit less = (
  fit,
  λ j d l.
      let below : j < k = subst (λ n. j < n) (length-take-le k names (omega (arith, lt))) l in
      let at = get_or-take k names j d below ∙ get_or_default names j d 0 (omega (arith, below, lt)) in
      ⊎_elim
      (λ (b : j < k - 1).
      let earlier = (all (k - 1) (omega (arith, pos))).1 j 0 (subst (λ n. j < n) (sym (length-take-le (k - 1) names (omega (arith, lt)))) b) in
      omega (arith, at, earlier, get_or-take (k - 1) names j 0 b, less))
      (λ (g : k - 1 ≤ j). let same : j ≡ k - 1 = omega (arith, below) in omega (arith, at, ap (slice_index names) same, less))
      (cases_lt j (k - 1)),
)

-- the next name is greater than the one before it
pub IsNextName-greater : (names : List ℕ) (k : ℕ) → k < length names → 0 < k → IsNextName names k
    → slice_index names (k - 1) < slice_index names k
IsNextName-greater names k lt pos next =
    let before = next.1 (k - 1) 0 (subst (λ n. k - 1 < n) (sym (length-take-le k names (omega (arith, lt)))) (omega (arith, pos))) in
    omega (arith, before, get_or-take k names (k - 1) 0 (omega (arith, pos)))
