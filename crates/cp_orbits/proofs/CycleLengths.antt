-- The length of a cycle of a permutation.
use Rattle.std.proofs.Common.{◌≡◌, ◌≢◌, ℕ, suc, ◌-◌, ◌<◌, ◌≤◌, true, false, eqb, sym, refl, ap, ◌∙◌, subst, ⊎_elim, arith}
use Rattle.std.specs.Fn.{iterate}
use Rattle.std.proofs.lemmas.Bool.{cases_eq, cases_lt, cases_order, eqb-true, eqb-false}
use Rattle.cp_lists.proofs.Counting.{first_below}
use Rattle.cp_orbits.specs.Orbits.{Permutes, CycleLength}
use Rattle.cp_orbits.proofs.OrbitLaws.{returns_within, iterate-agree, iterate-after, iterate-below}

-- where a step leads back there is a first such step
first_return : (f : ℕ → ℕ) (x n : ℕ) → iterate f (suc n) x ≡ x → (k : ℕ) × CycleLength f x k × (k ≤ suc n)
first_return f x n back =
    ⊎_elim
    (λ (found : (k : ℕ) × (k < suc n) × (eqb (iterate f (suc k) x) x ≡ true) × ((i : ℕ) → i < k → eqb (iterate f (suc i) x) x ≡ false)). (
      suc found.0,
      record {
        some = omega arith;
        returns = eqb-true (iterate f (suc found.0) x) x found.2;
        first = λ i low lt e.
            let before : suc (i - 1) ≡ i = omega arith in
            eqb-false (iterate f (suc (i - 1)) x) x (found.3 (i - 1) (omega arith)) (ap (λ j. iterate f j x) before ∙ e);
      },
      omega (arith, found.1),
    ))
    (λ (none : (k : ℕ) → k < suc n → eqb (iterate f (suc k) x) x ≡ false).
    absurd (eqb-false (iterate f (suc n) x) x (none n (omega arith)) back))
    (first_below (suc n) (λ k. eqb (iterate f (suc k) x) x))

-- each number has a cycle of at most n steps
pub CycleLength-exists : (n : ℕ) (f : ℕ → ℕ) → Permutes n f → (x : ℕ) → x < n → (k : ℕ) × CycleLength f x k × (k ≤ n)
CycleLength-exists n f perm x lt =
    let r = returns_within n f perm x lt in
    let w = first_return f x r.0 r.2 in
    (w.0, w.1, omega (arith, w.2, r.1))

-- a cycle has one length
pub CycleLength-unique : (f : ℕ → ℕ) (x k l : ℕ) → CycleLength f x k → CycleLength f x l → k ≡ l
CycleLength-unique f x k l one two =
    ⊎_elim
    (λ e. e)
    (λ h. absurd (⊎_elim (λ less. two.first k one.some less one.returns) (λ less. one.first l two.some less two.returns) h))
    (cases_order k l)

-- a cycle of a permutation of n numbers has at most n steps
pub CycleLength-le : (n : ℕ) (f : ℕ → ℕ) → Permutes n f → (x k : ℕ) → x < n → CycleLength f x k → k ≤ n
CycleLength-le n f perm x k lt cycle =
    let w = CycleLength-exists n f perm x lt in
    subst (λ j. j ≤ n) (CycleLength-unique f x w.0 k w.1 cycle) w.2

-- functions that agree below n, where the first stays, have the same cycle lengths
pub CycleLength-agree : (n : ℕ) (f g : ℕ → ℕ) → ((x : ℕ) → x < n → f x < n) → ((x : ℕ) → x < n → f x ≡ g x) →
    (x k : ℕ) → x < n → CycleLength f x k → CycleLength g x k
CycleLength-agree n f g below same x k lt cycle = record {
  some = cycle.some;
  returns = sym (iterate-agree n f g below same k x lt) ∙ cycle.returns;
  first = λ i low less e. cycle.first i low less (iterate-agree n f g below same i x lt ∙ e);
}

-- a walk round the cycle of x has made k steps, is here, and was not back at x before
pub record WalksCycle (f : ℕ → ℕ) (x k here : ℕ) : Type 0 where
  pub some : 1 ≤ k
  pub at : here ≡ iterate f k x
  pub first : (i : ℕ) → 1 ≤ i → i < k → iterate f i x ≢ x

-- the first step
pub WalksCycle-start : (f : ℕ → ℕ) (x : ℕ) → WalksCycle f x 1 (f x)
WalksCycle-start f x = record { some = omega arith; at = refl; first = λ i low lt e. absurd (omega arith) }

-- one step more from elsewhere
pub WalksCycle-more : (f : ℕ → ℕ) (x k here : ℕ) → WalksCycle f x k here → here ≢ x → WalksCycle f x (suc k) (f here)
WalksCycle-more f x k here walk elsewhere = record {
  some = omega arith;
  at = ap f walk.at ∙ sym (iterate-after f k x);
  first = λ i low lt e. ⊎_elim
      (λ (l : i < k). walk.first i low l e)
      (λ (g : k ≤ i). let last : i ≡ k = omega arith in elsewhere (walk.at ∙ ap (λ j. iterate f j x) (sym last) ∙ e))
      (cases_lt i k);
}

-- back at x the steps are the length of the cycle
pub WalksCycle-end : (f : ℕ → ℕ) (x k here : ℕ) → WalksCycle f x k here → here ≡ x → CycleLength f x k
WalksCycle-end f x k here walk back = record { some = walk.some; returns = sym walk.at ∙ back; first = walk.first }

-- elsewhere the steps are fewer than n
pub WalksCycle-lt : (n : ℕ) (f : ℕ → ℕ) → Permutes n f → (x k here : ℕ) → x < n → WalksCycle f x k here → here ≢ x →
    k < n
WalksCycle-lt n f perm x k here lt walk elsewhere =
    let w = CycleLength-exists n f perm x lt in
    ⊎_elim
    (λ (l : k < w.0). omega (arith, w.2))
    (λ (g : w.0 ≤ k). absurd (⊎_elim
    (λ e. elsewhere (walk.at ∙ ap (λ j. iterate f j x) (sym e) ∙ w.1.returns))
    (λ ne. walk.first w.0 w.1.some (omega arith) w.1.returns)
    (cases_eq w.0 k)))
    (cases_lt k w.0)

-- the walk stays below n
pub WalksCycle-below : (n : ℕ) (f : ℕ → ℕ) → Permutes n f → (x k here : ℕ) → x < n → WalksCycle f x k here → here < n
WalksCycle-below n f perm x k here lt walk = subst (λ y. y < n) (sym walk.at) (iterate-below n f perm k x lt)
