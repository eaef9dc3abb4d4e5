-- A cycle of a function that stays in a list is no longer than the list.
use Rattle.std.proofs.Common.{◌≡◌, ℕ, zero, suc, ◌+◌, ◌-◌, ◌<◌, ◌≤◌, List, [], ◌∷◌, length, refl, sym, ap, ◌∙◌, subst, inl, inr, ⊎_elim, arith}
use Rattle.std.specs.Fn.{iterate}
use Rattle.cp_lists.specs.CyclicLists.{Has, Lacks, Distinct}
use Rattle.cp_lists.proofs.DistinctLists.{Lacks-from}
use Rattle.cp_conn.proofs.DistinctSubsets.{subset_length}
use Rattle.cp_orbits.proofs.OrbitLaws.{iterate-add}
use Rattle.cp_orbits.specs.Orbits.{CycleLength}

-- what k steps from x on pass
abbrev walk : (ℕ → ℕ) → ℕ → ℕ → List ℕ
walk f zero x = []
walk f (suc k) x = x ∷ walk f k (f x)

-- it has one item for each step
walk-length : (f : ℕ → ℕ) (k x : ℕ) → length (walk f k x) ≡ k
walk-length f zero x = refl
walk-length f (suc k) x = ap suc (walk-length f k (f x))

-- each item is reached by fewer steps
walk-place : (f : ℕ → ℕ) (k x y : ℕ) → Has y (walk f k x) → (i : ℕ) × (i < k) × (iterate f i x ≡ y)
walk-place f zero x y h = absurd h
walk-place f (suc k) x y h =
    ⊎_elim
    (λ e. (zero, omega arith, e))
    (λ r. let w = walk-place f k (f x) y r in (suc w.0, omega (arith, w.1), w.2))
    h

-- a function that stays in a list passes only its items
walk-kept : (f : ℕ → ℕ) (ys : List ℕ) → ((z : ℕ) → Has z ys → Has (f z) ys) → (k x : ℕ) → Has x ys → (y : ℕ)
    → Has y (walk f k x) → Has y ys
walk-kept f ys keeps zero x has y h = absurd h
walk-kept f ys keeps (suc k) x has y h =
    ⊎_elim (λ e. subst (λ z. Has z ys) e has) (λ r. walk-kept f ys keeps k (f x) (keeps x has) y r) h

-- steps that reach different items pass distinct ones
walk-Distinct : (f : ℕ → ℕ) (k x : ℕ) → ((i j : ℕ) → i < j → j < k → iterate f i x ≡ iterate f j x → ⊥)
    → Distinct (walk f k x)
walk-Distinct f zero x apart = tt
walk-Distinct f (suc k) x apart = (
  Lacks-from x (walk f k (f x)) (λ h.
      let w = walk-place f k (f x) x h in apart 0 (suc w.0) (omega arith) (omega (arith, w.1)) (sym w.2)),
  walk-Distinct f k (f x) (λ i j lt le e. apart (suc i) (suc j) (omega (arith, lt)) (omega (arith, le)) e),
)

-- so the length of a cycle is at most that of the list
pub cycle-le : (f : ℕ → ℕ) (ys : List ℕ) → ((z : ℕ) → Has z ys → Has (f z) ys) → (x k : ℕ) → Has x ys
    → CycleLength f x k → k ≤ length ys
cycle-le f ys keeps x k has cycle =
    let apart : (i j : ℕ) → i < j → j < k → iterate f i x ≡ iterate f j x → ⊥ = λ i j lt le e.
    let left : (d : ℕ) × (j + d ≡ k) = (k - j, omega (arith, le)) in
    cycle.first (i + left.0) (omega (arith, left.1, le)) (omega (arith, left.1, lt))
    (iterate-add f i left.0 x ∙ ap (iterate f left.0) e ∙ sym (iterate-add f j left.0 x)
    ∙ ap (λ n. iterate f n x) left.1 ∙ cycle.returns) in
    subst (λ n. n ≤ length ys) (walk-length f k x)
    (subset_length (walk f k x) ys (walk-Distinct f k x apart) (walk-kept f ys keeps k x has))
