-- Functions that are chosen number by number, and numbers that are matched to each other.
use Rattle.std.proofs.Common.{◌≡◌, ℕ, zero, suc, ◌<◌, ◌≤◌, true, cond, eqb, sym, refl, ap, ◌∙◌, subst, ⊎_elim, arith}
use Rattle.std.proofs.lemmas.Bool.{cases_eq, cond-true, cond-false, eq-eqb, ne_eqb}
use Rattle.cp_lists.proofs.Counting.{count_all, count_inject}

-- a number with a property for each below n makes a function
pub choose : (n : ℕ) (R : ℕ → ℕ → Type 0) → ((x : ℕ) → x < n → (y : ℕ) × R x y) →
    (f : ℕ → ℕ) × ((x : ℕ) → x < n → R x (f x))
choose zero R each = (λ x. 0, λ x lt. absurd (omega arith))
choose (suc n) R each =
    let rest = choose n R (λ x lt. each x (omega arith)) in
    let last = each n (omega arith) in (
      λ x. cond (eqb x n) last.0 (rest.0 x),
      λ x lt. ⊎_elim
          (λ e. subst (λ y. R x y) (sym (cond-true (eqb x n) last.0 (rest.0 x) (eq-eqb x n e))) (subst (λ y. R y last.0) (sym e) last.1))
          (λ ne. subst (λ y. R x y) (sym (cond-false (eqb x n) last.0 (rest.0 x) (ne_eqb x n ne))) (rest.1 x (omega arith)))
          (cases_eq x n),
    )

-- numbers below n and below m that are given to each other are equally many
pub same_size : (n m : ℕ) (p q : ℕ → ℕ) → ((x : ℕ) → x < n → (p x < m) × (q (p x) ≡ x)) →
    ((x : ℕ) → x < m → (q x < n) × (p (q x) ≡ x)) → n ≡ m
same_size n m p q there back = omega (arith, half n m p q there, half m n q p back)
  where
    half : (n m : ℕ) (p q : ℕ → ℕ) → ((x : ℕ) → x < n → (p x < m) × (q (p x) ≡ x)) → n ≤ m
    half n m p q there = omega (
      arith,
      count_all n (λ x. true) (λ x lt. refl),
      count_all m (λ x. true) (λ x lt. refl),
      count_inject n m (λ x. true) (λ x. true) p (λ x lt t. ((there x lt).0, refl)) (λ x y ltx lty tx ty e. sym (there x ltx).1 ∙ ap q e ∙ (there y lty).1),
    )
