-- Sums over the items that pass a test.
use Rattle.std.proofs.Common.{◌≡◌, ℕ, ◌+◌, ◌≤◌, Bool, true, false, List, [], ◌∷◌, ap, ◌∙◌, arith}
use Rattle.std.specs.Prelude.{filter, Some, find}
use Rattle.std.specs.List.{sum_by}
use Rattle.std.proofs.lemmas.Bool.{cond_both, cond-true, cond-false}
use Rattle.std.proofs.lemmas.List.Sums.{sum_by-cons}

-- where one test passes only what another passes, it passes no more
pub fewer : {A : Type 0} (w : A → ℕ) (t s : A → Bool) → ((x : A) → t x ≡ true → s x ≡ true) → (xs : List A)
    → sum_by w (filter t xs) ≤ sum_by w (filter s xs)
fewer w t s less [] = omega arith
fewer w t s less (x ∷ xs) =
    let r = fewer w t s less xs in
    let cs = sum_by-cons w x (filter s xs) in
    let ct = sum_by-cons w x (filter t xs) in
    cond_both (t x) (x ∷ filter t xs) (filter t xs) (λ ys. sum_by w ys ≤ sum_by w (filter s (x ∷ xs)))
    (λ e. omega (arith, r, cs, ct, ap (sum_by w) (cond-true (s x) (x ∷ filter s xs) (filter s xs) (less x e))))
    (λ e. cond_both (s x) (x ∷ filter s xs) (filter s xs) (λ zs. sum_by w (filter t xs) ≤ sum_by w zs)
    (λ f. omega (arith, r, cs)) (λ f. r))

-- and where an item that is found passes only the other, it passes less by this item
pub fewer_by : {A : Type 0} (w : A → ℕ) (f t s : A → Bool) → ((x : A) → t x ≡ true → s x ≡ true) → (xs : List A) (p : A)
    → find f xs ≡ Some p → s p ≡ true → t p ≡ false
    → sum_by w (filter t xs) + w p ≤ sum_by w (filter s xs)
fewer_by w f t s less [] p found passes fails = absurd (cc)
fewer_by w f t s less (x ∷ xs) p found passes fails =
    let r = fewer w t s less xs in
    let cs = sum_by-cons w x (filter s xs) in
    let ct = sum_by-cons w x (filter t xs) in
    cond_both (f x) (Some x) (find f xs)
    (λ o. o ≡ Some p → sum_by w (filter t (x ∷ xs)) + w p ≤ sum_by w (filter s (x ∷ xs)))
    (λ e g.
    let same : x ≡ p = cc in
    let ft : filter t (x ∷ xs) ≡ filter t xs = cond-false (t x) (x ∷ filter t xs) (filter t xs) (ap t same ∙ fails) in
    let fs : filter s (x ∷ xs) ≡ x ∷ filter s xs =
    cond-true (s x) (x ∷ filter s xs) (filter s xs) (ap s same ∙ passes) in
    omega (arith, r, cs, ap w same, ap (sum_by w) ft, ap (sum_by w) fs))
    (λ e g.
    let q = fewer_by w f t s less xs p g passes fails in
    cond_both (t x) (x ∷ filter t xs) (filter t xs) (λ ys. sum_by w ys + w p ≤ sum_by w (filter s (x ∷ xs)))
    (λ h. omega (arith, q, cs, ct, ap (sum_by w) (cond-true (s x) (x ∷ filter s xs) (filter s xs) (less x h))))
    (λ h. cond_both (s x) (x ∷ filter s xs) (filter s xs) (λ zs. sum_by w (filter t xs) + w p ≤ sum_by w zs)
    (λ k. omega (arith, q, cs)) (λ k. q)))
    found
