-- The two darts of an edge.
use Rattle.std.proofs.Common.{◌≡◌, ◌≢◌, ℕ, ◌+◌, ◌-◌, ◌*◌, ◌/◌, ◌%◌, ◌<◌, ◌⊎◌, sym, refl, ap, ◌∙◌, subst, inl, inr, ⊎_elim, arith}
use Rattle.std.proofs.lemmas.Bool.{cases_eq, eq-eqb, ne_eqb}
use Rattle.cp_orbits.specs.Twins.{twin}

-- the twin of an even dart
pub twin_even : (d : ℕ) → d % 2 ≡ 0 → twin d ≡ d + 1
twin_even d e = rw (eq-eqb (d % 2) 0 e) refl

-- the twin of an odd dart
pub twin_odd : (d : ℕ) → (d % 2 ≡ 0 → ⊥) → twin d ≡ d - 1
twin_odd d ne = rw (ne_eqb (d % 2) 0 ne) refl

-- the twin of the twin is the dart
pub twin-twin : (d : ℕ) → twin (twin d) ≡ d
twin-twin d =
    ⊎_elim
    (λ e. ap twin (twin_even d e) ∙ twin_odd (d + 1) (λ f. omega arith) ∙ omega arith)
    (λ ne. ap twin (twin_odd d ne) ∙ twin_even (d - 1) (omega arith) ∙ omega arith)
    (cases_eq (d % 2) 0)

-- below an even number twins stay below it
pub twin-below : (n d : ℕ) → n ≡ 2 * (n / 2) → d < n → twin d < n
twin-below n d even lt =
    ⊎_elim
    (λ e. subst (λ t. t < n) (sym (twin_even d e)) (omega arith))
    (λ ne. subst (λ t. t < n) (sym (twin_odd d ne)) (omega arith))
    (cases_eq (d % 2) 0)

-- two darts with one twin are equal
pub twin-apart : (c d : ℕ) → twin c ≡ twin d → c ≡ d
twin-apart c d e = sym (twin-twin c) ∙ ap twin e ∙ twin-twin d

-- no dart is its own twin
pub twin-other : (d : ℕ) → twin d ≢ d
twin-other d e = ⊎_elim (λ even. omega (arith, twin_even d even)) (λ odd. omega (arith, twin_odd d odd)) (cases_eq (d % 2) 0)

-- twins are of one edge
pub half_twin : (d : ℕ) → twin d / 2 ≡ d / 2
half_twin d =
    ⊎_elim
    (λ e. ap (λ (y : ℕ). y / 2) (twin_even d e) ∙ omega arith)
    (λ ne. ap (λ (y : ℕ). y / 2) (twin_odd d ne) ∙ omega arith)
    (cases_eq (d % 2) 0)

-- two darts of one edge are one, or twins
pub same_half : (d f : ℕ) → d / 2 ≡ f / 2 → (d ≡ f) ⊎ (f ≡ twin d)
same_half d f e =
    ⊎_elim
    (λ even. ⊎_elim
    (λ h. inl (omega arith))
    (λ nh. inr (let odd : f ≡ d + 1 = omega arith in odd ∙ sym (twin_even d even)))
    (cases_eq (f % 2) 0))
    (λ odd. ⊎_elim
    (λ h. inr (let even : f ≡ d - 1 = omega arith in even ∙ sym (twin_odd d odd)))
    (λ nh. inl (omega arith))
    (cases_eq (f % 2) 0))
    (cases_eq (d % 2) 0)
