-- The parts of a list in front of the first of some item and behind it, by its place.
use Rattle.std.proofs.Common.{◌≡◌, ◌≢◌, ℕ, zero, suc, ◌+◌, ◌<◌, ◌≤◌, eqb, List, [], ◌∷◌, drop, get_or, length, take, sym, refl, ap, ◌∙◌, arith}
use Rattle.std.proofs.lemmas.Bool.{cond-false, cond-true, eq-eqb, ne_eqb}
use Rattle.cp_plant.specs.TreeWords.{behind, in_front}

-- what stands behind the first n items
later : (y : ℕ) (ys : List ℕ) (n m : ℕ) → n ≡ suc m → drop (n + 1) (y ∷ ys) ≡ drop (m + 1) ys
later y ys n m e = let one : n + 1 ≡ suc (m + 1) = omega (arith, e) in rw one refl

-- an item that stands at a place, and nowhere before
pub parted_at : (x : ℕ) (xs : List ℕ) (p : ℕ) → p < length xs → ((k : ℕ) → k < p → get_or xs k 0 ≡ x → ⊥)
    → get_or xs p 0 ≡ x → (take p xs ≡ in_front x xs) × (drop (p + 1) xs ≡ behind x xs)
parted_at x [] p lt none here = absurd (omega (arith, lt))
parted_at x (y ∷ ys) zero lt none here = (
  sym (cond-true (eqb y x) [] (y ∷ in_front x ys) (eq-eqb y x here)),
  sym (cond-true (eqb y x) ys (behind x ys) (eq-eqb y x here)),
)
parted_at x (y ∷ ys) (suc p) lt none here =
    let other : y ≢ x = none 0 (omega arith) in
    let rest = parted_at x ys p (omega (arith, lt)) (λ k low e. none (suc k) (omega (arith, low)) e) here in (
      ap (λ zs. y ∷ zs) rest.0 ∙ sym (cond-false (eqb y x) [] (y ∷ in_front x ys) (ne_eqb y x other)),
      later y ys (suc p) p (omega arith) ∙ rest.1 ∙ sym (cond-false (eqb y x) ys (behind x ys) (ne_eqb y x other)),
    )

-- an item that stands nowhere
pub parted_none : (x : ℕ) (xs : List ℕ) → ((k : ℕ) → k < length xs → get_or xs k 0 ≡ x → ⊥)
    → (take (length xs) xs ≡ in_front x xs) × (drop (length xs + 1) xs ≡ behind x xs)
parted_none x [] none = (refl, refl)
parted_none x (y ∷ ys) none =
    let other : y ≢ x = none 0 (omega arith) in
    let rest = parted_none x ys (λ k low e. none (suc k) (omega (arith, low)) e) in (
      ap (λ zs. y ∷ zs) rest.0 ∙ sym (cond-false (eqb y x) [] (y ∷ in_front x ys) (ne_eqb y x other)),
      later y ys (length (y ∷ ys)) (length ys) (omega arith) ∙ rest.1
          ∙ sym (cond-false (eqb y x) ys (behind x ys) (ne_eqb y x other)),
    )

-- nothing stands behind the end
pub nothing_behind : (xs : List ℕ) (p : ℕ) → length xs ≤ p → drop (p + 1) xs ≡ []
nothing_behind [] p le = let one : p + 1 ≡ suc p = omega arith in rw one refl
nothing_behind (x ∷ xs) zero le = absurd (omega (arith, le))
nothing_behind (x ∷ xs) (suc p) le = later x xs (suc p) p (omega arith) ∙ nothing_behind xs p (omega (arith, le))
