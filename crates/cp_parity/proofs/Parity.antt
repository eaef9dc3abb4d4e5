-- Sums of bits, and the parity of a list of equations.
use Rattle.std.proofs.Common.{◌≡◌, ℕ, zero, suc, ◌+◌, ◌%◌, Bool, true, false, cond, List, [], ◌∷◌, ◌++◌, Some, reverse, slice_get, sym, refl, ap, ◌∙◌, arith}
use Rattle.std.specs.List.{count_by}
use Rattle.std.proofs.lemmas.List.{reverse-append}
use Rattle.std.proofs.lemmas.List.Sums.{sum_by-cons}
use Rattle.std.proofs.lemmas.Option.{none-some, same_Some}
use Rattle.cp_base.specs.declared.equation.Equation.{Equation}
use Rattle.cp_base.proofs.Bits.{differ-assoc, differ-comm, differ_false}
use Rattle.cp_parity.specs.Equations.{differ, is_odd_at}
use Rattle.cp_parity.specs.Search.{parity}

-- bits that are not equal to those that a test wants differ by one
pub differ_ne : (a b c : Bool) → (differ a b ≡ c → ⊥) → differ c (differ a b) ≡ true
differ_ne true true true ne = refl
differ_ne true true false ne = absurd (ne refl)
differ_ne true false true ne = absurd (ne refl)
differ_ne true false false ne = refl
differ_ne false true true ne = absurd (ne refl)
differ_ne false true false ne = refl
differ_ne false false true ne = refl
differ_ne false false false ne = absurd (ne refl)

-- the equation at a place tells whether it is odd
pub is_odd_at-is : (eqs : List Equation) (place : ℕ) (e : Equation) → slice_get eqs place ≡ Some e
    → is_odd_at eqs place ≡ e.odd
is_odd_at-is [] place e at = absurd (none-some e at)
is_odd_at-is (x ∷ eqs) zero e at = ap (λ (z : Equation). z.odd) (same_Some x e at)
is_odd_at-is (x ∷ eqs) (suc place) e at = is_odd_at-is eqs place e at

-- the parity of two lists together
pub parity-append : (eqs : List Equation) (ps qs : List ℕ) → parity eqs (ps ++ qs) ≡ differ (parity eqs ps)
    (parity eqs qs)
parity-append eqs [] qs = sym (differ_false (parity eqs qs))
parity-append eqs (p ∷ ps) qs =
    ap (differ (is_odd_at eqs p)) (parity-append eqs ps qs) ∙ sym
    (differ-assoc (is_odd_at eqs p) (parity eqs ps) (parity eqs qs))

-- the parity of one place
pub parity_one : (eqs : List Equation) (p : ℕ) → parity eqs (p ∷ []) ≡ is_odd_at eqs p
parity_one eqs p = differ-comm (is_odd_at eqs p) false ∙ differ_false (is_odd_at eqs p)

-- the reverse has the same parity
pub parity-reverse : (eqs : List Equation) (ps : List ℕ) → parity eqs (reverse ps) ≡ parity eqs ps
parity-reverse eqs [] = refl
parity-reverse eqs (p ∷ ps) =
    ap (parity eqs) (reverse-append (p ∷ []) ps)
    ∙ parity-append eqs (reverse ps) (p ∷ [])
    ∙ ap (λ b. differ b (parity eqs (p ∷ []))) (parity-reverse eqs ps)
    ∙ ap (differ (parity eqs ps)) (parity_one eqs p)
    ∙ differ-comm (parity eqs ps) (is_odd_at eqs p)

-- a bit more
bit_more : (b c : Bool) (n : ℕ) → n % 2 ≡ cond c 1 0 → (cond b 1 0 + n) % 2 ≡ cond (differ b c) 1 0
bit_more true true n e = omega arith
bit_more true false n e = omega arith
bit_more false true n e = omega arith
bit_more false false n e = omega arith

-- the parity tells whether the number of odd equations is odd
pub parity-count : (eqs : List Equation) (ps : List ℕ) → count_by (is_odd_at eqs) ps % 2 ≡ cond (parity eqs ps) 1 0
parity-count eqs [] = refl
parity-count eqs (p ∷ ps) =
    ap (λ (n : ℕ). n % 2) (sum_by-cons (λ (x : ℕ). cond (is_odd_at eqs x) 1 0) p ps)
    ∙ bit_more (is_odd_at eqs p) (parity eqs ps) (count_by (is_odd_at eqs) ps) (parity-count eqs ps)
