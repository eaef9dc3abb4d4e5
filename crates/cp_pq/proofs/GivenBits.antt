-- Licences of bits, and equations over bits with more bits behind them.
use Rattle.std.proofs.Common.{◌≡◌, ℕ, zero, suc, ◌<◌, Bool, true, false, List, [], ◌∷◌, ◌++◌, length, length-append, ◌↔◌, refl, sym, ap, ap₂, ◌∙◌, subst, arith}
use Rattle.std.specs.Prelude.{nat_lt}
use Rattle.std.specs.Bool.{beq}
use Rattle.std.specs.List.{AllByRecursion}
use Rattle.std.proofs.lemmas.Bool.{and_parts, and_from, ltb-true, lt-ltb, false≢true}
use Rattle.cp_base.specs.declared.equation.Equation.{Equation}
use Rattle.cp_base.proofs.Bits.{differ-comm, differ_back, differ_twice}
use Rattle.cp_pq.specs.Bits.{differ, bit_of, IsMet, IsOverVars}
use Rattle.cp_pq.specs.Readings.{given}
use Rattle.cp_pq.specs.Words.{Licensed}
use Rattle.cp_pq.specs.Ties.{tie_equations}
use Rattle.cp_pq.specs.Changes.{Wider, by_bit}

-- a bit passes the test for itself
beq_refl : (c : Bool) → beq c c ≡ true
beq_refl true = refl
beq_refl false = refl

-- equal bits pass
beq_is : (c b : Bool) → beq c b ≡ true → b ≡ c
beq_is true true h = refl
beq_is true false h = absurd (false≢true h)
beq_is false true h = absurd (false≢true h)
beq_is false false h = refl

-- the bit that a licence of bits gives a var
pub given_parts : (bits : List Bool) (v : ℕ) (b : Bool) → given bits v b ≡ true
    → (v < length bits) × (b ≡ bit_of bits v)
given_parts bits v b h =
    let g = and_parts (nat_lt v (length bits)) (beq (bit_of bits v) b) h in
    (ltb-true v (length bits) g.0, beq_is (bit_of bits v) b g.1)

-- a var among the bits has its bit
pub given_from : (bits : List Bool) (v : ℕ) → v < length bits → given bits v (bit_of bits v) ≡ true
given_from bits v lt = and_from (nat_lt v (length bits)) (beq (bit_of bits v) (bit_of bits v)) (lt-ltb v (length bits) lt) (beq_refl (bit_of bits v))

-- more bits change no bit that was there
pub bit_append : (bits more : List Bool) (v : ℕ) → v < length bits → bit_of (bits ++ more) v ≡ bit_of bits v
bit_append [] more v lt = absurd (omega (arith, lt))
bit_append (b ∷ bits) more zero lt = refl
bit_append (b ∷ bits) more (suc v) lt = bit_append bits more v (omega (arith, lt))

-- the bit behind the others
pub bit_last : (bits : List Bool) (c : Bool) → bit_of (bits ++ c ∷ []) (length bits) ≡ c
bit_last [] c = refl
bit_last (b ∷ bits) c = bit_last bits c

-- more bits license what was licensed
pub given_wider : (bits more : List Bool) → Wider (given bits) (given (bits ++ more))
given_wider bits more v b h =
    let g = given_parts bits v b h in
    let l = length-append bits more in
    let e : b ≡ bit_of (bits ++ more) v = g.1 ∙ sym (bit_append bits more v g.0) in
    let lt = g.0 in
    subst (λ z. given (bits ++ more) v z ≡ true) (sym e) (given_from (bits ++ more) v (omega (arith, l, lt)))

-- and nothing more of the vars that were there
pub given_below : (bits more : List Bool) (v : ℕ) (b : Bool) → v < length bits → given (bits ++ more) v b ≡ true
    → given bits v b ≡ true
given_below bits more v b lt h =
    let g = given_parts (bits ++ more) v b h in
    subst (λ z. given bits v z ≡ true) (sym (g.1 ∙ bit_append bits more v lt)) (given_from bits v lt)

-- equations over the bits that were there
pub met_append : (bits more : List Bool) (eqs : List Equation) → AllByRecursion (IsOverVars (length bits)) eqs
    → AllByRecursion (IsMet bits) eqs → AllByRecursion (IsMet (bits ++ more)) eqs
met_append bits more [] o h = tt
met_append bits more (e ∷ eqs) o h =
    (ap₂ differ (bit_append bits more e.x o.0.0) (bit_append bits more e.y o.0.1) ∙ h.0, met_append bits more eqs o.1 h.1)

-- and back
pub append_met : (bits more : List Bool) (eqs : List Equation) → AllByRecursion (IsOverVars (length bits)) eqs
    → AllByRecursion (IsMet (bits ++ more)) eqs → AllByRecursion (IsMet bits) eqs
append_met bits more [] o h = tt
append_met bits more (e ∷ eqs) o h = (
  sym (ap₂ differ (bit_append bits more e.x o.0.0) (bit_append bits more e.y o.0.1)) ∙ h.0,
  append_met bits more eqs o.1 h.1,
)

-- ties that hold are equations that are met
pub ties_met : (bits : List Bool) (y : ℕ) (ts : List (ℕ × Bool))
    → Licensed false (by_bit (bit_of bits y) (given bits)) ts → AllByRecursion (IsMet bits) (tie_equations y ts)
ties_met bits y [] h = tt
ties_met bits y (t ∷ ts) h = (
  ap (λ b. differ b (bit_of bits y)) (sym (given_parts bits t.0 (differ (bit_of bits y) t.1) h.0).1)
      ∙ differ_back (bit_of bits y) t.1,
  ties_met bits y ts h.1,
)

-- and back, where their vars have bits
pub met_ties : (bits : List Bool) (y : ℕ) (ts : List (ℕ × Bool))
    → AllByRecursion (IsOverVars (length bits)) (tie_equations y ts) → AllByRecursion (IsMet bits) (tie_equations y ts)
    → Licensed false (by_bit (bit_of bits y) (given bits)) ts
met_ties bits y [] o h = tt
met_ties bits y (t ∷ ts) o h =
    let a = bit_of bits t.0 in
    let b = bit_of bits y in
    let same : a ≡ differ b t.1 = sym (differ_twice a b) ∙ differ-comm (differ a b) b ∙ ap (differ b) h.0 in
    (subst (λ z. given bits t.0 z ≡ true) same (given_from bits t.0 o.0.0), met_ties bits y ts o.1 h.1)

-- ties licensed with the bit of a var are ties licensed in that direction
pub by_bit-Licensed : (b : Bool) (may : ℕ → Bool → Bool) (ts : List (ℕ × Bool))
    → Licensed false (by_bit b may) ts ↔ Licensed b may ts
by_bit-Licensed b may [] = (λ l. tt, λ l. tt)
by_bit-Licensed b may (t ∷ ts) =
    let rest = by_bit-Licensed b may ts in (λ l. (l.0, rest.0 l.1), λ l. (l.0, rest.1 l.1))
