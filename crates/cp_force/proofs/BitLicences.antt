-- Licences of bits, and ties as equations.
use Rattle.std.proofs.Common.{◌≡◌, ℕ, ◌<◌, Bool, false, List, [], ◌∷◌, length, sym, ◌∙◌, subst}
use Rattle.std.specs.List.{AllByRecursion}
use Rattle.cp_pq.specs.Bits.{bit_of, IsMet, IsOverVars}
use Rattle.cp_pq.specs.Readings.{given}
use Rattle.cp_pq.specs.Words.{Licensed}
use Rattle.cp_pq.specs.Ties.{tie_equations}
use Rattle.cp_force.specs.Fits.{AreBelow}
use Rattle.cp_force.proofs.TiedParts.{HasOneBit}
use Rattle.cp_pq.specs.Changes.{by_bit}
use Rattle.cp_pq.proofs.GivenBits.{by_bit-Licensed, given_parts, met_ties, ties_met}

-- bits give each var one bit
pub given_one : (bits : List Bool) → HasOneBit (given bits)
given_one bits v a b h g = (given_parts bits v a h).1 ∙ sym (given_parts bits v b g).1

-- the equations of ties are over the vars
pub ties_over : (vars y : ℕ) (ts : List (ℕ × Bool)) → AreBelow vars ts → y < vars
    → AllByRecursion (IsOverVars vars) (tie_equations y ts)
ties_over vars y [] low lt = tt
ties_over vars y (t ∷ ts) low lt = ((low.0, lt), ties_over vars y ts low.1 lt)

-- ties licensed by bits are equations that the bits meet
pub ties-IsMet : (bits : List Bool) (y : ℕ) (b : Bool) (ts : List (ℕ × Bool)) → b ≡ bit_of bits y
    → Licensed b (given bits) ts → AllByRecursion (IsMet bits) (tie_equations y ts)
ties-IsMet bits y b ts e l =
    ties_met bits y ts
    (subst (λ c. Licensed false (by_bit c (given bits)) ts) e ((by_bit-Licensed b (given bits) ts).1 l))

-- and back, where their vars have bits
pub met-Licensed : (bits : List Bool) (y : ℕ) (ts : List (ℕ × Bool)) → AreBelow (length bits) ts → y < length bits
    → AllByRecursion (IsMet bits) (tie_equations y ts) → Licensed (bit_of bits y) (given bits) ts
met-Licensed bits y ts low lt met =
    (by_bit-Licensed (bit_of bits y) (given bits) ts).0
    (met_ties bits y ts (ties_over (length bits) y ts low lt) met)
