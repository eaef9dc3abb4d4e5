-- Closed walks with an odd number of odd equations.
use Rattle.std.proofs.Common.{◌≡◌, ℕ, ◌%◌, Bool, false, cond, List, [], ◌∷◌, sym, ap, ap₂, ◌∙◌, ⊎_elim, arith}
use Rattle.std.specs.List.{All, count_by}
use Rattle.cp_base.specs.declared.equation.Equation.{Equation}
use Rattle.cp_orbits.specs.Connected.{Joins}
use Rattle.cp_parity.specs.Equations.{differ, bit_of, IsMet, IsWalk, IsOddCycle, is_odd_at, HasOddCycle, HaveNoBits}
use Rattle.cp_parity.specs.declared.fault.ParityFault.{ParityFault}
use Rattle.cp_parity.specs.declared.fault.ParityFault.TheVariants.{Conflict, Memory}
use Rattle.cp_parity.specs.Search.{parity}
use Rattle.cp_parity.proofs.LookUps.{All-at}
use Rattle.cp_parity.proofs.Parity.{is_odd_at-is, parity-count}
use Rattle.cp_base.proofs.Bits.{differ-comm, differ_same, differ_through}

-- an equation that is met ties the bits of the two vars that it joins
met_joins : (bits : List Bool) (e : Equation) (x y : ℕ) → IsMet bits e → Joins (e.x, e.y) x y
    → e.odd ≡ differ (bit_of bits x) (bit_of bits y)
met_joins bits e x y met j =
    ⊎_elim
    (λ h. sym met ∙ ap₂ (λ (a b : ℕ). differ (bit_of bits a) (bit_of bits b)) h.0 h.1)
    (λ h. sym met ∙ ap₂ (λ (a b : ℕ). differ (bit_of bits a) (bit_of bits b)) h.0 h.1
    ∙ differ-comm (bit_of bits y) (bit_of bits x))
    j

-- where bits meet all equations, the parity of a walk tells whether the bits at its ends differ
pub parity_of_walk : (bits : List Bool) (eqs : List Equation) (x z : ℕ) (places : List ℕ) → All (IsMet bits) eqs
    → IsWalk eqs x places z → parity eqs places ≡ differ (bit_of bits x) (bit_of bits z)
parity_of_walk bits eqs x z [] met walk = sym (differ_same (bit_of bits x))
    ∙ ap (λ (v : ℕ). differ (bit_of bits x) (bit_of bits v)) walk
parity_of_walk bits eqs x z (p ∷ places) met walk =
    ap₂ differ
    (is_odd_at-is eqs p walk.0 walk.2 ∙ met_joins bits walk.0 x walk.1 (All-at (IsMet bits) eqs p walk.0 met walk.2)
    walk.3)
    (parity_of_walk bits eqs walk.1 z places met walk.4)
    ∙ differ_through (bit_of bits x) (bit_of bits walk.1) (bit_of bits z)

-- no bits meet the equations of an odd cycle
pub IsOddCycle-unmet : (eqs : List Equation) (places : List ℕ) → IsOddCycle eqs places → (bits : List Bool)
    → All (IsMet bits) eqs → ⊥
IsOddCycle-unmet eqs places cycle bits met =
    let even : parity eqs places ≡ false = parity_of_walk bits eqs cycle.start cycle.start places met cycle.closed
    ∙ differ_same (bit_of bits cycle.start) in
    let zero_left : count_by (is_odd_at eqs) places % 2 ≡ 0 = parity-count eqs places
    ∙ ap (λ (b : Bool). cond b 1 0) even in
    absurd (omega (arith, cycle.odd))

-- a conflict tells that no bits meet all equations
pub HaveNoBits-from : (eqs : List Equation) (fault : ParityFault) → HasOddCycle eqs fault → HaveNoBits eqs fault
HaveNoBits-from eqs (Conflict cycle) odd = IsOddCycle-unmet eqs cycle odd
HaveNoBits-from eqs Memory odd = tt
