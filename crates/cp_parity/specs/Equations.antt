-- Equations over bits, and closed walks along them.
use Rattle.std.specs.Prelude.{◌≡◌, ℕ, ◌%◌, ◌⊎◌, Bool, false, Some, List, [], ◌∷◌, map, slice_get, slice_index_or}
use Rattle.std.specs.List.{All, count_by}
use Rattle.cp_base.specs.declared.equation.Equation.{Equation}
pub use Rattle.cp_base.specs.Bits.{bit_of, differ, IsMet, IsOverVars}
use Rattle.cp_orbits.specs.Connected.{Joins}
use Rattle.cp_parity.specs.declared.fault.ParityFault.{ParityFault}
use Rattle.cp_parity.specs.declared.fault.ParityFault.TheVariants.{Conflict, Memory}

-- x is one of the two vars of the equation
abbrev pub Touches : Equation → ℕ → Type 0
Touches e x = (e.x ≡ x) ⊎ (e.y ≡ x)

-- the equations at the places lead from var x to var z, each between two neighbours of the walk
abbrev pub IsWalk : List Equation → ℕ → List ℕ → ℕ → Type 0
IsWalk eqs x [] z = x ≡ z
IsWalk eqs x (place ∷ places) z =
    (e : Equation) × (y : ℕ) × (slice_get eqs place ≡ Some e) × Joins (e.x, e.y) x y × IsWalk eqs y places z

-- the equation at the place is odd
abbrev pub is_odd_at : List Equation → ℕ → Bool
is_odd_at eqs place = slice_index_or (map (λ e. e.odd) eqs) place false

-- the equations at the places form a closed walk of vars with an odd number of odd ones
pub record IsOddCycle (eqs : List Equation) (places : List ℕ) : Type 0 where
  pub start : ℕ
  pub closed : IsWalk eqs start places start
  pub odd : count_by (is_odd_at eqs) places % 2 ≡ 1

-- a conflict tells such a walk
abbrev pub HasOddCycle : List Equation → ParityFault → Type 0
HasOddCycle eqs (Conflict cycle) = IsOddCycle eqs cycle
HasOddCycle eqs Memory = Unit {0}

-- a conflict comes only where no bits meet all equations
abbrev pub HaveNoBits : List Equation → ParityFault → Type 0
HaveNoBits eqs (Conflict cycle) = (bits : List Bool) → All (IsMet bits) eqs → ⊥
HaveNoBits eqs Memory = Unit {0}
