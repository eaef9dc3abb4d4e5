-- Bits of vars, and equations over them.
use Rattle.std.specs.Prelude.{◌≡◌, ℕ, ◌<◌, Bool, true, false, not, List, slice_index_or}
use Rattle.cp_base.specs.declared.equation.Equation.{Equation}

-- whether two bits differ: the second, turned where the first is true
abbrev pub differ : Bool → Bool → Bool
differ false b = b
differ true b = not b

-- the bit of a var
abbrev pub bit_of : List Bool → ℕ → Bool
bit_of bits v = slice_index_or bits v false

-- the bits meet an equation: those of its two vars differ exactly where it is odd
abbrev pub IsMet : List Bool → Equation → Type 0
IsMet bits e = differ (bit_of bits e.x) (bit_of bits e.y) ≡ e.odd

-- both vars of an equation are among so many
abbrev pub IsOverVars : ℕ → Equation → Type 0
IsOverVars vars e = (e.x < vars) × (e.y < vars)
