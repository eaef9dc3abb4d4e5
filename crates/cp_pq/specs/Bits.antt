-- Bits of vars, and equations over them.
pub use Rattle.cp_base.specs.Bits.{bit_of, differ, IsMet, IsOverVars}
