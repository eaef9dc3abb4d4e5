-- What a fault of making a rotation system says.
use Rattle.std.specs.Prelude.{ℕ, List}
use Rattle.cp_rot.specs.declared.rot.RotFault.{RotFault}
use Rattle.cp_rot.specs.declared.rot.RotFault.TheVariants.{NotARotation, Memory}
use Rattle.cp_rot.specs.FirstWrong.{IsFirstWrong}

-- the fault names the first wrong list; want of memory says nothing of the lists
abbrev pub IsFaultOf : ℕ → List ℕ → List (List ℕ) → RotFault → Type 0
IsFaultOf vertices at lists (NotARotation vertex) = IsFirstWrong vertices at lists vertex
IsFaultOf vertices at lists Memory = Unit {0}
