-- Why an instance without pipes is not solved.
use Rattle.std.specs.Prelude.{◌≡◌, ℕ, ◌<◌, []}
use Rattle.cp_board.specs.Instances.{Synchronized}
use Rattle.cp_board.specs.Blocks.{HaveCrossing, IsUnembeddable}
use Rattle.cp_board.specs.Reasons.{HasConflict, HasNoCrossing, IsEmbeddable}
use Rattle.cp_board.specs.Solutions.{IsSolvable}
use Rattle.cp_flip.specs.declared.fault.FreeFault.{FreeFault}
use Rattle.cp_flip.specs.declared.fault.FreeFault.TheVariants.{NotPlanar, BlocksCross, Conflict, Memory}

-- q is the least Q-vertex at which two blocks cross
pub record IsFirstCrossing (i : Synchronized) (q : ℕ) : Type 0 where
  pub crossing : HaveCrossing i q
  pub least : (r : ℕ) → r < q → ¬ HaveCrossing i r

-- no pipe is left, and no two blocks cross
pub record IsFree (i : Synchronized) : Type 0 where
  pub no_pipe : i.pipes ≡ []
  pub no_crossing : HasNoCrossing i

-- the reason holds, and no earlier one: the least edge of the first block without a rotation, else the least vertex at
-- which two blocks cross, else that there is no solution
abbrev pub IsFreeReason : Synchronized → FreeFault → Type 0
IsFreeReason i (NotPlanar edge) = IsUnembeddable i edge × ((f : ℕ) → f < edge → ¬ IsUnembeddable i f)
IsFreeReason i (BlocksCross vertex) =
    IsEmbeddable i × HaveCrossing i vertex × ((r : ℕ) → r < vertex → ¬ HaveCrossing i r)
IsFreeReason i Conflict = HasConflict i
IsFreeReason i Memory = Unit {0}

-- a reason comes only where the instance has no solution
abbrev pub HasNoFreeSolution : Synchronized → FreeFault → Type 0
HasNoFreeSolution i (NotPlanar edge) = ¬ IsSolvable i
HasNoFreeSolution i (BlocksCross vertex) = ¬ IsSolvable i
HasNoFreeSolution i Conflict = ¬ IsSolvable i
HasNoFreeSolution i Memory = Unit {0}
