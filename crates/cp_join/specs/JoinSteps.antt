-- The step Join.
use Rattle.cp_board.specs.declared.steps.Step.{Step}
use Rattle.cp_board.specs.declared.steps.Step.TheVariants.{Small, FreePole, FusePoles, Toroidal, Join, Propagate}

-- the step is Join
abbrev pub IsJoinStep : Step → Type 0
IsJoinStep (Small pipe) = ⊥
IsJoinStep (FreePole pipe end pole) = ⊥
IsJoinStep (FusePoles pipe end pole) = ⊥
IsJoinStep (Toroidal pipe) = ⊥
IsJoinStep (Join pipe) = Unit {0}
IsJoinStep (Propagate pipe end shape) = ⊥
