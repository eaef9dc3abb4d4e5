-- The step Propagate.
use Rattle.cp_board.specs.declared.steps.Step.{Step}
use Rattle.cp_board.specs.declared.steps.Step.TheVariants.{Small, FreePole, FusePoles, Toroidal, Join, Propagate}

-- the step is Propagate
abbrev pub IsPropagateStep : Step → Type 0
IsPropagateStep (Small pipe) = ⊥
IsPropagateStep (FreePole pipe end pole) = ⊥
IsPropagateStep (FusePoles pipe end pole) = ⊥
IsPropagateStep (Toroidal pipe) = ⊥
IsPropagateStep (Join pipe) = ⊥
IsPropagateStep (Propagate pipe end shape) = Unit {0}
