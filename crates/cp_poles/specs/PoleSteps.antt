-- The steps at small pipes and at poles.
use Rattle.cp_board.specs.declared.steps.Step.{Step}
use Rattle.cp_board.specs.declared.steps.Step.TheVariants.{Small, FreePole, FusePoles, Toroidal, Join, Propagate}

-- the step is Small, FreePole, FusePoles or Toroidal
abbrev pub IsPoleStep : Step → Type 0
IsPoleStep (Small pipe) = Unit {0}
IsPoleStep (FreePole pipe end pole) = Unit {0}
IsPoleStep (FusePoles pipe end pole) = Unit {0}
IsPoleStep (Toroidal pipe) = Unit {0}
IsPoleStep (Join pipe) = ⊥
IsPoleStep (Propagate pipe end shape) = ⊥
