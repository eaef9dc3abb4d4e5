-- The pipe that a reduction names.
use Rattle.std.specs.Prelude.{ℕ}
use Rattle.cp_board.specs.declared.steps.Step.{Step}
use Rattle.cp_board.specs.declared.steps.Step.TheVariants.{Small, FreePole, FusePoles, Toroidal, Join, Propagate}

-- the name of the pipe
abbrev pub pipe_of : Step → ℕ
pipe_of (Small pipe) = pipe
pipe_of (FreePole pipe end pole) = pipe
pipe_of (FusePoles pipe end pole) = pipe
pipe_of (Toroidal pipe) = pipe
pipe_of (Join pipe) = pipe
pipe_of (Propagate pipe end shape) = pipe
