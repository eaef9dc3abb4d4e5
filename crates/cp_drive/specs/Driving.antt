-- What the driver promises of a run (Bläsius, Fink, Rutter 2021).
use Rattle.std.specs.Prelude.{◌≡◌, []}
use Rattle.cp_board.specs.Instances.{Synchronized}
use Rattle.cp_board.specs.Reasons.{IsBlamed}
use Rattle.cp_board.specs.Runs.{IsDrivenRun}
use Rattle.cp_board.specs.Solutions.{IsSolution, IsSolvable}
use Rattle.cp_runlaw.specs.SynchronizedRuns.{IsSynchronizedRun}
use Rattle.cp_sync.specs.declared.outcome.Outcome.{Outcome}
use Rattle.cp_sync.specs.declared.outcome.Outcome.TheVariants.{Solved, Failed}
use Rattle.cp_drive.specs.declared.run.Run.{Run}

-- the outcome of a run from the first instance to the last: no pipe is left, and the first instance has the solution;
-- or the last instance is to blame, and neither of the two is solvable
abbrev pub IsOutcome : Synchronized → Synchronized → Outcome → Type 0
IsOutcome first last (Solved solution) = (last.pipes ≡ []) × IsSolution first solution
IsOutcome first last (Failed reason) = IsBlamed last reason × (¬ IsSolvable first) × (¬ IsSolvable last)

-- each step of the run is allowed and one that the solver may take, the instance before it keeps the rules, and the
-- outcome is that of the first instance
pub record IsRunFrom (first : Synchronized) (run : Run) : Type 0 where
  pub driven : IsDrivenRun run.last first run.steps
  pub ruled : IsSynchronizedRun run.last first run.steps
  pub outcome : IsOutcome first run.last run.outcome
