-- Runs of reductions each of which is made on an instance that keeps the rules.
use Rattle.std.specs.Prelude.{List}
use Rattle.cp_board.specs.declared.steps.Step.{Step}
use Rattle.cp_board.specs.Instances.{Synchronized, IsSynchronized}
use Rattle.cp_board.specs.Steps.{Allowed}
use Rattle.cp_board.specs.Runs.{IsRun}

-- a legal run from i to j, in which the instance before each step keeps the five rules
abbrev pub IsSynchronizedRun : Synchronized → Synchronized → List Step → Type 0
IsSynchronizedRun j i steps = IsRun (λ before step. IsSynchronized before × Allowed before step) j i steps
