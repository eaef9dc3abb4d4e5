-- A run so far: the instances of a store, the present one first, and the steps between them.
use Rattle.std.specs.Prelude.{◌≡◌, List, [], ◌∷◌, ◌++◌, Option, Some, None}
use Rattle.cp_board.specs.declared.steps.Step.{Step}
use Rattle.cp_board.specs.declared.steps.Reason.{Reason}
use Rattle.cp_board.specs.Effects.{After}
use Rattle.cp_board.specs.Instances.{Synchronized, IsSynchronized}
use Rattle.cp_board.specs.Reasons.{IsBlamed}
use Rattle.cp_board.specs.Runs.{IsDriven}
use Rattle.cp_board.specs.Solutions.{IsSolvable}
use Rattle.cp_board.specs.Steps.{Allowed}
use Rattle.cp_store.specs.Histories.{present_of}

-- the step may be taken on i and makes j of it, and both keep the rules
pub record IsTaken (i : Synchronized) (step : Step) (j : Synchronized) : Type 0 where
  pub rules_before : IsSynchronized i
  pub rules_after : IsSynchronized j
  pub allowed : Allowed i step
  pub driven : IsDriven i step
  pub after : After i step j

-- the instances, the present one first, are those between the steps, the last one first, from the first instance on
abbrev pub IsPast : Synchronized → List Step → List Synchronized → Type 0
IsPast first [] history = history ≡ first ∷ []
IsPast first (step ∷ steps) history = (before : List Synchronized) × (history ≡ present_of history ∷ before)
    × IsTaken (present_of before) step (present_of history)
    × IsPast first steps before

-- why a run stops: no pipe is left, or the reason is to blame that there is no solution
abbrev pub IsStop : Synchronized → Option Reason → Type 0
IsStop i None = i.pipes ≡ []
IsStop i (Some reason) = IsBlamed i reason × ¬ IsSolvable i

-- one more step is taken, which the store and the list of steps keep
pub record IsAdvanced (old : List Synchronized) (steps : List Step) (new : List Synchronized) (more : List Step)
    : Type 0 where
  pub step : Step
  pub kept : new ≡ present_of new ∷ old
  pub told : more ≡ steps ++ step ∷ []
  pub taken : IsTaken (present_of old) step (present_of new)

-- nothing changes, and the run stops
pub record IsStopped (old : List Synchronized) (steps : List Step) (new : List Synchronized) (more : List Step)
    (reason : Option Reason) : Type 0 where
  pub kept : new ≡ old
  pub told : more ≡ steps
  pub stop : IsStop (present_of old) reason

-- one more step, or the stop of the run
abbrev pub IsProgress : List Synchronized → List Step → List Synchronized → List Step → Option (Option Reason) → Type 0
IsProgress old steps new more None = IsAdvanced old steps new more
IsProgress old steps new more (Some reason) = IsStopped old steps new more reason
