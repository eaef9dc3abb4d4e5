-- Runs: what may be taken is more, one step is appended, and each run is short.
use Rattle.std.proofs.Common.{◌+◌, ◌≤◌, List, [], ◌∷◌, ◌++◌, length, arith}
use Rattle.std.proofs.lemmas.List.{length-append}
use Rattle.cp_board.specs.declared.steps.Step.{Step}
use Rattle.cp_board.specs.Instances.{Synchronized, IsSynchronized}
use Rattle.cp_board.specs.Steps.{Allowed}
use Rattle.cp_board.specs.Effects.{After}
use Rattle.cp_board.specs.Runs.{IsRun, IsLegal, IsDriven, IsDrivenRun, potential}
use Rattle.cp_runlaw.specs.SynchronizedRuns.{IsSynchronizedRun}
use Rattle.cp_runlaw.proofs.Potentials.{lowers}

-- where each step that may be taken may be taken in another sense, each run is one in that sense
pub run_weaken : (M N : Synchronized → Step → Type 0) → ((i : Synchronized) (step : Step) → M i step → N i step)
    → (j i : Synchronized) (steps : List Step) → IsRun M j i steps → IsRun N j i steps
run_weaken M N weaker j _ _ IsRun.done = IsRun.done
run_weaken M N weaker j _ _ (IsRun.more i k step steps may after rest) =
    IsRun.more i k step steps (weaker i step may) after (run_weaken M N weaker j k steps rest)

-- one run and then another
pub run_append : (M : Synchronized → Step → Type 0) (j k i : Synchronized) (steps more : List Step)
    → IsRun M j i steps → IsRun M k j more → IsRun M k i (steps ++ more)
run_append M j k _ _ more IsRun.done next = next
run_append M j k _ _ more (IsRun.more i h step steps may after rest) next =
    IsRun.more i h step (steps ++ more) may after (run_append M j k h steps more rest next)

-- one more step at the end
pub run_snoc : (M : Synchronized → Step → Type 0) (j k i : Synchronized) (steps : List Step) (step : Step)
    → IsRun M j i steps → M j step → After j step k → IsRun M k i (steps ++ (step ∷ []))
run_snoc M j k i steps step run may after =
    run_append M j k i steps (step ∷ []) run (IsRun.more j k step [] may after IsRun.done)

-- one more step at the end of a run of the solver
pub driven_snoc : (j k i : Synchronized) (steps : List Step) (step : Step) → IsDrivenRun j i steps
    → Allowed j step → IsDriven j step → After j step k → IsDrivenRun k i (steps ++ (step ∷ []))
driven_snoc j k i steps step run allowed driven after =
    run_snoc (λ before step. Allowed before step × IsDriven before step) j k i steps step run (allowed, driven) after

-- a run of the solver is legal
pub driven_legal : (j i : Synchronized) (steps : List Step) → IsDrivenRun j i steps → IsLegal j i steps
driven_legal j i steps run =
    run_weaken (λ before step. Allowed before step × IsDriven before step) Allowed
    (λ before step may. may.0) j i steps run

-- a run of the solver and the potential of its last instance stay below that of its first with one more step
pub short_snoc : (first i j : Synchronized) (steps : List Step) (step : Step) → IsSynchronized i → Allowed i step
    → After i step j → length steps + potential i ≤ potential first
    → length (steps ++ (step ∷ [])) + potential j ≤ potential first
short_snoc first i j steps step is allowed after le =
    let less = lowers step i j is allowed after in
    omega (arith, less, le, length-append steps (step ∷ []))

-- each step of a run whose instances keep the rules lowers the potential
pub run_short : (j i : Synchronized) (steps : List Step) → IsSynchronizedRun j i steps
    → length steps + potential j ≤ potential i
run_short j _ _ IsRun.done = omega arith
run_short j _ _ (IsRun.more i k step steps may after rest) =
    let less = lowers step i k may.0 may.1 after in
    let r = run_short j k steps rest in
    omega (arith, less, r)
