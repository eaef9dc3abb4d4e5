-- Which texts are traces, and which run a trace tells.
use Rattle.std.specs.Prelude.{◌≡◌, ℕ, ◌^◌, ◌<◌, List, [], ◌∷◌, Option, Some, None}
use Rattle.std.specs.List.{All}
use Rattle.cp_base.specs.Shapes.{leaves}
use Rattle.cp_board.specs.declared.steps.Step.{Step}
use Rattle.cp_board.specs.declared.steps.Step.TheVariants.{Small, FreePole, FusePoles, Toroidal, Join, Propagate}
use Rattle.cp_board.specs.declared.steps.Reason.{Reason}
use Rattle.cp_board.specs.declared.steps.Reason.TheVariants.{NotPlanar, CyclesDiffer, BlocksCross, Conflict}
use Rattle.cp_board.specs.Instances.{Synchronized, IsSynchronized}
use Rattle.cp_sync.specs.declared.outcome.Outcome.{Outcome}
use Rattle.cp_sync.specs.declared.outcome.Outcome.TheVariants.{Solved, Failed}
use Rattle.cp_trace.specs.declared.trace.Trace.{Trace}
use Rattle.cp_trace.specs.Texts.{trace_text}

-- the numbers that the line of a step tells
abbrev pub step_numbers : Step → List ℕ
step_numbers (Small pipe) = pipe ∷ []
step_numbers (FreePole pipe end pole) = pipe ∷ end ∷ pole ∷ []
step_numbers (FusePoles pipe end pole) = pipe ∷ end ∷ pole ∷ []
step_numbers (Toroidal pipe) = pipe ∷ []
step_numbers (Join pipe) = pipe ∷ []
step_numbers (Propagate pipe end shape) = pipe ∷ end ∷ shape.root ∷ leaves shape.body

-- the numbers that the last line but one tells
abbrev pub reason_numbers : Option Reason → List ℕ
reason_numbers None = []
reason_numbers (Some (NotPlanar edge)) = edge ∷ []
reason_numbers (Some (CyclesDiffer a b)) = a ∷ b ∷ []
reason_numbers (Some (BlocksCross vertex)) = vertex ∷ []
reason_numbers (Some Conflict) = []

-- each number is below 9223372036854775808
abbrev pub AreNumbers : List ℕ → Type 0
AreNumbers numbers = All (λ number. number < 2 ^ 63) numbers

-- a run whose numbers fit. Nothing is asked of the steps: they may be any, in any order
pub record IsTrace (t : Trace) : Type 0 where
  pub first : IsSynchronized t.first
  pub steps : All (λ step. AreNumbers (step_numbers step)) t.steps
  pub last : IsSynchronized t.last
  pub reason : AreNumbers (reason_numbers t.solved)

-- the bytes are the text of the run, and nothing else
pub record IsTextOf (bytes : List ℕ) (t : Trace) : Type 0 where
  pub trace : IsTrace t
  pub spelled : bytes ≡ trace_text t

-- the solution of an outcome is not told
abbrev pub reason_of : Outcome → Option Reason
reason_of (Solved solution) = None
reason_of (Failed reason) = Some reason

-- the run from one instance by these steps to another, with this outcome
abbrev pub run_of : Synchronized → List Step → Synchronized → Outcome → Trace
run_of first steps last outcome = record { first = first; steps = steps; last = last; solved = reason_of outcome }
