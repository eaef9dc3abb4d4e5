use Rattle.std.proofs.Common.{length}
use Rattle.std.specs.List.{AllByRecursion}
use Rattle.cp_trace.specs.Faults.{IsToldStep}
use Rattle.cp_trace.specs.Reading.{AreLines}
use Rattle.cp_trace.specs.Texts.{step_line}
use Rattle.cp_trace.proofs.read_steps.read_steps.Given as goal

-- the lines read so far
abbrev pub invariant-loop-line : goal.invariant-loop-line
invariant-loop-line l = AreLines step_line (AllByRecursion IsToldStep) l.bytes l.steps l.rest

abbrev pub decreases-loop-line : goal.decreases-loop-line
decreases-loop-line l = length l.rest
