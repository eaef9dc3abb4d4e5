use Rattle.std.proofs.Common.{◌≡◌, ◌++◌, map, take}
use Rattle.cp_trace.specs.Texts.{step_line, text_of}
use Rattle.cp_trace.proofs.write.push_steps.Given as goal

-- the steps so far are written
abbrev pub invariant-loop-step : goal.invariant-loop-step
invariant-loop-step l = l.text.items ≡ l.fn.text.items ++ text_of (map step_line (take l.step-index l.steps))
