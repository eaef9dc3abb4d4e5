use Rattle.std.proofs.Common.{[]}
use Rattle.std.specs.List.{AllByRecursion}
use Rattle.cp_trace.specs.Faults.{IsToldStep}
use Rattle.cp_trace.specs.Texts.{step_line}
use Rattle.cp_trace.proofs.FeedFree.{step_line_free}
use Rattle.cp_trace.proofs.ToldLists.{all_at, all_push, no_line_left, no_line_more, one_line_more}
use Rattle.cp_trace.proofs.read_steps.read_steps.Goals as goal

pub returns-in_default-2 : goal.returns-in_default-2
returns-in_default-2 c = (
  c.loop-line.invariant,
  no_line_more step_line (AllByRecursion IsToldStep) c.loop-line.steps c.loop-line.rest.now c.in-Some.line.now
      c.in-Some.after.now (λ x may. step_line_free x (all_at IsToldStep c.loop-line.steps x [] may)) c.in-Some.ensures.0
      c.in-Some.ensures.1
      (λ x may h.
      let none = rw c.in_default-2.is at c.in_ok-step.ensures in
      none x (all_at IsToldStep c.loop-line.steps x [] may) h),
)

pub loop-line-preserved : goal.loop-line-preserved
loop-line-preserved c =
    let told = rw c.in-Some-2.is at c.in_ok-step.ensures in
    rw c.in_ok-push.ensures.ok (one_line_more step_line (AllByRecursion IsToldStep) c.args.bytes.now c.loop-line.steps
    c.loop-line.rest.now c.in-Some.line.now c.in-Some.after.now c.in-Some-2.step c.loop-line.invariant
    c.in-Some.ensures.1 told.1 (all_push IsToldStep c.loop-line.steps c.in-Some-2.step c.loop-line.invariant.may
    told.0))

pub returns : goal.returns
returns c = (
  c.loop-line.invariant,
  no_line_left step_line (AllByRecursion IsToldStep) c.loop-line.steps c.loop-line.rest.now c.in_default.ensures,
)
