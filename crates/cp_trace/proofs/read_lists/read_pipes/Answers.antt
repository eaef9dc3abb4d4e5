use Rattle.std.proofs.Common.{[], subst, sym}
use Rattle.cp_board.specs.declared.parts.Pipe.{Pipe}
use Rattle.cp_trace.specs.Faults.{AreToldPipes}
use Rattle.cp_trace.specs.Reading.{IsAbove}
use Rattle.cp_trace.specs.Texts.{pipe_line}
use Rattle.cp_trace.proofs.LineWords.{pipe_line_free}
use Rattle.cp_trace.proofs.ToldLists.{pipes_push, last_name, next_pipe, no_line_left, no_line_more, one_line_more}
use Rattle.cp_trace.proofs.read_lists.read_pipes.Goals as goal

pub returns-in_default-2 : goal.returns-in_default-2
returns-in_default-2 c = (
  c.loop-line.invariant.lines,
  no_line_more pipe_line AreToldPipes c.loop-line.pipes c.loop-line.rest.now c.in-Some.line.now c.in-Some.after.now
      (λ x may. pipe_line_free x (next_pipe c.loop-line.pipes x [] may).0) c.in-Some.ensures.0 c.in-Some.ensures.1
      (λ x may h.
      let at = next_pipe c.loop-line.pipes x [] may in
      let none = (rw c.in_default-2.is at c.in_ok-pipe.ensures) in
      none x at.0 (subst (λ o. IsAbove o x.name) (sym c.loop-line.invariant.name) at.1) h),
)

pub loop-line-preserved : goal.loop-line-preserved
loop-line-preserved c =
    let told = rw c.in-Some-2.is at c.in_ok-pipe.ensures in
    let item = c.in-Some-2.pipe in
    let pushed = c.in_ok-push.ensures.ok in
    let above = subst (λ o. IsAbove o item.name) c.loop-line.invariant.name told.1 in
    rw pushed (record {
      lines = one_line_more pipe_line AreToldPipes c.args.bytes.now c.loop-line.pipes c.loop-line.rest.now
          c.in-Some.line.now c.in-Some.after.now item c.loop-line.invariant.lines c.in-Some.ensures.1 told.2
          (pipes_push c.loop-line.pipes item c.loop-line.invariant.lines.may told.0 above);
      name = sym (last_name (λ (x : Pipe). x.name) c.loop-line.pipes item);
    })

pub returns : goal.returns
returns c = (
  c.loop-line.invariant.lines,
  no_line_left pipe_line AreToldPipes c.loop-line.pipes c.loop-line.rest.now c.in_default.ensures,
)
