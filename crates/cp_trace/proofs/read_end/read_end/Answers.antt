use Rattle.cp_trace.proofs.EndLines.{no_end, no_end_left}
use Rattle.cp_trace.proofs.read_end.read_end.Goals as goal

pub returns-in_err-line : goal.returns-in_err-line
returns-in_err-line c = rw c.from_residual.ensures (no_end_left c.args.bytes.now c.in_err-line.ensures)

pub returns-in_err-reason : goal.returns-in_err-reason
returns-in_err-reason c = rw c.from_residual-in_err-reason.ensures
    (no_end c.args.bytes.now c.in_ok-line.line.now c.in_ok-line.after.now c.in_default.ensures c.in_ok-line.ensures.0
    c.in_ok-line.ensures.1 c.in_err-reason.ensures)
