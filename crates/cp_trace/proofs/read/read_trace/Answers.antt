use Rattle.cp_trace.proofs.FeedCounts.{line_at_fault}
use Rattle.cp_trace.proofs.read.read_trace.Goals as goal

pub returns-in-None-clause-fault : goal.returns-in-None-clause-fault
returns-in-None-clause-fault c =
    line_at_fault c.args.bytes.now c.in_ok-found.rest.now (rw c.in-None.is at c.in_ok-found.ensures)
    c.line_number.result c.line_number.ensures
