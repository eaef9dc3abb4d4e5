use Rattle.std.proofs.Common.{rules}
use Rattle.cp_trace.proofs.PartWords.{no_next_pipe}
use Rattle.cp_trace.proofs.read_lists.next_pipe.Goals as goal

pub returns-else-is_above : goal.returns-else-is_above
returns-else-is_above c =
    let told = rw c.in-Some.is at c.in_ok-pipe.ensures in
    no_next_pipe c.args.last c.args.line.now c.in-Some.pipe told.0 told.1
    (λ above. let no = c.if-is_above.ensures.1 above in search rules)
