use Rattle.std.proofs.Common.{rules}
use Rattle.cp_trace.proofs.PartWords.{no_next_edge}
use Rattle.cp_trace.proofs.read_lists.next_edge.Goals as goal

pub returns-else-is_above : goal.returns-else-is_above
returns-else-is_above c =
    no_next_edge c.args.last c.args.line.now c.in_ok-edge.edge c.in_ok-edge.ensures.0 c.in_ok-edge.ensures.1
    (λ above. let no = c.if-is_above.ensures.1 above in search rules)
