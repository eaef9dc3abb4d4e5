use Rattle.std.proofs.Common.{◌+◌}
use Rattle.cp_border.proofs.Occurrences.{HasRisen}
use Rattle.cp_border.proofs.lines.count_edge.Given as goal

abbrev pub invariant-loop-outer : goal.invariant-loop-outer
invariant-loop-outer l = HasRisen l.g l.e l.outer l.inner l.fn.counts l.counts

abbrev pub decreases-loop-outer : goal.decreases-loop-outer
decreases-loop-outer l = l.outer + l.inner
