use Rattle.std.proofs.Common.{◌+◌}
use Rattle.cp_cgraph.proofs.Counted.{HasCounted}
use Rattle.cp_cgraph.proofs.walks.crossing_count.Given as goal

abbrev pub invariant-loop-outer : goal.invariant-loop-outer
invariant-loop-outer l = HasCounted l.g l.e l.outer l.inner l.left l.entered

abbrev pub decreases-loop-outer : goal.decreases-loop-outer
decreases-loop-outer l = l.outer + l.inner
