use Rattle.std.proofs.Common.{◌+◌}
use Rattle.cp_cgraph.proofs.Crossing.{IsBetween}
use Rattle.cp_cgraph.proofs.walks.sides.Given as goal

abbrev pub invariant-loop-outer : goal.invariant-loop-outer
invariant-loop-outer l = IsBetween l.g l.e l.outer l.inner l.left.items l.entered.items

abbrev pub decreases-loop-outer : goal.decreases-loop-outer
decreases-loop-outer l = l.outer + l.inner
