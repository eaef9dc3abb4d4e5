use Rattle.std.proofs.Common.{ℕ}
use Rattle.cp_pq.specs.SmallTrees.{HasLeaves}
use Rattle.cp_pq.proofs.tests.nested.Given as goal

abbrev pub invariant-loop-end : goal.invariant-loop-end
invariant-loop-end l = (root : ℕ) → HasLeaves root l.leaves l.fn.tree → HasLeaves root l.leaves l.inner
