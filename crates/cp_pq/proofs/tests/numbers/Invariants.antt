use Rattle.cp_pq.specs.SmallTrees.{AreNumbers}
use Rattle.cp_pq.proofs.tests.numbers.Given as goal

abbrev pub invariant-loop-place : goal.invariant-loop-place
invariant-loop-place l = AreNumbers l.place l.all
