use Rattle.cp_pq.specs.SmallTrees.{IsGrown}
use Rattle.cp_pq.proofs.tests.deep_node.Given as goal

abbrev pub invariant-loop-place : goal.invariant-loop-place
invariant-loop-place l = IsGrown l.place l.node
