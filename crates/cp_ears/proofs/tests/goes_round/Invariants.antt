-- The edges so far lead from each vertex to the next.
use Rattle.cp_ears.proofs.Samples.{AreSteps}
use Rattle.cp_ears.proofs.tests.goes_round.Given as goal

abbrev pub invariant-loop-vertex : goal.invariant-loop-vertex
invariant-loop-vertex l = AreSteps l.vertex l.ends.items
