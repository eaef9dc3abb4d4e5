-- The first items stand at their places.
use Rattle.cp_ears.specs.Placing.{StandAt}
use Rattle.cp_ears.proofs.placing.put_in_order.Given as goal

abbrev pub invariant-loop-i : goal.invariant-loop-i
invariant-loop-i l = StandAt l.items l.places l.order.items l.i
