use Rattle.cp_rot.proofs.Walks.{Missed}
use Rattle.cp_rot.proofs.faces.in_one_face.Given as goal

abbrev pub invariant-loop-steps : goal.invariant-loop-steps
invariant-loop-steps g l = Missed (g.T.RotationSystem.system l.t) l.x l.y l._steps l.z
