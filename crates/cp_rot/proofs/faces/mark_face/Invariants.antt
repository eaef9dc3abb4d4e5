use Rattle.cp_rot.specs.Systems.{darts}
use Rattle.cp_rot.proofs.Walks.{Walked, unmarked_below}
use Rattle.cp_rot.proofs.faces.mark_face.Given as goal

abbrev pub invariant-loop-marks : goal.invariant-loop-marks
invariant-loop-marks g l = Walked (g.T.RotationSystem.system l.t) l.d l.fn.marks l.marks l.x

-- the darts that are not marked yet
abbrev pub decreases-loop-marks : goal.decreases-loop-marks
decreases-loop-marks g l = unmarked_below (darts (g.T.RotationSystem.system l.t)) l.marks
