use Rattle.cp_rot.specs.Systems.{darts}
use Rattle.cp_rot.specs.Genus.{InOneFace}
use Rattle.cp_rot.proofs.Found.{FoundUpto}
use Rattle.cp_rot.proofs.faces.least_darts.Given as goal

abbrev pub invariant-loop-d : goal.invariant-loop-d
invariant-loop-d g l = FoundUpto (InOneFace (g.T.RotationSystem.system l.t)) (darts (g.T.RotationSystem.system l.t)) l.d l.marks l.least
