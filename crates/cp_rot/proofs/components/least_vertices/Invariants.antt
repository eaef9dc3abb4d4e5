use Rattle.cp_rot.specs.Genus.{Joined}
use Rattle.cp_rot.proofs.Found.{FoundUpto}
use Rattle.cp_rot.proofs.components.least_vertices.Given as goal

abbrev pub invariant-loop-v : goal.invariant-loop-v
invariant-loop-v g l = FoundUpto (Joined (g.T.RotationSystem.system l.t)) (g.T.RotationSystem.system l.t).vertices l.v l.marks l.least
