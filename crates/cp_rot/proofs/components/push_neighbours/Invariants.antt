use Rattle.cp_rot.specs.Search.{IsPushed}
use Rattle.cp_rot.proofs.components.push_neighbours.Given as goal

abbrev pub invariant-loop-i : goal.invariant-loop-i
invariant-loop-i g l = IsPushed (g.T.RotationSystem.system l.t) l.w l.i l.fn.marks l.fn.stack l.fn.height l.marks l.stack l.top
