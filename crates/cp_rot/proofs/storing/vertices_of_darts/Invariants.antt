use Rattle.std.proofs.Common.{◌≡◌, take}
use Rattle.cp_rot.proofs.storing.vertices_of_darts.Given as goal

abbrev pub invariant-loop-d : goal.invariant-loop-d
invariant-loop-d g l = l.at.items ≡ take l.d (g.T.RotationSystem.system l.t).at
