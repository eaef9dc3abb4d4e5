use Rattle.std.proofs.Common.{◌≡◌, take}
use Rattle.cp_rot.proofs.storing.lists_of.Given as goal

abbrev pub invariant-loop-v : goal.invariant-loop-v
invariant-loop-v g l = l.lists.items ≡ take l.v (g.T.RotationSystem.system l.t).lists
