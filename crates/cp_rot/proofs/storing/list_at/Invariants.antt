use Rattle.std.proofs.Common.{◌≡◌, take}
use Rattle.cp_rot.specs.Systems.{list_of}
use Rattle.cp_rot.proofs.storing.list_at.Given as goal

abbrev pub invariant-loop-i : goal.invariant-loop-i
invariant-loop-i g l = l.items.items ≡ take l.i (list_of (g.T.RotationSystem.system l.t) l.v)
