use Rattle.std.proofs.Common.{◌+◌}
use Rattle.cp_rot.specs.Search.{Searching, unmarked}
use Rattle.cp_rot.proofs.components.mark_component.Given as goal

abbrev pub invariant-loop-height : goal.invariant-loop-height
invariant-loop-height g l = Searching (g.T.RotationSystem.system l.t) l.v l.fn.marks l.marks l.stack l.height

-- the vertices on the stack, and those that are not marked yet
abbrev pub decreases-loop-height : goal.decreases-loop-height
decreases-loop-height g l = l.height + unmarked (g.T.RotationSystem.system l.t) l.marks
