use Rattle.std.proofs.Common.{ℕ, ◌<◌}
use Rattle.cp_rot.specs.Tables.{IsUnmarked}
use Rattle.cp_rot.proofs.faces.clear.Given as goal

abbrev pub invariant-loop-x : goal.invariant-loop-x
invariant-loop-x l = (y : ℕ) → y < l.x → IsUnmarked l.marks y
