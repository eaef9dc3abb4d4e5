use Rattle.std.proofs.Common.{ℕ, ◌<◌}
use Rattle.cp_rotlaw.specs.SideStates.{IsCorner}
use Rattle.cp_rotlaw.proofs.sides.corner.Given as goal

abbrev pub invariant-loop-x : goal.invariant-loop-x
invariant-loop-x l = (y : ℕ) → y < l.x → IsCorner l.a l.side l.merged y → ⊥
