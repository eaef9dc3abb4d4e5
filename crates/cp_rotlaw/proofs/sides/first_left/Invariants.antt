use Rattle.std.proofs.Common.{◌≡◌, ℕ, ◌<◌, false}
use Rattle.cp_rotlaw.specs.SideStates.{is_left}
use Rattle.cp_rotlaw.proofs.sides.first_left.Given as goal

abbrev pub invariant-loop-w : goal.invariant-loop-w
invariant-loop-w l = (x : ℕ) → x < l.w → is_left l.side l.merged x ≡ false
