use Rattle.std.proofs.Common.{◌≡◌, ◌+◌}
use Rattle.cp_border.specs.Borders.{sum_below, crossed}
use Rattle.cp_check.proofs.scratch.has_borders.Given as goal

abbrev pub invariant-loop-e : goal.invariant-loop-e
invariant-loop-e l = l.left + sum_below (crossed l.g) l.e ≡ l.count
