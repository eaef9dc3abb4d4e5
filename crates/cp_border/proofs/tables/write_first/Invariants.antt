use Rattle.std.proofs.Common.{◌+◌}
use Rattle.cp_border.specs.Borders.{sum_below, crossed}
use Rattle.cp_border.specs.Tables.{HoldsTable}
use Rattle.cp_border.proofs.tables.write_first.Given as goal

abbrev pub invariant-loop-e : goal.invariant-loop-e
invariant-loop-e l = HoldsTable (l.e + 1) l.first (sum_below (crossed l.g))
