use Rattle.std.proofs.Common.{◌≡◌, ◌^◌, ◌<◌}
use Rattle.cp_border.specs.Borders.{sum_below, crossed}
use Rattle.cp_border.proofs.tables.border_count.Given as goal

abbrev pub invariant-loop-e : goal.invariant-loop-e
invariant-loop-e l = record {
  counted : l.count ≡ sum_below (crossed l.g) l.e;
  few : l.count < 2 ^ 59;
}
