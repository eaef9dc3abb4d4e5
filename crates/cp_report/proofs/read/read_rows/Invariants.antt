use Rattle.std.proofs.Common.{◌≡◌, ◌+◌, length}
use Rattle.cp_report.specs.Reading.{AreListLines}
use Rattle.cp_report.proofs.read.read_rows.Given as goal

-- the lines read so far hold the lists
abbrev pub invariant-loop-line : goal.invariant-loop-line
invariant-loop-line l = record {
  rows : AreListLines l.row l.first l.bytes l.lists l.rest;
  count : l.number ≡ l.first + length l.lists;
}

abbrev pub decreases-loop-line : goal.decreases-loop-line
decreases-loop-line l = length l.rest
