use Rattle.std.proofs.Common.{◌≡◌, ◌+◌, ◌++◌, take}
use Rattle.cp_report.specs.Texts.{numbered, text_of}
use Rattle.cp_report.specs.Reading.{row_line}
use Rattle.cp_report.proofs.write.push_rows.Given as goal

-- the lines so far are written
abbrev pub invariant-loop-list : goal.invariant-loop-list
invariant-loop-list l = record {
  count : l.number ≡ l.first + l.list-index;
  written : l.text.items ≡ l.fn.text.items ++ text_of (numbered (row_line l.row) l.first (take l.list-index l.lists));
}
