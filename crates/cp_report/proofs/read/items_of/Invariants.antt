use Rattle.std.proofs.Common.{◌≡◌, ◌++◌, length, map}
use Rattle.cp_report.specs.Reading.{AreItems, row_item}
use Rattle.cp_report.proofs.read.items_of.Given as goal

-- the words taken so far spell the items
abbrev pub invariant-loop-word : goal.invariant-loop-word
invariant-loop-word l = record {
  fit : AreItems l.row l.items.items;
  spelled : l.initial.words ≡ map (row_item l.row) l.items.items ++ l.words;
}

abbrev pub decreases-loop-word : goal.decreases-loop-word
decreases-loop-word l = length l.words
