use Rattle.std.proofs.Common.{◌+◌, ◌-◌, ◌*◌, length}
use Rattle.cp_gml.specs.Moves.{AreEntries}
use Rattle.cp_gml.proofs.reader.+reader.Given as goal

abbrev pub decreases-entry_at : goal.decreases-entry_at
decreases-entry_at l = 2 * (513 - l.level)

abbrev pub decreases-entries_from : goal.decreases-entries_from
decreases-entries_from l = 2 * (513 - l.level) + 1

abbrev pub invariant-entries_from-reading : goal.invariant-entries_from-reading
invariant-entries_from-reading l = AreEntries l.text l.fn.from l.level l.entries l.at

abbrev pub decreases-entries_from-reading : goal.decreases-entries_from-reading
decreases-entries_from-reading l = length l.text - l.at
