use Rattle.std.proofs.Common.{take}
use Rattle.cp_poles.specs.Between.{AreEntries}
use Rattle.cp_poles.specs.LocalBonds.{local_part}
use Rattle.cp_poles.proofs.bonds.entries.Given as goal

abbrev pub invariant-loop-e : goal.invariant-loop-e
invariant-loop-e g l =
    AreEntries (local_part (g.B.Board.instance l.board) l.between) l.v l.between.numbers.items (take l.e-index l.e-items)
    l.table.items
