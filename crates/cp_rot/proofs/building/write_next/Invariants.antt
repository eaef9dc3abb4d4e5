use Rattle.cp_rot.proofs.NextTables.{Written}
use Rattle.cp_rot.proofs.building.write_next.Given as goal

abbrev pub invariant-loop-i : goal.invariant-loop-i
invariant-loop-i l = Written l.items l.i l.fn.table l.table
