use Rattle.cp_rot.specs.Tables.{system_of}
use Rattle.cp_rot.proofs.NextTables.{StoredUpto}
use Rattle.cp_rot.proofs.building.write_all.Given as goal

abbrev pub invariant-loop-list : goal.invariant-loop-list
invariant-loop-list l = StoredUpto (system_of l.at l.lists) l.list-index l.table
