use Rattle.std.proofs.Common.{take}
use Rattle.std.specs.List.{All}
use Rattle.cp_store.specs.Exchanges.{entry_names, IsReserved, IsGrown}
use Rattle.cp_store.proofs.changes.reserve_entries.Given as goal

abbrev pub invariant-loop-entry : goal.invariant-loop-entry
invariant-loop-entry g l =
    IsGrown g.T.Named.name l.initial.table.entries.items l.table.entries.items
    × All (IsReserved g.T.Named.name (entry_names l.table.entries.items)) (take l.entry-index l.entries)
