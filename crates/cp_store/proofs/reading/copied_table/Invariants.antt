use Rattle.std.proofs.Common.{◌≡◌, take}
use Rattle.cp_store.specs.Exchanges.{items_of}
use Rattle.cp_store.proofs.reading.copied_table.Given as goal

abbrev pub invariant-loop-entry : goal.invariant-loop-entry
invariant-loop-entry g l = l.items ≡ items_of (take l.entry-index l.table.entries.items)
