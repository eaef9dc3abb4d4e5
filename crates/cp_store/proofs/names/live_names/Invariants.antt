use Rattle.std.proofs.Common.{◌≡◌, map, take}
use Rattle.cp_store.specs.Exchanges.{items_of}
use Rattle.cp_store.proofs.names.live_names.Given as goal

abbrev pub invariant-loop-entry : goal.invariant-loop-entry
invariant-loop-entry g l = l.names.items ≡ map g.T.Named.name (items_of (take l.entry-index l.table.entries.items))
