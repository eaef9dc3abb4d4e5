use Rattle.std.proofs.Common.{◌≡◌, ◌≤◌, take, length}
use Rattle.cp_store.specs.Exchanges.{items_of}
use Rattle.cp_store.proofs.reading.item_count.Given as goal

abbrev pub invariant-loop-entry : goal.invariant-loop-entry
invariant-loop-entry g l = (l.count ≡ length (items_of (take l.entry-index l.table.entries.items))) × (l.count ≤ l.entry-index)
