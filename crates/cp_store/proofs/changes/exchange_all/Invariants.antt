use Rattle.std.proofs.Common.{◌≡◌, ◌+◌, ◌≤◌}
use Rattle.std.specs.List.{All}
use Rattle.std.specs.Vec.{vec_len, vec_capacity}
use Rattle.cp_store.specs.Exchanges.{taken_back, entry_names, items_of, IsTable, IsReserved}
use Rattle.cp_store.proofs.changes.exchange_all.Given as goal

abbrev pub invariant-loop-entry : goal.invariant-loop-entry
invariant-loop-entry g l =
    IsTable g.T.Named.name l.table.entries.items
    × (entry_names l.table.entries.items ≡ entry_names l.initial.table.entries.items)
    × (taken_back g.T.Named.name l.rest.items (items_of l.table.entries.items) ≡ taken_back g.T.Named.name l.initial.rest.items (items_of l.initial.table.entries.items))
    × (taken_back g.T.Named.name l.done.items (items_of l.table.entries.items) ≡ taken_back g.T.Named.name l.initial.done.items (items_of l.initial.table.entries.items))
    × All (IsReserved g.T.Named.name (entry_names l.initial.table.entries.items)) l.rest.items
    × All (IsReserved g.T.Named.name (entry_names l.initial.table.entries.items)) l.done.items
    × (vec_len l.done + vec_len l.rest ≤ vec_capacity l.done)

abbrev pub decreases-loop-entry : goal.decreases-loop-entry
decreases-loop-entry g l = goal.left-loop-entry g l
