use Rattle.std.proofs.Common.{◌≡◌, ◌≤◌, not, length, map}
use Rattle.std.specs.List.{filter, range_with_len}
use Rattle.cp_board.specs.Names.{has}
use Rattle.cp_store.specs.Exchanges.{items_of}
use Rattle.cp_store.proofs.gaps.least_gaps.Given as goal

abbrev pub invariant-loop-k : goal.invariant-loop-k
invariant-loop-k g l =
    (l.names.items ≡ filter (λ j. not (has (map g.T.Named.name (items_of l.table.entries.items)) j)) (range_with_len 0 l.k))
    × (length l.names.items ≤ l.n)
