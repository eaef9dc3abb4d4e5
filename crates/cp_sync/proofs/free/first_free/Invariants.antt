use Rattle.std.proofs.Common.{◌≡◌, take}
use Rattle.std.specs.List.{filter, range_with_len}
use Rattle.cp_sync.specs.FreeNames.{is_free}
use Rattle.cp_sync.proofs.free.first_free.Given as goal

abbrev pub invariant-loop-k : goal.invariant-loop-k
invariant-loop-k l = l.names.items ≡ take l.n (filter (is_free l.table) (range_with_len 0 l.k))
