use Rattle.std.proofs.Common.{◌≡◌, map, slice_index_or, take}
use Rattle.cp_join.proofs.turning_back.first_order.Given as goal

abbrev pub invariant-loop-k : goal.invariant-loop-k
invariant-loop-k l = l.list.items ≡ map (λ k. (slice_index_or l.pairs k (0, 0)).0) (take l.k-index l.order)
