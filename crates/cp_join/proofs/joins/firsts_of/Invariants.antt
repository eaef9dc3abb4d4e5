use Rattle.std.proofs.Common.{◌≡◌, map, take}
use Rattle.cp_join.proofs.joins.firsts_of.Given as goal

abbrev pub invariant-loop-pair : goal.invariant-loop-pair
invariant-loop-pair l = l.edges.items ≡ map (λ x. x.0) (take l.pair-index l.pairs)
