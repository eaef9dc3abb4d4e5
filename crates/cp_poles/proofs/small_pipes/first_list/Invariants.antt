use Rattle.std.proofs.Common.{◌≡◌, map, take}
use Rattle.cp_poles.proofs.small_pipes.first_list.Given as goal

abbrev pub invariant-loop-pair : goal.invariant-loop-pair
invariant-loop-pair l = l.names.items ≡ map (λ x. x.0) (take l.pair-index l.pairs)
