use Rattle.std.proofs.Common.{◌≡◌, map, take}
use Rattle.cp_join.specs.Joining.{hat_among}
use Rattle.cp_join.proofs.joins.part_pairs.Given as goal

abbrev pub invariant-loop-edge : goal.invariant-loop-edge
invariant-loop-edge l = l.pairs ≡ map (λ e. (e, hat_among l.edges l.hats e)) (take l.edge-index l.part)
