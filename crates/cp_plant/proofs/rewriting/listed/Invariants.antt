use Rattle.std.proofs.Common.{◌≡◌, take}
use Rattle.cp_plant.proofs.rewriting.listed.Given as goal

abbrev pub invariant-loop-pair : goal.invariant-loop-pair
invariant-loop-pair l = l.list ≡ take l.pair-index l.pairs
