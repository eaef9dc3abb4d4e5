-- The first edges have their partners.
use Rattle.std.proofs.Common.{◌≡◌, map, take}
use Rattle.cp_plant.specs.TreeWords.{partner_by}
use Rattle.cp_plant.proofs.partners.partners_of.Given as goal

abbrev pub invariant-loop-x : goal.invariant-loop-x
invariant-loop-x l = l.partners.items ≡ map (partner_by l.pairs l.first) (take l.x-index l.list)
