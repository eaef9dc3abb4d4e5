use Rattle.std.proofs.Common.{◌≡◌, map, take}
use Rattle.cp_poles.specs.Wanted.{partner_in}
use Rattle.cp_poles.proofs.wanted.partners_of.Given as goal

abbrev pub invariant-loop-x : goal.invariant-loop-x
invariant-loop-x l = l.partners.items ≡ map (partner_in l.pairs l.first) (take l.x-index l.list)
