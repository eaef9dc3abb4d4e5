use Rattle.std.proofs.Common.{◌≡◌, drop}
use Rattle.cp_plant.specs.Growing.{partner_in}
use Rattle.cp_plant.proofs.planting.partner_of.Given as goal

abbrev pub invariant-loop-pair : goal.invariant-loop-pair
invariant-loop-pair l = partner_in (drop l.pair-index l.partners) l.x ≡ partner_in l.partners l.x
