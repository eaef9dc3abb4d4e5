-- The first edges have their partners.
use Rattle.std.proofs.Common.{◌≡◌, map, take}
use Rattle.cp_plant.specs.TreeWords.{partner_by}
use Rattle.cp_plant.proofs.partners.with_partners.Given as goal

abbrev pub invariant-loop-edge : goal.invariant-loop-edge
invariant-loop-edge l = l.list.items ≡ map (λ x. (x, partner_by l.pairs l.first x)) (take l.edge-index l.edges)
