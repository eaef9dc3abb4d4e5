use Rattle.std.proofs.Common.{◌≡◌, take}
use Rattle.cp_join.specs.InnerSystems.{hat_darts}
use Rattle.cp_join.proofs.inner_systems.darts_of_hats.Given as goal

abbrev pub invariant-loop-edge : goal.invariant-loop-edge
invariant-loop-edge l = l.darts.items ≡ hat_darts l.hats l.end (take l.edge-index l.list)
