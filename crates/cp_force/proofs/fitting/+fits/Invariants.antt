use Rattle.std.proofs.Common.{◌≡◌, true, take}
use Rattle.std.specs.List.{list_all, AllZip}
use Rattle.cp_pq.specs.Nodes.{is_branching}
use Rattle.cp_force.specs.Fits.{IsFitted, place_in}
use Rattle.cp_force.proofs.fitting.+fits.Given as goal

abbrev pub invariant-fit_row-loop-node : goal.invariant-fit_row-loop-node
invariant-fit_row-loop-node l = list_all is_branching l.nodes ≡ true
    → AllZip (IsFitted (place_in l.places)) (take l.node-index l.nodes) l.row.items
