use Rattle.cp_cgraph.specs.LookUps.{IsTable, depth}
use Rattle.cp_cgraph.proofs.look_ups.depths.Given as goal

abbrev pub invariant-counting : goal.invariant-counting
invariant-counting l = IsTable l.c l.depths.items (depth l.g)
