use Rattle.cp_cgraph.specs.Crossings.{crossed}
use Rattle.cp_cgraph.specs.LookUps.{IsTable}
use Rattle.cp_cgraph.proofs.look_ups.crossed.Given as goal

abbrev pub invariant-counting : goal.invariant-counting
invariant-counting l = IsTable l.e l.counts.items (crossed l.g)
