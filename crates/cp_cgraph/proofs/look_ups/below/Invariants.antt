use Rattle.cp_cgraph.specs.LookUps.{IsTable}
use Rattle.cp_cgraph.proofs.look_ups.below.Given as goal

abbrev pub invariant-numbering : goal.invariant-numbering
invariant-numbering l = IsTable l.k l.numbers.items (λ k. k)
