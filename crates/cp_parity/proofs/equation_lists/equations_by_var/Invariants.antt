-- The equations before the next one are listed.
use Rattle.cp_parity.specs.EquationLists.{AreListed}
use Rattle.cp_parity.proofs.equation_lists.equations_by_var.Given as goal

abbrev pub invariant-loop-place : goal.invariant-loop-place
invariant-loop-place l = AreListed l.eqs l.vars l.place l.lists.items
