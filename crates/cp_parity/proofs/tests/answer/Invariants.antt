-- The vars of the equations so far are in range.
use Rattle.std.specs.List.{All}
use Rattle.cp_parity.specs.Equations.{IsOverVars}
use Rattle.cp_parity.proofs.tests.answer.Given as goal

abbrev pub invariant-loop-row : goal.invariant-loop-row
invariant-loop-row g l = All (IsOverVars l.vars) l.eqs
