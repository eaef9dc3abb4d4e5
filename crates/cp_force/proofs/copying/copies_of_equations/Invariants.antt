-- The first equations were copied.
use Rattle.std.proofs.Common.{◌≡◌, take}
use Rattle.cp_force.proofs.copying.copies_of_equations.Given as goal

abbrev pub invariant-loop-equation : goal.invariant-loop-equation
invariant-loop-equation l = l.copies ≡ take l.equation-index l.equations
