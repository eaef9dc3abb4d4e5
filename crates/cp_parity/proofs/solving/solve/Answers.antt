-- All vars are found and done, or a search meets a conflict.
use Rattle.std.proofs.Common.{rules, arith}
use Rattle.cp_parity.specs.Equations.{HaveNoBits}
use Rattle.cp_parity.proofs.OddCycles.{HaveNoBits-from}
use Rattle.cp_parity.proofs.SearchSteps.{all_met}
use Rattle.cp_parity.proofs.solving.solve.Goals as goal

pub returns-clause-met : goal.returns-clause-met
returns-clause-met c =
    all_met c.args.eqs.now c.args.vars c.loop-var.search.found.items c.in_ok-bits.bits.items c.requires
    (λ x lt. c.loop-var.invariant.lower x (omega (arith, c.loop-var-test.false))) c.loop-var.invariant.done
    c.in_ok-bits.ensures.bits

pub returns-in_err-visit-clause-none : goal.returns-in_err-visit-clause-none
returns-in_err-visit-clause-none c =
    let none : HaveNoBits c.args.eqs.now c.in_err-visit.field-0.0 = HaveNoBits-from c.args.eqs.now
    c.in_err-visit.field-0.0 c.in_err-visit.ensures.odd_cycle in
    search rules
