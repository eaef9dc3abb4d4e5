use Rattle.std.proofs.Common.{◌≡◌, ◌↔◌, sym, subst}
use Rattle.cp_report.specs.declared.report.Report.{Report}
use Rattle.cp_report.specs.declared.report.Report.TheVariants.{Yes}
use Rattle.cp_check.specs.Judging.{IsGoodReport}
use Rattle.cp_check.specs.declared.verdict.Verdict.TheVariants.{Accepted, Rejected}
use Rattle.cp_check.proofs.Verdicts.{accepted_exactly}
use Rattle.cp_check.proofs.judge.check.Goals as goal

pub returns-in-Some-clause-accepted : goal.returns-in-Some-clause-accepted
returns-in-Some-clause-accepted c =
    subst (λ (r : Report). (Rejected c.in-Some.reason ≡ Accepted) ↔ IsGoodReport c.args.g.now r) (sym c.in-Yes.is)
    (accepted_exactly c.args.g.now (Yes c.in-Yes.layout) (Rejected c.in-Some.reason) c.in-Some.ensures.reason)
