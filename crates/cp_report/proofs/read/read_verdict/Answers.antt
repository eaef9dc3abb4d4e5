use Rattle.cp_report.specs.declared.kind.ReportKind.TheVariants.{NoVerdict}
use Rattle.cp_report.proofs.ReportLemmas.{verdict_fault}
use Rattle.cp_report.proofs.read.read_verdict.Goals as goal

pub returns-in-None-clause-fault : goal.returns-in-None-clause-fault
returns-in-None-clause-fault c =
    (NoVerdict, c.number.ensures, verdict_fault c.args.bytes.now c.in_default.ensures c.in-None.ensures)
