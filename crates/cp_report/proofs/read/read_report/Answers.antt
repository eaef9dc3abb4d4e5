use Rattle.cp_report.specs.declared.kind.ReportKind.TheVariants.{NoHeading}
use Rattle.cp_report.proofs.ReportLemmas.{heading_fault}
use Rattle.cp_report.proofs.read.read_report.Goals as goal

pub returns-in_default-clause-fault : goal.returns-in_default-clause-fault
returns-in_default-clause-fault c = (NoHeading, c.number.ensures, heading_fault c.args.bytes.now c.in_default.ensures)
