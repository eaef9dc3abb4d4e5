use Rattle.cp_report.proofs.ReportLemmas.{no_fault}
use Rattle.cp_report.proofs.read.read_no.Goals as goal

pub returns-in-None-clause-fault : goal.returns-in-None-clause-fault
returns-in-None-clause-fault c = (
  c.late_kind.result,
  c.number.ensures,
  no_fault c.args.bytes.now c.late_kind.result c.in-None.ensures c.late_kind.ensures,
)
