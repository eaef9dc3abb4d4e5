use Rattle.cp_report.proofs.ReportLemmas.{layout_fault}
use Rattle.cp_report.proofs.read.read_layout.Goals as goal

pub returns-clause-fault : goal.returns-clause-fault
returns-clause-fault c = (
  c.late_kind.result,
  c.number.ensures,
  rw (c.len.ensures, c.len-in-None.ensures)
      (layout_fault c.args.bytes.now c.in_ok-nodes.behind_nodes.now c.in_ok-clusters.rest.now _ _ c.late_kind.result
      c.in_ok-nodes.ensures c.in_ok-clusters.ensures c.in-None.ensures c.late_kind.ensures),
)
