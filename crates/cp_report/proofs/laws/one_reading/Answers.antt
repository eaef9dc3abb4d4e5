use Rattle.cp_report.proofs.LawLemmas.{same_reading, no_fault_in_report, one_fault}
use Rattle.cp_report.proofs.Outcomes.{some_reading}
use Rattle.cp_report.proofs.laws.one_reading.Goals as goal

pub returns : goal.returns
returns c = record { reports = same_reading; apart = no_fault_in_report; some = some_reading; faults = one_fault }
