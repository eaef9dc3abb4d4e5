-- The numbers of the faults of bytes that begin with no report.
use Rattle.std.specs.Prelude.{ℕ}
use Rattle.cp_report.specs.declared.kind.ReportKind.{ReportKind}
use Rattle.cp_report.specs.declared.kind.ReportKind.TheVariants.{NoHeading, NoVerdict, WrongLine, NoLine}

-- the number of a kind in the format
abbrev pub report_number : ReportKind → ℕ
report_number NoHeading = 1
report_number NoVerdict = 2
report_number WrongLine = 3
report_number NoLine = 4
