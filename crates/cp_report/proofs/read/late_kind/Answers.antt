use Rattle.std.proofs.Common.{refl}
use Rattle.cp_report.specs.Reading.{other_line}
use Rattle.cp_report.proofs.read.late_kind.Goals as goal

pub returns-in-Some : goal.returns-in-Some
returns-in-Some c = other_line c.in-Some.field-0.0.now c.in-Some.field-0.1.now c.in-Some.ensures.0 c.in-Some.ensures.1
    refl
