-- What is judged behind the report, or the fault of the report.
use Rattle.std.proofs.Common.{ℕ, sym, subst}
use Rattle.std.proofs.lemmas.Result.{IfOk-weaker}
use Rattle.cp_app.specs.Answer.{Checked}
use Rattle.cp_app.specs.Answer.Checked.{bad_report}
use Rattle.cp_app.specs.Texts.{bad_report_line}
use Rattle.cp_app.proofs.JudgeLemmas.{read_here}
use Rattle.cp_app.specs.declared.end.End.TheVariants as ends
use Rattle.cp_app.proofs.answering.answer_to.Goals as goal

pub returns-in-Ok : goal.returns-in-Ok
returns-in-Ok c =
    IfOk-weaker c.judged.result _ _
    (λ a is. read_here c.args.bytes.now c.in-Ok.report c.in-Ok.length c.split_at.result.1.now c.in-Ok.ensures.found
    c.split_at.ensures.back a.0 a.1.items is)
    c.judged.ensures

pub returns-in_ok-text-in-Err-Bad : goal.returns-in_ok-text-in-Err-Bad
returns-in_ok-text-in-Err-Bad c =
    let bytes = c.args.bytes.now in
    let line = c.in-Err-Bad.line in
    let fault = rw c.in-Err-Bad.field-0-is at c.in-Err-Bad.ensures.fault in
    let told : Checked bytes (ends.BadReport c.in-Err-Bad.kind line) (bad_report_line c.in-Err-Bad.kind line) =
    subst (λ (k : ℕ). Checked bytes (ends.BadReport k line) (bad_report_line k line)) (sym fault.1)
    (bad_report fault.0 line fault.2) in
    subst (λ t. Checked bytes (ends.BadReport c.in-Err-Bad.kind line) t) (sym c.in_ok-text-in-Err-Bad.ensures) told
