-- From the verdict on a report to the answer to its bytes.
use Rattle.std.proofs.Common.{◌≡◌, ℕ, ◌≤◌, List, length, length-append, drop, sym, ap, subst, ◌∙◌, arith}
use Rattle.cp_cgraph.specs.Clustered.{Clustered}
use Rattle.cp_report.specs.declared.report.Report.{Report}
use Rattle.cp_report.specs.Texts.{report_text, BeginsWith}
use Rattle.cp_check.specs.Judging.{IsVerdict}
use Rattle.cp_check.specs.declared.verdict.Verdict.{Verdict}
use Rattle.cp_check.specs.declared.verdict.Verdict.TheVariants.{Accepted, Rejected}
use Rattle.cp_cgraph.specs.GraphTexts.{IsGraphText}
use Rattle.cp_app.specs.Verdicts.{Tells}
use Rattle.cp_app.specs.Answer.{Checked, Judged}
use Rattle.cp_app.specs.Answer.Checked.{read}
use Rattle.cp_app.specs.Answer.Judged.{accepted, rejected}
use Rattle.cp_app.specs.Texts.{accepted_line, rejected_line}
use Rattle.cp_app.specs.declared.end.End.{End}

-- a report that bytes begin with is no longer than the bytes
pub report_short : (bytes : List ℕ) (r : Report) (n : ℕ) → BeginsWith bytes r n → n ≤ length bytes
report_short bytes r n is =
    let all = ap length is.front ∙ length-append (report_text r) (drop n bytes) in
    omega (arith, all, is.whole)

-- the verdict on a report answers it and the text behind it
pub verdict_judges : (g : Clustered) (r : Report) (text : List ℕ) → IsGraphText text g → (v : Verdict) → IsVerdict g r v
    → (end : End) (line : List ℕ) → Tells v end line → Judged r text end line
verdict_judges g r text is Accepted good end line told =
    subst (λ t. Judged r text end t) (sym told.1) (subst (λ e. Judged r text e accepted_line) (sym told.0)
    (accepted g is good))
verdict_judges g r text is (Rejected reason) why end line told =
    subst (λ t. Judged r text end t) (sym told.1) (subst (λ e. Judged r text e (rejected_line reason)) (sym told.0)
    (rejected g is reason why))

-- what is judged behind a report answers the bytes
pub read_here : (bytes : List ℕ) (r : Report) (n : ℕ) (text : List ℕ) → BeginsWith bytes r n → text ≡ drop n bytes
    → (end : End) (line : List ℕ) → Judged r text end line → Checked bytes end line
read_here bytes r n text begins same end line is = read r n begins (subst (λ t. Judged r t end line) same is)
