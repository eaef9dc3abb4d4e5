-- The verdict, or the fault of the text.
use Rattle.std.proofs.lemmas.Result.{IfOk-weaker}
use Rattle.cp_app.specs.Answer.Judged.{refused}
use Rattle.cp_app.proofs.JudgeLemmas.{verdict_judges}
use Rattle.cp_app.proofs.answering.judged.Goals as goal

pub returns-in_ok-verdict-in-Ok : goal.returns-in_ok-verdict-in-Ok
returns-in_ok-verdict-in-Ok c =
    IfOk-weaker c.told.result _ _
    (λ a told. verdict_judges c.in-Ok.graph c.args.report.now c.args.text.now c.in-Ok.ensures.graph
    c.in_ok-verdict-in-Ok.field-0 c.in_ok-verdict-in-Ok.ensures a.0 a.1.items told)
    c.told.ensures

pub returns-in-Err : goal.returns-in-Err
returns-in-Err c =
    IfOk-weaker c.refusal.result _ _
    (λ a is. refused (is c.args.text.now c.in-Err.ensures.fault))
    c.refusal.ensures
