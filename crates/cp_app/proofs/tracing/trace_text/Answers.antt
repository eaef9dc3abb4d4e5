-- The trace of the graph, or the fault of the text.
use Rattle.std.proofs.lemmas.Result.{IfOk-weaker}
use Rattle.cp_app.specs.Answer.Traced.{refused}
use Rattle.cp_app.proofs.tracing.trace_text.Goals as goal

pub returns-in-Err : goal.returns-in-Err
returns-in-Err c =
    IfOk-weaker c.refusal.result _ _ (λ a is. refused (is c.args.bytes.now c.in-Err.ensures.fault)) c.refusal.ensures
