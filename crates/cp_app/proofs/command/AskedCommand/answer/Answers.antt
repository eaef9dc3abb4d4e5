-- Each command has its answer.
use Rattle.std.proofs.Common.{sym, subst}
use Rattle.std.proofs.lemmas.Result.{IfOk-weaker}
use Rattle.cp_app.specs.Answer.{Answers}
use Rattle.cp_app.proofs.command.AskedCommand.answer.Goals as goal

pub returns-in-Check : goal.returns-in-Check
returns-in-Check c =
    IfOk-weaker c.answer_to.result _ _
    (λ a is. subst (λ x. Answers x c.args.bytes.now a.0 a.1.items) (sym c.in-Check.is) is)
    c.answer_to.ensures

pub returns-in-Solve : goal.returns-in-Solve
returns-in-Solve c =
    IfOk-weaker c.solve_text.result _ _
    (λ a is. subst (λ x. Answers x c.args.bytes.now a.0 a.1.items) (sym c.in-Solve.is) is)
    c.solve_text.ensures

pub returns-in-Trace : goal.returns-in-Trace
returns-in-Trace c =
    IfOk-weaker c.trace_text.result _ _
    (λ a is. subst (λ x. Answers x c.args.bytes.now a.0 a.1.items) (sym c.in-Trace.is) is)
    c.trace_text.ensures
