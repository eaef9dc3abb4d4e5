-- The numbers of the run fit, and its text is a trace of the graph.
use Rattle.std.proofs.Common.{◌∙◌, ap}
use Rattle.std.proofs.lemmas.Result.{IfOk-weaker}
use Rattle.cp_app.proofs.RunTexts.{outcome-fits, steps-fit, told-IsTraceOf}
use Rattle.cp_app.proofs.tracing.trace_graph.Goals as goal

pub write_trace-requires-clause-steps_fit : goal.write_trace-requires-clause-steps_fit
write_trace-requires-clause-steps_fit c =
    steps-fit c.instance-first.result.now c.in_ok-run.run' c.items.result.now c.items.ensures c.in_ok-run.ensures

pub write_trace-requires-clause-reason_fits : goal.write_trace-requires-clause-reason_fits
write_trace-requires-clause-reason_fits c =
    outcome-fits c.instance-first.result.now c.in_ok-run.run'.last c.in_ok-run.run'.outcome c.follows_rules.ensures
    c.in_ok-_count.ensures.few c.in_ok-run.ensures.outcome

pub returns : goal.returns
returns c =
    IfOk-weaker c.write_trace.result _ _
    (λ text of. told-IsTraceOf c.args.graph.now c.instance-first.result.now c.in_ok-run.run' c.items.result.now text.items
    c.is_clustered.ensures.clustered (c.instance-first.ensures ∙ ap (λ k. k.instance) c.in_ok-skeletons.ensures)
    c.items.ensures c.in_ok-run.ensures of)
    c.write_trace.ensures
