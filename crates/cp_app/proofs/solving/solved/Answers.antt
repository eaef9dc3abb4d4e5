-- The report of the graph answers.
use Rattle.std.proofs.lemmas.Result.{IfOk-weaker}
use Rattle.cp_app.proofs.LeastLayouts.{told-Solved}
use Rattle.cp_app.proofs.solving.solved.Goals as goal

pub returns : goal.returns
returns c =
    IfOk-weaker c.told.result _ _
    (λ a told. λ text is. told-Solved text c.args.graph.now c.in_ok-report.report a.0 a.1.items is
    c.in_ok-report.ensures told)
    c.told.ensures
