-- The text of the run answers.
use Rattle.cp_app.specs.Answer.Traced.{traced}
use Rattle.cp_app.proofs.tracing.traced.Goals as goal

pub returns : goal.returns
returns c = λ text is. traced c.args.graph.now is c.in_ok-text.ensures
