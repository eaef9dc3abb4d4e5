use Rattle.std.proofs.Common.{sym, ◌∙◌}
use Rattle.cp_poles.proofs.TestedPipes.{kind_free}
use Rattle.cp_poles.proofs.tests.is_free.Goals as goal

pub returns-clause-kind : goal.returns-clause-kind
returns-clause-kind c = λ t.
    kind_free c.args.i.now.verts c.args.v c.requires (sym c.is_q.ensures.value ∙ c.if-is_q.false)
