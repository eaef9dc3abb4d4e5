use Rattle.std.proofs.Common.{sym, ◌∙◌}
use Rattle.cp_pq.proofs.MarkLaws.{looked_in, looked_out}
use Rattle.cp_pq.proofs.look.leaf_mark.Goals as goal

pub returns-then-is_in_set : goal.returns-then-is_in_set
returns-then-is_in_set c = λ ms. looked_in c.args.set.now ms c.args.x (λ r. sym (c.is_in_set.ensures r) ∙ c.if-is_in_set.true)

pub returns : goal.returns
returns c = λ ms. looked_out c.args.set.now ms c.args.x (λ r. sym (c.is_in_set.ensures r) ∙ c.if-is_in_set.false)
