use Rattle.std.proofs.Common.{arith, sym, ◌∙◌}
use Rattle.std.proofs.lemmas.Bool.{eqb-true, eq-eqb}
use Rattle.cp_lists.proofs.ExactLists.{Exactly-length}
use Rattle.cp_border.proofs.exact.holds_exactly.Goals as goal

pub returns-then-marked-items-clause-exact : goal.returns-then-marked-items-clause-exact
returns-then-marked-items-clause-exact g c = (
  λ t. c.mark_items-marked.ensures.all c.if-marked-items.true
      (omega (arith, c.requires.total, eqb-true c.mark_items-marked.result c.args.total t)),
  λ ex. eq-eqb c.mark_items-marked.result c.args.total (c.if-marked-items.true ∙ Exactly-length
      (g.T.Wanted.bound c.args.t.now) (g.T.Wanted.wanted c.args.t.now) c.args.items.now ex ∙ sym c.requires.total),
)
