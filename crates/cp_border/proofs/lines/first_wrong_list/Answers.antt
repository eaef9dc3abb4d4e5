use Rattle.std.proofs.Common.{arith, sym, subst, ⊎_elim}
use Rattle.std.proofs.lemmas.Bool.{cases_eq}
use Rattle.cp_border.specs.Lines.{HasNodeList}
use Rattle.cp_border.proofs.lines.first_wrong_list.Goals as goal

pub loop-v-preserved : goal.loop-v-preserved
loop-v-preserved c = record {
  right = λ i lt. ⊎_elim
      (λ e. subst (HasNodeList c.args.g.now c.args.lay.now) (sym e) (c.has_node_list.ensures.right.0
      c.if-not-has_node_list.false))
      (λ ne. c.loop-v.invariant.right i (omega arith))
      (cases_eq i c.loop-v.v);
  unseen = c.has_node_list.ensures.seen;
}
