use Rattle.std.proofs.Common.{arith, sym, subst, ⊎_elim}
use Rattle.std.proofs.lemmas.Bool.{cases_eq}
use Rattle.cp_border.specs.Lines.{HasBorderList}
use Rattle.cp_border.proofs.lines.first_wrong_border.Goals as goal

pub loop-c-preserved : goal.loop-c-preserved
loop-c-preserved c = record {
  right = λ k above lt. ⊎_elim
      (λ e. subst (HasBorderList c.args.g.now c.args.lay.now) (sym e) (c.has_border_list.ensures.right.0
      c.if-not-has_border_list.false))
      (λ ne. c.loop-c.invariant.right k above (omega arith))
      (cases_eq k c.loop-c.c);
  unseen = c.has_border_list.ensures.seen;
}
