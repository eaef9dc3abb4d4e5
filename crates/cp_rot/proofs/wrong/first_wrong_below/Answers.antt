use Rattle.std.proofs.Common.{List, ℕ, [], arith, sym, ◌∙◌, subst, ⊎_elim}
use Rattle.std.proofs.lemmas.Bool.{cases_eq}
use Rattle.std.proofs.lemmas.List.{get_or_default}
use Rattle.cp_rot.specs.Systems.{Arranges}
use Rattle.cp_rot.specs.Lists.{HasList}
use Rattle.cp_rot.proofs.wrong.first_wrong_below.Goals as goal

pub loop-v-preserved : goal.loop-v-preserved
loop-v-preserved c =
    let same = c.items.ensures ∙ c.index-lists-v.is ∙ get_or_default {X = List ℕ} c.args.lists.now c.loop-v.v c.index-lists-v.result [] c.if-v-lists.false in
    let here : HasList c.args.at.now c.args.lists.now c.loop-v.v = (c.if-v-lists.false, subst (Arranges c.args.at.now c.loop-v.v) same (c.is_arrangement.ensures.exact.0 c.if-not-is_arrangement.false)) in
    record {
      right = λ i lt. ⊎_elim (λ e. subst (HasList c.args.at.now c.args.lists.now) (sym e) here) (λ ne. c.loop-v.invariant.right i (omega arith)) (cases_eq i c.loop-v.v);
      unseen = λ d le. c.is_arrangement.ensures.seen d (λ e. omega (arith, le)) ∙ c.loop-v.invariant.unseen d (omega (arith, le));
    }
