use Rattle.std.proofs.Common.{◌≡◌, true, false, not, [], ◌∷◌, refl, sym, ap, ◌∙◌, subst, arith}
use Rattle.cp_pq.specs.Orders.{inside, outside}
use Rattle.cp_pq.specs.Frames.{fill, AreOutside}
use Rattle.cp_pq.specs.declared.node.Node.TheVariants.{Leaf}
use Rattle.cp_pq.proofs.NodeTests.{has_all_Leaf}
use Rattle.cp_pq.proofs.Counts.{count_Leaf}
use Rattle.cp_pq.proofs.step.leaf_step.Goals as goal

pub returns-then-not-is_in_set : goal.returns-then-not-is_in_set
returns-then-not-is_in_set c = λ rising pos.
    let e : inside c.args.set.now c.args.x ≡ false = sym (c.is_in_set.ensures rising) ∙ c.if-not-is_in_set.true in
    ((has_all_Leaf (outside c.args.set.now) c.args.x ∙ ap not e, has_all_Leaf (inside c.args.set.now) c.args.x ∙ e, refl), sym (count_Leaf (inside c.args.set.now) c.args.x false e), pos)

pub returns-then-total-gt1 : goal.returns-then-total-gt1
returns-then-total-gt1 c = λ rising pos.
    let e : inside c.args.set.now c.args.x ≡ true = sym (c.is_in_set.ensures rising) ∙ c.if-not-is_in_set.false in
    ((has_all_Leaf (outside c.args.set.now) c.args.x ∙ ap not e, has_all_Leaf (inside c.args.set.now) c.args.x ∙ e, refl), sym (count_Leaf (inside c.args.set.now) c.args.x true e), c.if-total-gt1.true)

pub returns : goal.returns
returns c = λ rising pos.
    let e : inside c.args.set.now c.args.x ≡ true = sym (c.is_in_set.ensures rising) ∙ c.if-not-is_in_set.false in (
      count_Leaf (inside c.args.set.now) c.args.x true e ∙ omega (arith, c.if-total-gt1.false, pos),
      (
        Leaf c.args.x,
        ap (λ z. fill z (Leaf c.args.x ∷ [])) (sym c.new-frames.ensures),
        subst (AreOutside (outside c.args.set.now)) (sym c.new-frames.ensures) tt,
        (has_all_Leaf (inside c.args.set.now) c.args.x ∙ e, refl),
      ),
    )
