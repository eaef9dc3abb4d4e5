use Rattle.cp_rot.proofs.InsertCode.{inserted_at, inserted_other}
use Rattle.std.proofs.Common.{◌∙◌, ap}
use Rattle.cp_rot.proofs.adding.items_with_behind.Goals as goal
use Rattle.cp_rot.proofs.adding.items_with_behind.Goals.{then-x-a+in_ok-push-2, else-x-a}

pub loop-x-preserved : goal.loop-x-preserved
loop-x-preserved c = elim c.if-x-a.branch [
  | then-x-a+in_ok-push-2 w ↦ ap (λ v. v.items) w.new-is ∙ inserted_at c.args.items.now c.loop-x.x-index c.args.a c.args.b c.loop-x-test.true w.if-x-a.true c.loop-x.invariant c.in_ok-push.ensures.items w.in_ok-push-2.ensures.items
  | else-x-a w ↦ ap (λ v. v.items) w.new-is ∙ inserted_other c.args.items.now c.loop-x.x-index c.args.a c.args.b c.loop-x-test.true w.if-x-a.false c.loop-x.invariant c.in_ok-push.ensures.items
]
