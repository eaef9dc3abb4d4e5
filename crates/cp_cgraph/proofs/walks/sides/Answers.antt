use Rattle.std.proofs.Common.{arith}
use Rattle.cp_cgraph.proofs.Crossing.{IsBetween-left, IsBetween-entered, IsBetween-end}
use Rattle.cp_cgraph.proofs.walks.sides.Goals as goal

pub loop-outer-preserved-then-outer-inner : goal.loop-outer-preserved-then-outer-inner
loop-outer-preserved-then-outer-inner c =
    rw (c.parent-outer.ensures.value, c.in_ok-push.ensures.items) (IsBetween-left c.args.g.now c.requires.clustered
    c.args.e c.loop-outer.outer c.loop-outer.inner c.loop-outer.left.items c.loop-outer.entered.items
    c.loop-outer.invariant c.if-outer-inner.true)

pub loop-outer-preserved : goal.loop-outer-preserved
loop-outer-preserved c =
    rw (c.parent-inner.ensures.value, c.in_ok-push-2.ensures.items) (IsBetween-entered c.args.g.now c.requires.clustered
    c.args.e c.loop-outer.outer c.loop-outer.inner c.loop-outer.left.items c.loop-outer.entered.items
    c.loop-outer.invariant (omega arith))

pub returns : goal.returns
returns c = IsBetween-end c.args.g.now c.requires.clustered c.args.e c.loop-outer.outer c.loop-outer.inner
    c.loop-outer.left.items c.loop-outer.entered.items c.loop-outer.invariant c.loop-outer-test.false
