use Rattle.std.proofs.Common.{arith}
use Rattle.cp_cgraph.proofs.Counted.{HasCounted-left, HasCounted-entered, HasCounted-end}
use Rattle.cp_cgraph.proofs.walks.crossing_count.Goals as goal

pub loop-outer-preserved-then-outer-inner : goal.loop-outer-preserved-then-outer-inner
loop-outer-preserved-then-outer-inner c =
    rw c.parent-outer.ensures.value (HasCounted-left c.args.g.now c.requires.clustered c.args.e c.loop-outer.outer
    c.loop-outer.inner c.loop-outer.left c.loop-outer.entered c.loop-outer.invariant c.if-outer-inner.true)

pub loop-outer-preserved : goal.loop-outer-preserved
loop-outer-preserved c =
    rw c.parent-inner.ensures.value (HasCounted-entered c.args.g.now c.requires.clustered c.args.e c.loop-outer.outer
    c.loop-outer.inner c.loop-outer.left c.loop-outer.entered c.loop-outer.invariant (omega arith))

pub returns-clause-value : goal.returns-clause-value
returns-clause-value c = HasCounted-end c.args.g.now c.requires.clustered c.args.e c.loop-outer.outer c.loop-outer.inner
    c.loop-outer.left c.loop-outer.entered c.loop-outer.invariant c.loop-outer-test.false
