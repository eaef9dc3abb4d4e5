use Rattle.std.proofs.Common.{arith}
use Rattle.cp_pq.proofs.SmallStars.{reduced_has, first_leaves}
use Rattle.cp_pq.proofs.tests.nested.Goals as goal

pub reduce-requires : goal.reduce-requires
reduce-requires c =
    let r = c.requires.leaves in
    first_leaves r.0 c.loop-end.end c.args.leaves.now c.requires.rising (omega (arith, c.loop-end.auto.end))
    c.loop-end-test.true c.loop-end.inner (c.loop-end.invariant r.0 r.1)

pub loop-end-preserved : goal.loop-end-preserved
loop-end-preserved c = λ root h. reduced_has root _ _ _ _ c.in_ok-inner.ensures.reduced (c.loop-end.invariant root h)
