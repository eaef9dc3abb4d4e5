use Rattle.std.proofs.Common.{arith}
use Rattle.cp_rotlaw.proofs.SideCode.{NoneLeft-from}
use Rattle.cp_rotlaw.proofs.SideMerging.{left_have}
use Rattle.cp_rotlaw.proofs.sides.first_left.Goals as goal

pub returns-then-not-merged-w : goal.returns-then-not-merged-w
returns-then-not-merged-w c =
    left_have c.args.a.now c.vertices-w-end.ensures.rotation c.args.side.now c.requires.sides c.args.merged.now
    c.loop-w.w (omega (arith, c.loop-w-test.true, c.vertices-w-end.ensures.value)) c.if-side-w.true c.if-not-merged-w.true

pub returns : goal.returns
returns c = NoneLeft-from c.args.a.now c.args.side.now c.args.merged.now (λ x lt.
    c.loop-w.invariant x (omega (arith, lt, c.loop-w-test.false, c.vertices-w-end.ensures.value)))
