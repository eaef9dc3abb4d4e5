use Rattle.std.proofs.Common.{arith}
use Rattle.cp_rot.specs.Systems.{darts}
use Rattle.cp_rot.proofs.Walks.{Walked-more, Walked-end, unmarked_below-set}
use Rattle.cp_rot.proofs.faces.mark_face.Goals as goal

pub loop-marks-smaller : goal.loop-marks-smaller
loop-marks-smaller g c =
    let fewer = unmarked_below-set (darts (g.T.RotationSystem.system c.args.t.now)) c.loop-marks.marks c.loop-marks.x c.loop-marks.invariant.dart (omega arith) c.loop-marks-test.true in
    omega arith

pub loop-marks-preserved : goal.loop-marks-preserved
loop-marks-preserved g c = Walked-more (g.T.RotationSystem.system c.args.t.now) c.args.d c.args.marks.now c.loop-marks.marks c.loop-marks.x c.dart_after-x.result c.loop-marks.invariant (omega arith) c.dart_after-x.ensures.value c.dart_after-x.ensures.within

pub returns : goal.returns
returns g c = λ x lt. Walked-end (g.T.RotationSystem.system c.args.t.now) c.args.d c.args.marks.now c.loop-marks.marks c.loop-marks.x c.loop-marks.invariant c.loop-marks-test.false c.requires.unmarked x
