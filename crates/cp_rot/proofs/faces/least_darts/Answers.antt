use Rattle.std.proofs.Common.{arith, subst, ◌<◌, ◌+◌, ◌≡◌}
use Rattle.cp_rot.specs.Systems.{darts}
use Rattle.cp_rot.specs.Genus.{InOneFace}
use Rattle.cp_rot.proofs.Found.{FoundUpto, FoundUpto-none, FoundUpto-new, FoundUpto-old, fresh_class, found_at}
use Rattle.cp_rot.proofs.Walks.{FoundUpto-faces, InOneFace-Relates, InOneFace-below}
use Rattle.cp_rot.proofs.faces.least_darts.Goals as goal
use Rattle.cp_rot.proofs.faces.least_darts.Goals.{then-not-marks-d, else-not-marks-d}

pub loop-d-init : goal.loop-d-init
loop-d-init g c =
    let r = g.T.RotationSystem.system c.args.t.now in
    FoundUpto-none (InOneFace r) (darts r) c.clear.new.marks (λ x lt. c.clear.ensures x (omega arith))

pub mark_face-requires-clause-unmarked : goal.mark_face-requires-clause-unmarked
mark_face-requires-clause-unmarked g c = λ x reached.
    let r = g.T.RotationSystem.system c.args.t.now in
    let is = c.darts-darts.ensures.rotation in
    let below : c.loop-d.d < darts r = omega arith in
    fresh_class (InOneFace r) (darts r) c.loop-d.d c.loop-d.marks c.loop-d.least (InOneFace-Relates r is) c.loop-d.invariant below c.if-not-marks-d.true x (InOneFace-below r is c.loop-d.d x below reached) reached

pub loop-d-preserved : goal.loop-d-preserved
loop-d-preserved g c =
    let r = g.T.RotationSystem.system c.args.t.now in
    let below : c.loop-d.d < darts r = omega arith in
    elim c.if-not-marks-d.branch [
      | then-not-marks-d w ↦
          found_at (InOneFace r) (darts r) (c.loop-d.d + 1) w.marks-is w.least-is
          (FoundUpto-new (InOneFace r) (darts r) c.loop-d.d c.loop-d.marks w.mark_face.new.marks c.loop-d.least (InOneFace-Relates r c.darts-darts.ensures.rotation) c.loop-d.invariant below w.if-not-marks-d.true w.mark_face.ensures)
      | else-not-marks-d w ↦
          found_at (InOneFace r) (darts r) (c.loop-d.d + 1) w.marks-is w.least-is
          (FoundUpto-old (InOneFace r) (darts r) c.loop-d.d c.loop-d.marks c.loop-d.least (InOneFace-Relates r c.darts-darts.ensures.rotation) c.loop-d.invariant below w.if-not-marks-d.false)
    ]

pub returns-clause-count : goal.returns-clause-count
returns-clause-count g c =
    let r = g.T.RotationSystem.system c.args.t.now in
    let all : c.loop-d.d ≡ darts r = omega arith in
    FoundUpto-faces r c.loop-d.marks c.loop-d.least (subst (λ d. FoundUpto (InOneFace r) (darts r) d c.loop-d.marks c.loop-d.least) all c.loop-d.invariant)
