use Rattle.std.proofs.Common.{arith, ◌<◌, ◌+◌}
use Rattle.cp_rot.specs.Genus.{Joined}
use Rattle.cp_rot.proofs.Found.{FoundUpto-none, FoundUpto-new, FoundUpto-old, found_at}
use Rattle.cp_rot.proofs.Searches.{FoundUpto-closed, Joined-Relates}
use Rattle.cp_rot.proofs.components.least_vertices.Goals as goal
use Rattle.cp_rot.proofs.components.least_vertices.Goals.{then-not-marks-v, else-not-marks-v}

pub loop-v-init : goal.loop-v-init
loop-v-init g c =
    let r = g.T.RotationSystem.system c.args.t.now in
    FoundUpto-none (Joined r) r.vertices c.clear.new.marks (λ x lt. c.clear.ensures x (omega arith))

pub mark_component-requires-clause-closed : goal.mark_component-requires-clause-closed
mark_component-requires-clause-closed g c = FoundUpto-closed (g.T.RotationSystem.system c.args.t.now) c.vertices-vertices.ensures.rotation c.loop-v.v c.loop-v.marks c.loop-v.least c.loop-v.invariant

pub loop-v-preserved : goal.loop-v-preserved
loop-v-preserved g c =
    let r = g.T.RotationSystem.system c.args.t.now in
    let below : c.loop-v.v < r.vertices = omega arith in
    elim c.if-not-marks-v.branch [
      | then-not-marks-v w ↦
          found_at (Joined r) r.vertices (c.loop-v.v + 1) w.marks-is w.least-is
          (FoundUpto-new (Joined r) r.vertices c.loop-v.v c.loop-v.marks w.mark_component.new.marks c.loop-v.least (Joined-Relates r) c.loop-v.invariant below w.if-not-marks-v.true w.mark_component.ensures)
      | else-not-marks-v w ↦
          found_at (Joined r) r.vertices (c.loop-v.v + 1) w.marks-is w.least-is
          (FoundUpto-old (Joined r) r.vertices c.loop-v.v c.loop-v.marks c.loop-v.least (Joined-Relates r) c.loop-v.invariant below w.if-not-marks-v.false)
    ]
