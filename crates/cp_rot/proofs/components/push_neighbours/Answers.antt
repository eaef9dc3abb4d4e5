use Rattle.std.proofs.Common.{arith, subst, ◌+◌}
use Rattle.cp_rot.specs.Tables.{IsMarked}
use Rattle.cp_rot.proofs.Searches.{IsPushed-old, IsPushed-new, IsPushed-room, pushed_at}
use Rattle.cp_rot.proofs.components.push_neighbours.Goals as goal
use Rattle.cp_rot.proofs.components.push_neighbours.Goals.{then-not-marks-x, else-not-marks-x}

pub bounds-stack-top : goal.bounds-stack-top
bounds-stack-top g c =
    let r = g.T.RotationSystem.system c.args.t.now in
    let below = IsPushed-room r c.args.w c.loop-i.i c.neighbour-x.result c.args.marks.now c.loop-i.marks c.args.stack.now c.loop-i.stack c.args.height c.loop-i.top c.loop-i.invariant c.requires.room c.neighbour-x.ensures.within (omega arith) c.if-not-marks-x.true in
    omega arith

pub loop-i-preserved : goal.loop-i-preserved
loop-i-preserved g c =
    let r = g.T.RotationSystem.system c.args.t.now in
    elim c.if-not-marks-x.branch [
      | then-not-marks-x w ↦
          let below = IsPushed-room r c.args.w c.loop-i.i c.neighbour-x.result c.args.marks.now c.loop-i.marks c.args.stack.now c.loop-i.stack c.args.height c.loop-i.top c.loop-i.invariant c.requires.room c.neighbour-x.ensures.within (omega arith) w.if-not-marks-x.true in
          pushed_at r c.args.w (c.loop-i.i + 1) c.args.marks.now c.args.stack.now c.args.height w.marks-is w.stack-is w.top-is
          (IsPushed-new r c.args.w c.loop-i.i c.neighbour-x.result c.args.marks.now c.loop-i.marks c.args.stack.now c.loop-i.stack c.args.height c.loop-i.top c.loop-i.invariant c.neighbour-x.ensures.value (omega arith) c.neighbour-x.ensures.within (omega arith) (omega arith) w.if-not-marks-x.true)
      | else-not-marks-x w ↦
          pushed_at r c.args.w (c.loop-i.i + 1) c.args.marks.now c.args.stack.now c.args.height w.marks-is w.stack-is w.top-is
          (IsPushed-old r c.args.w c.loop-i.i c.args.marks.now c.loop-i.marks c.args.stack.now c.loop-i.stack c.args.height c.loop-i.top c.loop-i.invariant (subst (IsMarked c.loop-i.marks) c.neighbour-x.ensures.value w.if-not-marks-x.false))
    ]
