use Rattle.std.proofs.Common.{arith, subst, ◌≡◌, ◌-◌, ◌+◌, refl, slice_index}
use Rattle.cp_rot.specs.Search.{Searching}
use Rattle.cp_rot.proofs.Searches.{Searching-start, Searching-more, Searching-end}
use Rattle.cp_rot.proofs.components.mark_component.Goals as goal

pub loop-height-init : goal.loop-height-init
loop-height-init g c = Searching-start (g.T.RotationSystem.system c.args.t.now) c.args.v c.args.marks.now c.args.stack.now c.requires.vertex (omega arith) (omega arith) c.requires.unmarked c.requires.closed

pub loop-height-preserved : goal.loop-height-preserved
loop-height-preserved g c =
    let r = g.T.RotationSystem.system c.args.t.now in
    let height : c.loop-height.height ≡ c.loop-height.height - 1 + 1 = omega arith in
    Searching-more r c.requires.rotation c.args.v (slice_index c.loop-height.stack (c.loop-height.height - 1)) c.args.marks.now c.loop-height.marks c.push_neighbours-height.new.marks c.loop-height.stack c.push_neighbours-height.new.stack (c.loop-height.height - 1) c.push_neighbours-height.result
    (subst (Searching r c.args.v c.args.marks.now c.loop-height.marks c.loop-height.stack) height c.loop-height.invariant) refl c.push_neighbours-height.ensures

pub returns : goal.returns
returns g c = λ x lt.
    let r = g.T.RotationSystem.system c.args.t.now in
    let none : c.loop-height.height ≡ 0 = omega arith in
    Searching-end r c.args.v c.args.marks.now c.loop-height.marks c.loop-height.stack (subst (Searching r c.args.v c.args.marks.now c.loop-height.marks c.loop-height.stack) none c.loop-height.invariant) x
