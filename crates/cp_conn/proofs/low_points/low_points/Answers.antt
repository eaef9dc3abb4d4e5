use Rattle.std.proofs.Common.{◌<◌, arith}
use Rattle.cp_conn.specs.SearchForest.{forest_of}
use Rattle.cp_conn.proofs.LowPoints.{rise_step}
use Rattle.cp_conn.proofs.low_points.low_points.Goals as goal

pub loop-left-preserved : goal.loop-left-preserved
loop-left-preserved c =
    let some : 0 < c.loop-left.left = omega arith in
    let h = rise_step c.args.ends.now c.args.vertices
    (forest_of c.args.forest.now) c.loop-left.low.items c.lower_to.new.low.items
    c.loop-left.left c.index-vertex.result.now c.index-value.result.now c.index.result.now
    c.requires.grown c.requires.forest c.loop-left.invariant.reached c.loop-left.invariant.low
    c.loop-left.invariant.rising c.loop-left.invariant.within some c.requires.all_met c.index-vertex.ensures
    c.index-value.ensures c.index.ensures c.lower_to.ensures in
    record { reached = h.0; low = h.1; rising = h.2; within = omega (arith, c.loop-left.invariant.within) }
