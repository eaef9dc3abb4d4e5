use Rattle.std.proofs.Common.{◌*◌, ◌<◌, length, arith}
use Rattle.cp_conn.specs.SearchForest.{forest_of}
use Rattle.cp_conn.proofs.LowPoints.{near_step}
use Rattle.cp_conn.proofs.low_points.lowest_near.Goals as goal

pub loop-dart-preserved : goal.loop-dart-preserved
loop-dart-preserved c =
    let lt : c.loop-dart.dart < 2 * length c.args.ends.now = omega arith in
    let h = near_step c.args.ends.now c.args.vertices (forest_of c.args.forest.now)
    c.loop-dart.low.items c.lower_to.new.low.items c.loop-dart.dart c.start_of-from.result c.finish_of-to.result
    c.index.result.now
    c.requires.ends_within c.requires.grown.number_each c.loop-dart.invariant.reached c.loop-dart.invariant.low lt
    c.start_of-from.ensures c.finish_of-to.ensures c.index.ensures c.lower_to.ensures in
    record { reached = h.0; low = h.1 }
