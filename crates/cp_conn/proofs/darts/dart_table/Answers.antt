use Rattle.std.proofs.Common.{◌*◌, ◌<◌, length, arith}
use Rattle.cp_conn.proofs.DartChains.{AreChained-step}
use Rattle.cp_conn.proofs.darts.dart_table.Goals as goal

pub loop-dart-preserved : goal.loop-dart-preserved
loop-dart-preserved c =
    let lt : c.loop-dart.dart < 2 * length c.args.ends.now = omega arith in
    AreChained-step c.args.vertices c.args.ends.now c.loop-dart.dart c.start_of-vertex.result c.index.result.now
    c.loop-dart.entries.items c.loop-dart.lower.items c.push.new.self.items
    c.loop-dart.invariant c.requires lt c.start_of-vertex.ensures c.index.ensures c.in_ok-push.ensures.items
