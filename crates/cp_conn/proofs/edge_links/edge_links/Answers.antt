use Rattle.std.proofs.Common.{◌<◌, length, arith}
use Rattle.cp_conn.specs.SearchForest.{forest_of}
use Rattle.cp_conn.proofs.TreeLinks.{edge_step}
use Rattle.cp_conn.proofs.edge_links.edge_links.Goals as goal

pub loop-edge-preserved : goal.loop-edge-preserved
loop-edge-preserved c =
    let lt : c.loop-edge.edge < length c.args.ends.now = omega arith in
    edge_step c.args.ends.now (forest_of c.args.forest.now) c.as_slice.result.now
    c.loop-edge.edge c.deeper_end-vertex.result c.index.result.now c.loop-edge.links.items c.push.new.self.items
    c.requires.ends_within c.requires.edge_each lt c.loop-edge.invariant c.as_slice.ensures.value
    c.deeper_end-vertex.ensures c.index.ensures c.in_ok-push.ensures.items
