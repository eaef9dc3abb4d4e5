use Rattle.std.proofs.Common.{arith}
use Rattle.cp_conn.proofs.SearchTrees.{neighbour_edge}
use Rattle.cp_conn.proofs.rooted_search.edge_between.Goals as goal

pub unreachable-requires : goal.unreachable-requires
unreachable-requires c =
    let h = neighbour_edge c.args.ends.now c.args.x c.args.y c.requires in
    c.loop-edge.invariant h.0 (omega (arith, h.1, c.loop-edge-test.false)) h.2
