-- One more edge is marked.
use Rattle.std.proofs.Common.{◌<◌, length, arith}
use Rattle.graph_parts.proofs.BlockLemmas.{touched_step}
use Rattle.graph_parts.proofs.one_block.touched.Goals as goal

pub loop-edge-preserved : goal.loop-edge-preserved
loop-edge-preserved c =
    let lt : c.loop-edge.edge < length c.args.ends.now = omega arith in
    touched_step c.args.vertices c.args.ends.now c.loop-edge.edge c.loop-edge.found.items c.requires lt
    c.loop-edge.invariant
