use Rattle.cp_trace.proofs.BodyReads.{leaf_at}
use Rattle.cp_trace.proofs.read_body.read_leaf.Goals as goal

pub returns : goal.returns
returns c =
    leaf_at c.args.bytes.now c.in_ok-edge.edge c.in_ok-edge.rest.now c.in_ok-edge.ensures.0 c.in_ok-edge.ensures.1
    c.in_ok-edge.ensures.2
