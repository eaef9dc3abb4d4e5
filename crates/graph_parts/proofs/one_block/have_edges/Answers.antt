-- All vertices are marked.
use Rattle.graph_parts.proofs.BlockLemmas.{touched_read}
use Rattle.graph_parts.proofs.one_block.have_edges.Goals as goal

pub returns : goal.returns
returns c =
    touched_read c.args.g.now.vertices c.vertices.result c.args.g.now.ends c.ends.result.now c.in_ok-found.found.items
    c.as_slice.result.now c.are_all.result
    c.vertices.ensures.value c.ends.ensures.value c.as_slice.ensures.value c.in_ok-found.ensures c.are_all.ensures
