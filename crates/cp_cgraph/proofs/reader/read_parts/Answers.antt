use Rattle.cp_cgraph.proofs.Gathered.{gathered}
use Rattle.cp_cgraph.proofs.reader.read_parts.Goals as goal

pub returns : goal.returns
returns c =
    gathered c.args.end c.args.entries.now c.in_ok-graph.graph.now c.new.result c.in_ok-ids.ids c.in_ok-ends.ends
    c.new-known.result c.graph_list.new.faults c.read_nodes.new.faults c.read_edges.new.faults
    c.in_ok-parents.field-0 c.items.result.now c.in_ok-named.named c.read_names.new.faults
    c.new-known.ensures c.in_ok-graph.ensures.list c.in_ok-graph.ensures.faults
    c.new.ensures c.in_ok-ids.ensures.ids c.in_ok-ids.ensures.faults
    c.in_ok-ends.ensures.ends c.in_ok-ends.ensures.faults
    c.in_ok-parents.ensures c.items.ensures c.in_ok-named.ensures.named c.in_ok-named.ensures.faults
