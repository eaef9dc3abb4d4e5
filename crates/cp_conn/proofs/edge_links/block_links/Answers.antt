use Rattle.cp_conn.specs.SearchForest.{forest_of}
use Rattle.cp_conn.proofs.TreeLinks.{read_links}
use Rattle.cp_conn.proofs.edge_links.block_links.Goals as goal

pub returns : goal.returns
returns c =
    read_links c.args.g.now.ends c.ends-ends.result.now c.args.g.now.vertices c.vertices.result c.vertices-2.result
    (forest_of c.in_ok-forest.forest)
    c.in_ok-low.low.items c.as_slice.result.now c.in_ok-links.links.items c.link_tree_edges.new.links.items
    c.ends-ends.ensures.value c.vertices.ensures.value c.vertices-2.ensures.value c.as_slice.ensures.value
    c.ends-ends.ensures.within c.requires c.in_ok-forest.ensures.forest c.in_ok-low.ensures c.in_ok-links.ensures
    c.in_ok-link_tree_edges.ensures
