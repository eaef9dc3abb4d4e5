use Rattle.cp_conn.specs.SearchForest.{forest_of}
use Rattle.cp_conn.proofs.TreeLinks.{AddsTreeLinks-more}
use Rattle.cp_conn.proofs.edge_links.link_tree_edges.Goals as goal

pub loop-vertex-preserved : goal.loop-vertex-preserved
loop-vertex-preserved c =
    AddsTreeLinks-more (forest_of c.args.forest.now)
    c.args.low.now c.loop-vertex.vertex c.args.links.now.items c.loop-vertex.links.items c.link_up.new.links.items
    c.loop-vertex.invariant c.in_ok-link_up.ensures
