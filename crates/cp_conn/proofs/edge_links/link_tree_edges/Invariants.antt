-- The vertices so far are linked.
use Rattle.cp_conn.specs.SearchForest.{forest_of}
use Rattle.cp_conn.specs.TreeLinks.{AddsTreeLinks}
use Rattle.cp_conn.proofs.edge_links.link_tree_edges.Given as goal

abbrev pub invariant-loop-vertex : goal.invariant-loop-vertex
invariant-loop-vertex l = AddsTreeLinks (forest_of l.forest) l.low l.vertex
    l.fn.links.items l.links.items
