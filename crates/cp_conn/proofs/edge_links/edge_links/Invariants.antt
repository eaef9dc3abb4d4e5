-- The edges so far are linked.
use Rattle.cp_conn.specs.SearchForest.{forest_of}
use Rattle.cp_conn.specs.TreeLinks.{AreEdgeLinks}
use Rattle.cp_conn.proofs.edge_links.edge_links.Given as goal

abbrev pub invariant-loop-edge : goal.invariant-loop-edge
invariant-loop-edge l = AreEdgeLinks l.ends (forest_of l.forest) l.edge l.links.items
