-- A graph of one block with an edge at each vertex is biconnected.
use Rattle.std.proofs.Common.{sym, ap, subst}
use Rattle.cp_base.specs.Graphs.{PlainGraph}
use Rattle.cp_conn.specs.Blocks.{HaveNoLoop}
use Rattle.cp_ears.proofs.Biconnected.{biconnected_of}
use Rattle.cp_ears.proofs.tests.has_tree.Goals as goal

pub search_tree-requires-clause-biconnected : goal.search_tree-requires-clause-biconnected
search_tree-requires-clause-biconnected c =
    let graph = rw c.in-Some.is at c.in_ok-g.ensures.graph in
    let one_block = rw c.in-Some.is at c.in_ok-g.ensures.one_block in
    let each_has_edge = rw c.in-Some.is at c.in_ok-g.ensures.each_has_edge in
    biconnected_of c.in-Some.g.vertices c.in-Some.g.ends
    (subst HaveNoLoop (sym (ap (λ (g : PlainGraph). g.ends) graph)) c.requires.no_loop) one_block each_has_edge
