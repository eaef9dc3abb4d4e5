use Rattle.std.proofs.Common.{arith}
use Rattle.cp_conn.specs.SearchForest.{forest_of}
use Rattle.cp_conn.proofs.Deepening.{rest_begins, forest_made}
use Rattle.cp_conn.proofs.search_forest.search_forest.Goals as goal

pub loop-vertex-init : goal.loop-vertex-init
loop-vertex-init c = record {
  size = c.in_ok-darts.ensures.entry_each;
  rests = rest_begins c.args.ends.now c.args.vertices (forest_of c.in_ok-forest.forest)
      c.in_ok-darts.darts.entries.items c.in_ok-darts.darts.lower.items
      c.requires c.in_ok-darts.ensures c.in_ok-forest.ensures;
  lower_met = λ x lt. absurd (omega arith);
}

pub returns-clause-forest : goal.returns-clause-forest
returns-clause-forest c =
    forest_made c.args.ends.now c.args.vertices (forest_of c.loop-vertex.forest) c.loop-vertex.next.items
    c.requires c.loop-vertex.invariant.rests (λ v lt. c.loop-vertex.invariant.lower_met v (omega arith))
