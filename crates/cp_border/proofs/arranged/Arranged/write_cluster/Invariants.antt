use Rattle.cp_border.specs.Views.{IsViewedUpto}
use Rattle.cp_border.proofs.arranged.Arranged.write_cluster.Given as goal

abbrev pub invariant-loop-k : goal.invariant-loop-k
invariant-loop-k l = IsViewedUpto l.self.graph.now l.self.layout.now l.c l.k l.next l.begins
