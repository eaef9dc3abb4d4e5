use Rattle.cp_border.proofs.TablesLaw.{HasBorders}
use Rattle.cp_border.proofs.arranged.Arranged.write_at.Given as goal

abbrev pub invariant-loop-c : goal.invariant-loop-c
invariant-loop-c l = HasBorders l.self.graph.now l.self.layout.now l.c l.start l.at
