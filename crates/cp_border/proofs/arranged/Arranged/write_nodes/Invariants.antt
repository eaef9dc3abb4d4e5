use Rattle.std.proofs.Common.{ℕ, ◌<◌}
use Rattle.cp_border.specs.Borders.{borders}
use Rattle.cp_border.specs.Views.{HasTurn}
use Rattle.cp_border.proofs.arranged.Arranged.write_nodes.Given as goal

abbrev pub invariant-loop-v : goal.invariant-loop-v
invariant-loop-v l = (w : ℕ) → w < l.v → HasTurn (borders l.self.graph.now l.self.layout.now) l.next w
