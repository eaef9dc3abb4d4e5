use Rattle.std.proofs.Common.{◌≡◌, ◌*◌}
use Rattle.cp_border.specs.Borders.{first_border_edge}
use Rattle.cp_border.specs.Views.{IsViewedUpto}
use Rattle.cp_border.proofs.arranged.Arranged.write_turns.Given as goal

abbrev pub invariant-loop-c : goal.invariant-loop-c
invariant-loop-c l = record {
  start : l.start ≡ 2 * first_border_edge l.self.graph.now l.self.layout.now l.c;
  viewed : IsViewedUpto l.self.graph.now l.self.layout.now l.c 0 l.next l.begins;
}
