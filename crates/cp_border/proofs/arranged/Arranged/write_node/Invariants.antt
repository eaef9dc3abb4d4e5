use Rattle.std.proofs.Common.{map}
use Rattle.cp_rot.proofs.NextTables.{Written}
use Rattle.cp_border.specs.Borders.{end_dart, node_list}
use Rattle.cp_border.proofs.arranged.Arranged.write_node.Given as goal

abbrev pub invariant-loop-i : goal.invariant-loop-i
invariant-loop-i l = Written (map (end_dart l.self.graph.now) (node_list l.self.layout.now l.v)) l.i l.fn.next l.next
