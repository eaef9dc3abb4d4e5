use Rattle.cp_rot.proofs.NextTables.{Written}
use Rattle.cp_border.proofs.turns.write_turn.Given as goal

abbrev pub invariant-loop-i : goal.invariant-loop-i
invariant-loop-i l = Written l.items l.i l.fn.next l.next
