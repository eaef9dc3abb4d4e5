use Rattle.cp_poles.specs.Between.{AreTaken}
use Rattle.cp_poles.specs.LocalBonds.{local_part}
use Rattle.cp_poles.proofs.bonds.taken.Given as goal

abbrev pub invariant-loop-e : goal.invariant-loop-e
invariant-loop-e g l =
    AreTaken (local_part (g.B.Board.instance l.board) l.between) l.u l.v l.between.numbers.items l.e-index
    l.table.items l.along.items
