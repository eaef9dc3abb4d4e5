use Rattle.std.proofs.Common.{eqb, get_or, arith}
use Rattle.cp_lists.proofs.Counting.{count-le}
use Rattle.cp_conn.proofs.numbering.numbers_of.Goals as goal

pub overflow_add-classes : goal.overflow_add-classes
overflow_add-classes c = omega (arith, count-le c.loop-x.x (λ y. eqb (get_or c.args.least.now y 0) y))
