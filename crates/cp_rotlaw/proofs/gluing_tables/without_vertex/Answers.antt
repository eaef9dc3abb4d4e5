use Rattle.std.proofs.Common.{arith, sym}
use Rattle.cp_rotlaw.proofs.GluedNumbers.{count_other_then, count_other_low}
use Rattle.cp_rotlaw.proofs.gluing_tables.without_vertex.Goals as goal

pub returns-then-u-v : goal.returns-then-u-v
returns-then-u-v c = count_other_then c.args.u c.args.v c.if-u-v.true

pub returns-else-u-v : goal.returns-else-u-v
returns-else-u-v c = sym (count_other_low c.args.u c.args.v (omega (arith, c.if-u-v.false)))
