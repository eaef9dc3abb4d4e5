use Rattle.std.proofs.Common.{◌≤◌, ◌+◌, slice_index, arith, length-set}
use Rattle.cp_cgraph.specs.Clustered.{edges}
use Rattle.cp_border.specs.Borders.{sum_below, crossed}
use Rattle.cp_border.proofs.TablesLaw.{first-more, first-le}
use Rattle.cp_border.proofs.tables.write_first.Goals as goal

pub overflow_add-first : goal.overflow_add-first
overflow_add-first c =
    let le : slice_index c.loop-e.first c.loop-e.e + crossed c.args.g.now c.loop-e.e ≤ sum_below (crossed c.args.g.now)
    (edges c.args.g.now) =
    first-le c.loop-e.first (crossed c.args.g.now) c.loop-e.e (edges c.args.g.now) c.loop-e.invariant (omega arith) in
    omega (arith, le, c.crossed.ensures.value, c.requires.size)

pub loop-e-preserved : goal.loop-e-preserved
loop-e-preserved c = rw c.crossed.ensures.value (first-more c.loop-e.first (crossed c.args.g.now) c.loop-e.e
    c.loop-e.invariant (omega (arith, length-set c.args.first.now 0 0)))
