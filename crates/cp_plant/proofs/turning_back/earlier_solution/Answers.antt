-- The names of the rows so far are below the next one.
use Rattle.std.proofs.Common.{ℕ, ◌<◌, List, slice_index, sym, subst}
use Rattle.std.specs.List.{All}
use Rattle.cp_board.specs.Solutions.{list_in}
use Rattle.cp_plant.specs.TreeWords.{with_ends}
use Rattle.cp_plant.proofs.EarlierRows.{rows_below}
use Rattle.cp_plant.proofs.turning_back.earlier_solution.Goals as goal

pub push-requires : goal.push-requires
push-requires c =
    subst (All (λ (row : ℕ × List ℕ). row.0 < slice_index c.args.verts.now c.loop-v.v-index)) (sym c.loop-v.invariant)
    (rows_below (with_ends c.args.ends.0 c.args.ends.1 c.args.at_end.now c.args.at_other.now (list_in c.args.after.now))
    c.args.verts.now c.loop-v.v-index c.requires.rising c.loop-v-test.true)
