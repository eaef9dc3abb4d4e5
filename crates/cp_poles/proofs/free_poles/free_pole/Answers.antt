-- Dropping the pipe performs the step.
use Rattle.std.proofs.Common.{sym, subst}
use Rattle.cp_board.specs.declared.steps.Step.TheVariants.{FreePole}
use Rattle.cp_board.specs.Reductions.{Performs}
use Rattle.cp_poles.proofs.FreePoles.{Performs-free}
use Rattle.cp_poles.proofs.free_poles.free_pole.Goals as goal

pub returns : goal.returns
returns g c =
    let i = g.B.Board.instance c.args.board.now in
    subst (Performs i (FreePole c.args.pipe c.args.end c.args.pole)) (sym c.in_ok-rewrite.ensures)
    (Performs-free i c.args.pipe c.args.end c.args.pole c.follows_rules.ensures c.requires)
