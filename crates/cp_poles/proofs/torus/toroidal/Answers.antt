-- Dropping the pipe performs the step.
use Rattle.std.proofs.Common.{sym, subst}
use Rattle.cp_board.specs.declared.steps.Step.TheVariants.{Toroidal}
use Rattle.cp_board.specs.Reductions.{Performs}
use Rattle.cp_poles.proofs.TurnedPlaces.{Performs-toroidal}
use Rattle.cp_poles.proofs.torus.toroidal.Goals as goal

pub returns-clause-performed : goal.returns-clause-performed
returns-clause-performed g c =
    let i = g.B.Board.instance c.args.board.now in (
      c.in_ok-compare_cycles.ensures.allowed,
      subst (Performs i (Toroidal c.args.pipe)) (sym c.in_ok-rewrite.ensures)
          (Performs-toroidal i c.args.pipe c.compare_cycles.ensures.rules c.in_ok-compare_cycles.ensures.allowed),
    )
