-- The kinds that are set are those of the step.
use Rattle.std.proofs.Common.{sym, subst}
use Rattle.cp_board.specs.declared.steps.Step.TheVariants.{Small}
use Rattle.cp_board.specs.Reductions.{Performs}
use Rattle.cp_poles.specs.Small.{setting}
use Rattle.cp_poles.proofs.SmallRewrites.{live_pipe, Performs-small}
use Rattle.cp_poles.proofs.small_pipes.small.Goals as goal

pub set_kinds-requires : goal.set_kinds-requires
set_kinds-requires g c =
    live_pipe (g.B.Board.instance c.args.board.now) c.args.pipe c.requires.0 c.requires.1

pub returns : goal.returns
returns g c =
    let i = g.B.Board.instance c.args.board.now in
    subst (Performs i (Small c.args.pipe)) (sym c.in_ok-rewrite.ensures)
    (subst (λ ks. Performs i (Small c.args.pipe) (setting c.args.pipe ks)) (sym c.in_ok-kinds.ensures.kinds)
    (Performs-small i c.args.pipe c.set_kinds.ensures.rules c.requires))
