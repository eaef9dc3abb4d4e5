-- The rewrite with the pipe past the two poles performs the step.
use Rattle.std.proofs.Common.{sym, subst}
use Rattle.cp_board.specs.declared.steps.Step.TheVariants.{FusePoles}
use Rattle.cp_board.specs.Reductions.{Performs}
use Rattle.cp_poles.proofs.FusedRewrites.{Performs-fuse}
use Rattle.cp_poles.proofs.fused_poles.fuse_poles.Goals as goal

pub returns : goal.returns
returns g c =
    let i = g.B.Board.instance c.args.board.now in
    let q = c.pipe_of_pole-other.ensures in
    subst (Performs i (FusePoles c.args.pipe c.args.end c.args.pole)) (sym c.in_ok-rewrite.ensures)
    (Performs-fuse i c.args.pipe c.args.end c.args.pole c.pipe_of_pole-other.result c.in_ok-added.added
    c.follows_rules.ensures c.requires q.0 q.1 q.2 c.in_ok-added.ensures)
