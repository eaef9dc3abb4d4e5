-- The greatest pipe is live.
use Rattle.std.proofs.Common.{subst}
use Rattle.std.specs.List.{Contains}
use Rattle.cp_board.specs.Instances.{pipe_names}
use Rattle.cp_drive.proofs.GreatestPipes.{greatest-live}
use Rattle.cp_drive.proofs.next.next_step.Goals as goal

pub pairs-requires : goal.pairs-requires
pairs-requires g c =
    let i = g.B.Board.instance c.args.board.now in
    let h = c.in-Some.ensures.some in
    subst (Contains (pipe_names i)) h.1 (greatest-live i c.follows_rules.ensures h.0 h.2)
