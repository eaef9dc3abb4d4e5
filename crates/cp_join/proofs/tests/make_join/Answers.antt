-- The pipe of greatest degree is live.
use Rattle.std.proofs.Common.{subst}
use Rattle.std.specs.List.{Contains}
use Rattle.cp_board.specs.Instances.{pipe_names}
use Rattle.cp_join.proofs.JoinedPipes.{live_pipe}
use Rattle.cp_join.proofs.tests.make_join.Goals as goal

pub can_join-requires : goal.can_join-requires
can_join-requires c =
    let i = c.args.i.now in
    let p = c.in-Some.ensures.some in
    subst (Contains (pipe_names i)) p.1 (live_pipe i p.0.name p.0 p.2.live)
