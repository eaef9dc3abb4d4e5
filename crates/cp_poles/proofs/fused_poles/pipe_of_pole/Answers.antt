-- The pole is a vertex.
use Rattle.cp_poles.proofs.ToldPipes.{fused-pole_live}
use Rattle.cp_poles.proofs.fused_poles.pipe_of_pole.Goals as goal

pub pipe_at-requires : goal.pipe_at-requires
pipe_at-requires g c =
    fused-pole_live (g.B.Board.instance c.args.board.now) c.args.pipe c.args.end c.args.pole c.follows_rules.ensures
    c.requires
