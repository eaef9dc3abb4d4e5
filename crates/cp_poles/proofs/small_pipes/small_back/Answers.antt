-- What solves the instance after Small solves the one before it.
use Rattle.cp_poles.proofs.SmallPipes.{IsSolution-before_small}
use Rattle.cp_poles.proofs.small_pipes.small_back.Goals as goal

pub returns : goal.returns
returns g c =
    IsSolution-before_small (g.B.Board.instance c.args.before.now) c.requires.solved.0 c.args.pipe c.args.after
    c.follows_rules.ensures c.requires.allowed c.requires.solved.1 c.requires.solved.2
