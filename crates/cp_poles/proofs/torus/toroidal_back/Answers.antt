-- The order that the map keeps is put at the first end.
use Rattle.cp_poles.proofs.SmallRewrites.{live_pipe}
use Rattle.cp_poles.proofs.TorusSolutions.{IsSolution-told_torus, arranged_told, torus-IsTurnable}
use Rattle.cp_poles.proofs.TurnedPlaces.{live_first, live_second}
use Rattle.cp_poles.proofs.torus.toroidal_back.Goals as goal

pub pipe_ends-a-requires : goal.pipe_ends-a-requires
pipe_ends-a-requires g c =
    live_pipe (g.B.Board.instance c.args.before.now) c.args.pipe c.requires.allowed.0 c.requires.allowed.1

pub reordered-requires-clause-live_u : goal.reordered-requires-clause-live_u
reordered-requires-clause-live_u g c =
    live_first (g.B.Board.instance c.args.before.now) c.args.pipe c.requires.allowed.0 c.follows_rules.ensures
    c.requires.allowed.1 c.requires.allowed.2.bond c.pipe_ends-a.result c.pipe_ends-a.ensures.value

pub reordered-requires-clause-live_v : goal.reordered-requires-clause-live_v
reordered-requires-clause-live_v g c =
    live_second (g.B.Board.instance c.args.before.now) c.args.pipe c.requires.allowed.0 c.follows_rules.ensures
    c.requires.allowed.1 c.requires.allowed.2.bond c.pipe_ends-a.result c.pipe_ends-a.ensures.value

pub reordered-requires-clause-rotation : goal.reordered-requires-clause-rotation
reordered-requires-clause-rotation g c =
    (torus-IsTurnable (g.B.Board.instance c.args.before.now) c.requires.solved.0 c.args.pipe c.requires.allowed.0
    c.args.after c.follows_rules.ensures c.requires.allowed.1 c.requires.solved.1 c.requires.solved.2).rotation

pub reordered-requires-clause-arranged : goal.reordered-requires-clause-arranged
reordered-requires-clause-arranged g c =
    arranged_told (g.B.Board.instance c.args.before.now) c.args.pipe c.in_ok-order.order c.in_ok-order.ensures
    c.pipe_ends-a.result c.pipe_ends-a.ensures.value

pub returns : goal.returns
returns g c =
    IsSolution-told_torus (g.B.Board.instance c.args.before.now) c.requires.solved.0 c.args.pipe c.args.after
    c.in_ok-solution.solution c.in_ok-order.order c.follows_rules.ensures c.requires.allowed c.requires.solved.1
    c.requires.solved.2 c.in_ok-order.ensures c.pipe_ends-a.result c.pipe_ends-a.ensures.value
    c.in_ok-solution.ensures.names c.in_ok-solution.ensures.lists
