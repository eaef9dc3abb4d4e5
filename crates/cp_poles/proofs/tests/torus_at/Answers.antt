use Rattle.cp_poles.proofs.SmallRewrites.{live_pipe}
use Rattle.cp_poles.proofs.TestedPipes.{greatest_named, told_a, told_b}
use Rattle.cp_poles.proofs.tests.torus_at.Goals as goal

pub pipe_ends-a-requires : goal.pipe_ends-a-requires
pipe_ends-a-requires c =
    let g = greatest_named c.args.i.now c.in-Some.pipe c.in-Some.ensures.some in
    live_pipe c.args.i.now c.in-Some.pipe g.0 g.1

pub is_bond-requires-clause-live_u : goal.is_bond-requires-clause-live_u
is_bond-requires-clause-live_u c =
    told_a c.args.i.now c.in-Some.pipe c.max_pipe.ensures.rules c.in-Some.ensures.some c.pipe_ends-a.result
    c.pipe_ends-a.ensures.value

pub is_bond-requires-clause-live_v : goal.is_bond-requires-clause-live_v
is_bond-requires-clause-live_v c =
    told_b c.args.i.now c.in-Some.pipe c.max_pipe.ensures.rules c.in-Some.ensures.some c.pipe_ends-a.result
    c.pipe_ends-a.ensures.value
