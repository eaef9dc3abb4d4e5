use Rattle.cp_poles.proofs.SmallRewrites.{live_pipe}
use Rattle.cp_poles.proofs.TestedPipes.{greatest_named}
use Rattle.cp_poles.proofs.tests.small_at.Goals as goal

pub pairs-requires : goal.pairs-requires
pairs-requires c =
    let g = greatest_named c.args.i.now c.in-Some.pipe c.in-Some.ensures.some in
    live_pipe c.args.i.now c.in-Some.pipe g.0 g.1
