use Rattle.cp_cgraph.proofs.Crossing.{crossings-Exactly}
use Rattle.cp_cgraph.proofs.graph.CGraph.crossings_are_left.Goals as goal

pub returns : goal.returns
returns c = crossings-Exactly c.args.self.now c.is_clustered.ensures.clustered c.args.e c.requires
