use Rattle.cp_cgraph.proofs.Ancestors.{contains-IsWithin}
use Rattle.cp_cgraph.proofs.graph.CGraph.contains_within.Goals as goal

pub returns : goal.returns
returns c = contains-IsWithin c.args.self.now c.is_clustered.ensures.clustered c.args.c c.args.v
