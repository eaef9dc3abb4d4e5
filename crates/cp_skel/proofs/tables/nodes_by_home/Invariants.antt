use Rattle.cp_cgraph.specs.Clustered.{clusters, home}
use Rattle.cp_skel.specs.Skeletons.{below}
use Rattle.cp_skel.specs.SkeletonTables.{AreGathered}
use Rattle.cp_skel.proofs.tables.nodes_by_home.Given as goal

abbrev pub invariant-loop-v : goal.invariant-loop-v
invariant-loop-v l = AreGathered (home l.g) (clusters l.g) (below l.v) l.lists.items
