use Rattle.std.specs.List.{filter}
use Rattle.cp_cgraph.specs.Clustered.{clusters, parent}
use Rattle.cp_skel.specs.Skeletons.{below, is_left}
use Rattle.cp_skel.specs.SkeletonTables.{AreGathered}
use Rattle.cp_skel.proofs.tables.children_by_parent.Given as goal

abbrev pub invariant-loop-c : goal.invariant-loop-c
invariant-loop-c l = AreGathered (parent l.g) (clusters l.g) (filter (is_left l.g) (below l.c)) l.lists.items
