use Rattle.cp_skel.specs.SkeletonTables.{AreLoopsTold}
use Rattle.cp_skel.proofs.borders.loops_by_node.Given as goal

abbrev pub invariant-loop-e : goal.invariant-loop-e
invariant-loop-e l = AreLoopsTold l.g l.e l.lists.items
