use Rattle.cp_skel.specs.SkeletonTables.{AreNodesTold}
use Rattle.cp_skel.proofs.names.named_nodes.Given as goal

abbrev pub invariant-loop-k : goal.invariant-loop-k
invariant-loop-k l = AreNodesTold l.g l.k l.names.items
