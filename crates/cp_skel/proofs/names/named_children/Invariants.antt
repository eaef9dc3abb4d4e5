use Rattle.cp_skel.specs.declared.vertex.Vertex.TheVariants.{Child}
use Rattle.cp_skel.specs.SkeletonTables.{AreClustersTold}
use Rattle.cp_skel.proofs.names.named_children.Given as goal

abbrev pub invariant-loop-k : goal.invariant-loop-k
invariant-loop-k l = AreClustersTold l.g Child l.k l.names.items
