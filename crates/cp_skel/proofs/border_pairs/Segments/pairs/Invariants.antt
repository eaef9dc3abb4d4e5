use Rattle.std.proofs.Common.{[]}
use Rattle.cp_skel.specs.SkeletonTables.{ArePaired}
use Rattle.cp_skel.proofs.border_pairs.Segments.pairs.Given as goal

abbrev pub invariant-loop-e : goal.invariant-loop-e
invariant-loop-e l = ArePaired l.self.graph.now l.e [] l.pairs.items
