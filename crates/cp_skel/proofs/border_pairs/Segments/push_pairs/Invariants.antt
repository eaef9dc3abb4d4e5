use Rattle.std.proofs.Common.{take}
use Rattle.cp_skel.specs.SkeletonTables.{ArePaired}
use Rattle.cp_skel.proofs.border_pairs.Segments.push_pairs.Given as goal

abbrev pub invariant-loop-c : goal.invariant-loop-c
invariant-loop-c l = ArePaired l.self.graph.now l.e (take l.c-index l.c-items) l.pairs.items
