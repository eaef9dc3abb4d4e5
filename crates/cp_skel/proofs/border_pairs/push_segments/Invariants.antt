use Rattle.std.proofs.Common.{◌≡◌, ◌+◌, map}
use Rattle.cp_skel.specs.Skeletons.{below}
use Rattle.cp_skel.specs.SolutionLayouts.{name_edge}
use Rattle.cp_skel.specs.SkeletonTables.{first_name}
use Rattle.cp_skel.proofs.border_pairs.push_segments.Given as goal

abbrev pub invariant-loop-k : goal.invariant-loop-k
invariant-loop-k l = l.owners.items ≡ map (name_edge l.g) (below (first_name l.g l.e + l._k))
