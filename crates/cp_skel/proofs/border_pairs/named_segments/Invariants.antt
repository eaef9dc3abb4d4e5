use Rattle.std.proofs.Common.{◌≡◌, map}
use Rattle.cp_skel.specs.Skeletons.{below}
use Rattle.cp_skel.specs.SolutionLayouts.{name_edge}
use Rattle.cp_skel.specs.SkeletonTables.{first_name}
use Rattle.cp_skel.proofs.border_pairs.named_segments.Given as goal

abbrev pub invariant-loop-e : goal.invariant-loop-e
invariant-loop-e l = record {
  firsts : l.firsts.items ≡ map (first_name l.g) (below l.e);
  owners : l.owners.items ≡ map (name_edge l.g) (below (first_name l.g l.e));
}
