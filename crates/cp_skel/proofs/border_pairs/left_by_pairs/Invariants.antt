use Rattle.std.proofs.Common.{◌≡◌, map}
use Rattle.cp_skel.specs.Skeletons.{below, is_left}
use Rattle.cp_skel.proofs.border_pairs.left_by_pairs.Given as goal

abbrev pub invariant-loop-c : goal.invariant-loop-c
invariant-loop-c l = l.left.items ≡ map (is_left l.g) (below l.c)
