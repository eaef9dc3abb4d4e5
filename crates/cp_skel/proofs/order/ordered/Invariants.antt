use Rattle.std.proofs.Common.{◌≡◌}
use Rattle.std.specs.List.{flat_map}
use Rattle.cp_skel.specs.Skeletons.{below, vertices_in}
use Rattle.cp_skel.proofs.order.ordered.Given as goal

abbrev pub invariant-loop-c : goal.invariant-loop-c
invariant-loop-c l = l.vertices.items ≡ flat_map (vertices_in l.g) (below l.c)
