use Rattle.std.proofs.Common.{◌≡◌, ◌++◌, flat_map, reverse, length}
use Rattle.cp_pq.specs.Founds.{out_node, in_node, mixed_found}
use Rattle.cp_pq.proofs.kinds.sort.Given as goal

abbrev pub invariant-loop-found : goal.invariant-loop-found
invariant-loop-found l =
    (flat_map out_node (reverse l.fn.founds) ≡ l.kinds.outs ++ flat_map out_node (reverse l.left))
    × (flat_map in_node (reverse l.fn.founds) ≡ l.kinds.ins ++ flat_map in_node (reverse l.left))
    × (flat_map mixed_found (reverse l.fn.founds) ≡ l.kinds.mixed ++ flat_map mixed_found (reverse l.left))

abbrev pub decreases-loop-found : goal.decreases-loop-found
decreases-loop-found l = length l.left
