-- The ends of the edges so far.
use Rattle.std.proofs.Common.{◌≡◌, take}
use Rattle.graph_parts.proofs.graph.ends_of.Given as goal

abbrev pub invariant-loop-edge : goal.invariant-loop-edge
invariant-loop-edge l = l.ends.items ≡ take l.edge l.graph.ends
