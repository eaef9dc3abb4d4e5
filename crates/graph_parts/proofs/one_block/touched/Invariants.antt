-- The ends of the edges so far are marked.
use Rattle.graph_parts.specs.Fitting.{AreTouched}
use Rattle.graph_parts.proofs.one_block.touched.Given as goal

abbrev pub invariant-loop-edge : goal.invariant-loop-edge
invariant-loop-edge l = AreTouched l.vertices l.ends l.edge l.found.items
