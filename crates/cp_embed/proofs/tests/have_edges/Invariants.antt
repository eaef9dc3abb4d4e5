-- Each vertex that is marked is an end of some edge.
use Rattle.cp_ears.proofs.Samples.{AreTouched}
use Rattle.cp_embed.proofs.tests.have_edges.Given as goal

abbrev pub invariant-loop-first : goal.invariant-loop-first
invariant-loop-first l = AreTouched l.vertices l.ends l.touched.items
