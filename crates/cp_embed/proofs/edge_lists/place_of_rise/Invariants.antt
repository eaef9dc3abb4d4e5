-- No rise so far.
use Rattle.cp_embed.specs.Cuts.{HasNoRise}
use Rattle.cp_embed.specs.VertexOrders.{enters}
use Rattle.cp_embed.proofs.edge_lists.place_of_rise.Given as goal

abbrev pub invariant-loop-i : goal.invariant-loop-i
invariant-loop-i l = HasNoRise (enters l.later l.vertex) l.list l.i
