-- Those so far, but the one.
use Rattle.std.proofs.Common.{◌≡◌, take}
use Rattle.cp_lists.specs.CyclicLists.{but}
use Rattle.cp_embed.proofs.edge_lists.all_but.Given as goal

abbrev pub invariant-loop-edge : goal.invariant-loop-edge
invariant-loop-edge l = l.kept.items ≡ but l.out (take l.edge-index l.edges)
