use Rattle.std.proofs.Common.{take}
use Rattle.cp_sync.specs.Tables.{AreAdjacent}
use Rattle.cp_sync.proofs.tables.adjacency.Given as goal

abbrev pub invariant-loop-e : goal.invariant-loop-e
invariant-loop-e l = AreAdjacent l.verts (take l.e-index l.edges) l.at.items
