-- The edges below the next one are grouped.
use Rattle.std.proofs.Common.{length}
use Rattle.cp_conn.specs.Grouping.{touches, key_of, AreGrouped, IsPlaced}
use Rattle.cp_conn.proofs.edge_blocks.edges_by_component.Given as goal

abbrev pub invariant-loop-edge : goal.invariant-loop-edge
invariant-loop-edge l = record {
  grouped : AreGrouped (touches l.ends l.v) (key_of l.ends l.v l.least) l.edge l.parts.items;
  placed : IsPlaced (key_of l.ends l.v l.least) (length l.least) l.parts.items l.places.items;
}
