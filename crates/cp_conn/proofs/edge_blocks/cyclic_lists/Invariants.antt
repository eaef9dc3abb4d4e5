-- The lists so far are the same.
use Rattle.std.proofs.Common.{◌≡◌, take}
use Rattle.cp_conn.proofs.edge_blocks.cyclic_lists.Given as goal

abbrev pub invariant-loop-part : goal.invariant-loop-part
invariant-loop-part l = l.lists ≡ take l.part-index l.parts
