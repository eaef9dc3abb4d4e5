-- The edges so far stand in the rows of their numbers.
use Rattle.cp_flip.specs.BlockTrees.{AreRowsByNumber}
use Rattle.cp_flip.proofs.block_rows.edges_by_number.Given as goal

abbrev pub invariant-loop-k : goal.invariant-loop-k
invariant-loop-k l = AreRowsByNumber l.edges l.numbers l.k l.rows.items
