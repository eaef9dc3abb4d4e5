-- The graph is one block.
use Rattle.graph_parts.proofs.numbers.order.Goals as goal

pub bipolar-requires-clause-one_block : goal.bipolar-requires-clause-one_block
bipolar-requires-clause-one_block c = (c.in_ok-is_block.ensures.0 c.if-not-branch.false).one_block
