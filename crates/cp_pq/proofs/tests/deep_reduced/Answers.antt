use Rattle.cp_pq.proofs.DeepTrees.{grown_formed, grown_set}
use Rattle.cp_pq.proofs.tests.deep_reduced.Goals as goal

pub from_parts-tree-requires : goal.from_parts-tree-requires
from_parts-tree-requires c = grown_formed c.args.count c.in_ok-node.node _ c.in_ok-node.ensures c.new-equations.ensures

pub reduce-requires : goal.reduce-requires
reduce-requires c =
    grown_set c.args.count c.in_ok-node.node _ c.in_ok-node.ensures c.requires c.from_parts-tree.result c.from_parts-tree.ensures
