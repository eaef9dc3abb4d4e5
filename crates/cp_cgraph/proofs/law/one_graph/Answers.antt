use Rattle.cp_cgraph.proofs.FaultLaw.{graph_or_fault}
use Rattle.cp_cgraph.proofs.Whole.{each_node, each_edge}
use Rattle.cp_cgraph.proofs.law.one_graph.Goals as goal

pub returns-clause-nodes : goal.returns-clause-nodes
returns-clause-nodes c = each_node

pub returns-clause-edges : goal.returns-clause-edges
returns-clause-edges c = each_edge

pub returns-clause-some : goal.returns-clause-some
returns-clause-some c = graph_or_fault
