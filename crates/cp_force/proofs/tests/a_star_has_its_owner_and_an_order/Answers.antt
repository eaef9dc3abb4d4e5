-- The star has one var.
use Rattle.std.proofs.Common.{ap, sym}
use Rattle.cp_pq.specs.Trees.{PQTree}
use Rattle.cp_force.proofs.tests.a_star_has_its_owner_and_an_order.Goals as goal

pub order_of-requires-clause-one_each : goal.order_of-requires-clause-one_each
order_of-requires-clause-one_each c d = ap (λ (tree : PQTree). tree.vars) (sym d.in_ok-tree.ensures.tree_is)
