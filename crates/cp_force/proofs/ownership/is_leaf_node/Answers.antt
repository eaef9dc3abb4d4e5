-- Each variant is told apart.
use Rattle.std.proofs.Common.{sym, ap, ◌∙◌}
use Rattle.cp_force.specs.Owners.{is_leaf}
use Rattle.cp_force.proofs.Owners.{is_leaf-Leaf, is_leaf-P, is_leaf-Q}
use Rattle.cp_force.proofs.ownership.is_leaf_node.Goals as goal

pub returns-in-Leaf : goal.returns-in-Leaf
returns-in-Leaf c = sym (ap is_leaf c.in-Leaf.is ∙ is_leaf-Leaf c.in-Leaf.field-0)

pub returns-in-P : goal.returns-in-P
returns-in-P c = sym (ap is_leaf c.in-P.is ∙ is_leaf-P c.in-P.owner c.in-P.kids)

pub returns-in-Q : goal.returns-in-Q
returns-in-Q c = sym (ap is_leaf c.in-Q.is ∙ is_leaf-Q c.in-Q.var c.in-Q.kids)
