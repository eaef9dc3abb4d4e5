-- Each variant has its shape.
use Rattle.std.proofs.Common.{map, sym, ap, ◌∙◌}
use Rattle.cp_base.specs.declared.shape.Branch.TheVariants as branch
use Rattle.cp_force.specs.Shapes.{branch_of}
use Rattle.cp_force.proofs.Shapes.{branch_of-Leaf, branch_of-P, branch_of-Q}
use Rattle.cp_force.proofs.shaping.+shapes.Goals as goal

pub branch_of_node-returns-in-Leaf : goal.branch_of_node-returns-in-Leaf
branch_of_node-returns-in-Leaf t c = sym (ap branch_of c.in-Leaf.is ∙ branch_of-Leaf c.in-Leaf.x)

pub branch_of_node-returns-in_ok-branches-in-P : goal.branch_of_node-returns-in_ok-branches-in-P
branch_of_node-returns-in_ok-branches-in-P t c =
    ap branch.P (c.in_ok-branches-in-P.ensures ∙ ap (map branch_of) c.items.ensures)
    ∙ sym (ap branch_of c.in-P.is ∙ branch_of-P c.in-P.owner c.in-P.kids)

pub branch_of_node-returns-in_ok-row-in-Q : goal.branch_of_node-returns-in_ok-row-in-Q
branch_of_node-returns-in_ok-row-in-Q t c =
    ap branch.Q (c.in_ok-row-in-Q.ensures ∙ ap (map branch_of) c.items-in-Q.ensures)
    ∙ sym (ap branch_of c.in-Q.is ∙ branch_of-Q c.in-Q.var c.in-Q.kids)
