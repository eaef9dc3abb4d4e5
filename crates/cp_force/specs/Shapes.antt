-- Shapes of order trees: the trees without owners, vars and equations.
use Rattle.cp_base.specs.declared.shape.Branch.{Branch}
use Rattle.cp_base.specs.declared.shape.Branch.TheVariants as branch
use Rattle.cp_base.specs.declared.shape.Shape.{Shape}
use Rattle.cp_pq.specs.declared.node.Node.{Node}
use Rattle.cp_pq.specs.declared.node.Node.TheOpen.{Node-F}
use Rattle.cp_pq.specs.declared.node.Node.TheFolds.{fold-Node}
use Rattle.cp_pq.specs.Trees.{PQTree}

-- the branch of a layer whose kids are branches, without its owner or var
abbrev pub branch_step : Node-F Branch → Branch
branch_step (Node-F.Leaf x) = branch.Leaf x
branch_step (Node-F.P owner kids) = branch.P kids
branch_step (Node-F.Q var kids) = branch.Q kids

-- the node without owners and vars
unfoldable pub branch_of : Node → Branch
branch_of = fold-Node Branch branch_step

-- the root, and the body without owners and vars
abbrev pub shape_of_tree : PQTree → Shape
shape_of_tree tree = record { root = tree.root; body = branch_of tree.body }
