-- Shapes of order trees, layer by layer.
use Rattle.std.proofs.Common.{◌≡◌, ℕ, List, map, sym, ap, ◌∙◌}
use Rattle.cp_base.specs.declared.shape.Branch.{Branch}
use Rattle.cp_base.specs.declared.shape.Branch.TheVariants as branch
use Rattle.cp_pq.specs.declared.node.Node.{Node}
use Rattle.cp_pq.specs.declared.node.Node.TheOpen.{Node-F}
use Rattle.cp_pq.specs.declared.node.Node.TheFolds.{fold-roll-Node}
use Rattle.cp_pq.specs.declared.node.Node.TheVariants.{Leaf, P, Q, rolls-Leaf, rolls-P, rolls-Q}
use Rattle.cp_force.specs.Shapes.{branch_of, branch_step}

-- the shape of a leaf
pub branch_of-Leaf : (x : ℕ) → branch_of (Leaf x) ≡ branch.Leaf x
unfolding branch_of
branch_of-Leaf x = ap branch_of (sym (rolls-Leaf x)) ∙ fold-roll-Node Branch branch_step (Node-F.Leaf x)

-- the shape of a P-node
pub branch_of-P : (owner : ℕ) (kids : List Node) → branch_of (P owner kids) ≡ branch.P (map branch_of kids)
unfolding branch_of
branch_of-P owner kids = ap branch_of (sym (rolls-P owner kids))
    ∙ fold-roll-Node Branch branch_step (Node-F.P owner kids)

-- the shape of a Q-node
pub branch_of-Q : (var : ℕ) (kids : List Node) → branch_of (Q var kids) ≡ branch.Q (map branch_of kids)
unfolding branch_of
branch_of-Q var kids = ap branch_of (sym (rolls-Q var kids)) ∙ fold-roll-Node Branch branch_step (Node-F.Q var kids)
