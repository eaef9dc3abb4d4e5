-- The copy has the parts of the tree.
use Rattle.std.proofs.Common.{sym, ap, ◌∙◌, subst, ◌≡◌, List, ℕ}
use Rattle.cp_base.specs.declared.equation.Equation.{Equation}
use Rattle.cp_pq.specs.declared.node.Node.{Node}
use Rattle.cp_pq.specs.Trees.{PQTree, IsWellFormed, make_tree}
use Rattle.cp_force.proofs.copying.copy_of.Goals as goal

-- trees of equal parts are equal
same_parts : (tree : PQTree) (root : ℕ) (body : Node) (vars : ℕ) (equations : List Equation)
    → root ≡ tree.root → body ≡ tree.body → vars ≡ tree.vars → equations ≡ tree.equations
    → make_tree root body vars equations ≡ tree
same_parts tree root body vars equations r b v e =
    ap (λ x. make_tree x body vars equations) r ∙ ap (λ x. make_tree tree.root x vars equations) b
    ∙ ap (λ x. make_tree tree.root tree.body x equations) v ∙ ap (λ x. make_tree tree.root tree.body tree.vars x) e

pub from_parts-requires : goal.from_parts-requires
from_parts-requires c =
    subst IsWellFormed
    (sym (same_parts c.args.tree.now c.root.result c.in_ok-body.body c.vars.result c.in_ok-equations.equations
    c.root.ensures.value (c.in_ok-body.ensures ∙ c.body.ensures.value) c.vars.ensures.value (c.in_ok-equations.ensures
    ∙ c.equations.ensures.value)))
    c.root.ensures.well_formed
