-- The shape of an order tree: its leaves and its kinds of nodes are those of the tree.
use Rattle.std.proofs.Common.{◌≡◌, ℕ, ◌≤◌, true, List, [], ◌∷◌, ◌++◌, length, map, refl, sym, ap, ap₂, ◌∙◌, subst, arith}
use Rattle.std.specs.Prelude.{◌&&◌, leb}
use Rattle.std.specs.List.{AllByRecursion, flat_map, list_all}
use Rattle.std.proofs.lemmas.Bool.{and_from, and_parts, le-leb}
use Rattle.std.proofs.lemmas.List.{length-map}
use Rattle.cp_base.specs.declared.shape.Branch.TheVariants as branch
use Rattle.cp_base.specs.Shapes as shape
use Rattle.cp_board.proofs.ShapeEquations as equations
use Rattle.cp_pq.specs.declared.node.Node.{Node}
use Rattle.cp_pq.specs.declared.node.Node.TheOpen.{Node-F}
use Rattle.cp_pq.specs.declared.node.Node.TheFolds.{ind-Node, map-Node}
use Rattle.cp_pq.specs.declared.node.Node.TheViews.{roll-Node}
use Rattle.cp_pq.specs.declared.node.Node.TheVariants.{Leaf, P, Q, rolls-Leaf, rolls-P, rolls-Q}
use Rattle.cp_pq.specs.Nodes.{all_leaves, is_branching, leaves}
use Rattle.cp_pq.proofs.NodeLayers.{all_leaves_cons, all_leaves_nil, leaves_Leaf, leaves_P, leaves_Q}
use Rattle.cp_pq.proofs.NodeTests.{branching_P_parts, branching_Q_parts}
use Rattle.cp_force.specs.Shapes.{branch_of}
use Rattle.cp_force.proofs.Shapes.{branch_of-Leaf, branch_of-P, branch_of-Q}
use Rattle.cp_tree.proofs.BranchLayers.{Q_no_P, branches_P, leaf_no_P, leaf_no_Q, same_P}

-- what holds of leaves, and of inner nodes where it holds of all their kids, holds of each node
node_induction : (M : Node → Type 0)
    → ((x : ℕ) → M (Leaf x))
    → ((owner : ℕ) (kids : List Node) → AllByRecursion M kids → M (P owner kids))
    → ((var : ℕ) (kids : List Node) → AllByRecursion M kids → M (Q var kids))
    → (n : Node) → M n
node_induction M leaf p q = ind-Node M step
  where
    all_of : (es : List ((n : Node) × M n)) → AllByRecursion M (map (λ e. e.0) es)
    all_of [] = tt
    all_of (e ∷ es) = (e.1, all_of es)

    step : (x : Node-F Node) (y : Node-F ((n : Node) × M n))
        → map-Node ((n : Node) × M n) Node (λ e. e.0) y ≡ x → M (roll-Node x)
    step x (Node-F.Leaf z) e = subst (λ w. M (roll-Node w)) e (subst M (sym (rolls-Leaf z)) (leaf z))
    step x (Node-F.P owner es) e =
        subst (λ w. M (roll-Node w)) e (subst M (sym (rolls-P owner (map (λ e. e.0) es)))
        (p owner (map (λ e. e.0) es) (all_of es)))
    step x (Node-F.Q var es) e =
        subst (λ w. M (roll-Node w)) e (subst M (sym (rolls-Q var (map (λ e. e.0) es)))
        (q var (map (λ e. e.0) es) (all_of es)))

-- the leaves of a row
row_leaves : (ks : List Node) → AllByRecursion (λ k. shape.leaves (branch_of k) ≡ leaves k) ks
    → flat_map shape.leaves (map branch_of ks) ≡ all_leaves ks
row_leaves [] all = sym all_leaves_nil
row_leaves (k ∷ ks) all = ap₂ (λ a b. a ++ b) all.0 (row_leaves ks all.1) ∙ sym (all_leaves_cons k ks)

-- the branch of a node has its leaves
pub branch_of-leaves : (n : Node) → shape.leaves (branch_of n) ≡ leaves n
branch_of-leaves = node_induction (λ n. shape.leaves (branch_of n) ≡ leaves n)
    (λ x. ap shape.leaves (branch_of-Leaf x) ∙ equations.leaves_Leaf x ∙ sym (leaves_Leaf x))
    (λ o ks all. ap shape.leaves (branch_of-P o ks) ∙ equations.leaves_P (map branch_of ks) ∙ row_leaves ks all
    ∙ sym (leaves_P o ks))
    (λ v ks all. ap shape.leaves (branch_of-Q v ks) ∙ equations.leaves_Q (map branch_of ks) ∙ row_leaves ks all
    ∙ sym (leaves_Q v ks))

-- the kids of a row branch
row_branches : (ks : List Node) → AllByRecursion (λ k. is_branching k ≡ true → shape.branches (branch_of k) ≡ true) ks
    → list_all is_branching ks ≡ true → list_all shape.branches (map branch_of ks) ≡ true
row_branches [] all h = refl
row_branches (k ∷ ks) all h =
    let p = and_parts (is_branching k) (list_all is_branching ks) h in
    and_from (shape.branches (branch_of k)) (list_all shape.branches (map branch_of ks)) (all.0 p.0)
    (row_branches ks all.1 p.1)

-- two kids that branch make a branch
two_kids : (ks : List Node) → 2 ≤ length ks → list_all shape.branches (map branch_of ks) ≡ true
    → (leb 2 (length (map branch_of ks)) && list_all shape.branches (map branch_of ks)) ≡ true
two_kids ks two all =
    and_from (leb 2 (length (map branch_of ks))) (list_all shape.branches (map branch_of ks))
    (le-leb 2 (length (map branch_of ks)) (omega (arith, two, length-map ks branch_of))) all

-- its inner nodes have at least two kids where those of the node have
pub branch_of-branches : (n : Node) → is_branching n ≡ true → shape.branches (branch_of n) ≡ true
branch_of-branches = node_induction (λ n. is_branching n ≡ true → shape.branches (branch_of n) ≡ true)
    (λ x h. ap shape.branches (branch_of-Leaf x) ∙ equations.branches_Leaf x)
    (λ o ks all h.
    let p = branching_P_parts o ks h in
    ap shape.branches (branch_of-P o ks) ∙ branches_P (map branch_of ks) ∙ two_kids ks p.0 (row_branches ks all p.1))
    (λ v ks all h.
    let p = branching_Q_parts v ks h in
    ap shape.branches (branch_of-Q v ks) ∙ equations.branches_Q (map branch_of ks)
    ∙ two_kids ks p.0 (row_branches ks all p.1))

-- the node of a leaf
leaf_before : (n : Node) (y : ℕ) → branch_of n ≡ branch.Leaf y → (x : ℕ) × (n ≡ Leaf x)
leaf_before = node_induction (λ n. (y : ℕ) → branch_of n ≡ branch.Leaf y → (x : ℕ) × (n ≡ Leaf x))
    (λ x y e. (x, refl))
    (λ o ks all y e. absurd (leaf_no_P y (map branch_of ks) (sym e ∙ branch_of-P o ks)))
    (λ v ks all y e. absurd (leaf_no_Q y (map branch_of ks) (sym e ∙ branch_of-Q v ks)))

-- the nodes of a row of leaves
leaves_before : (ks : List Node) (ys : List ℕ) → map branch_of ks ≡ map branch.Leaf ys
    → (xs : List ℕ) × (ks ≡ map Leaf xs)
leaves_before [] ys e = ([], refl)
leaves_before (k ∷ ks) [] e = absurd cc
leaves_before (k ∷ ks) (y ∷ ys) e =
    let one : branch_of k ≡ branch.Leaf y = cc in
    let rest : map branch_of ks ≡ map branch.Leaf ys = cc in
    let a = leaf_before k y one in
    let b = leaves_before ks ys rest in
    (a.0 ∷ b.0, ap₂ (λ z zs. z ∷ zs) a.1 b.1)

-- the node of a star is one P-node of leaves
pub star_before : (n : Node) → shape.IsStar (branch_of n) → (owner : ℕ) × (xs : List ℕ) × (n ≡ P owner (map Leaf xs))
star_before = node_induction
    (λ n. shape.IsStar (branch_of n) → (owner : ℕ) × (xs : List ℕ) × (n ≡ P owner (map Leaf xs)))
    (λ x s. absurd (leaf_no_P x (map branch.Leaf s.0) (sym (branch_of-Leaf x) ∙ s.1)))
    (λ o ks all s.
    let w = leaves_before ks s.0 (same_P (map branch_of ks) (map branch.Leaf s.0) (sym (branch_of-P o ks) ∙ s.1)) in
    (o, w.0, ap (P o) w.1))
    (λ v ks all s. absurd (Q_no_P (map branch_of ks) (map branch.Leaf s.0) (sym (branch_of-Q v ks) ∙ s.1)))
