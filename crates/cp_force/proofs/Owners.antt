-- Rows of leaves.
use Rattle.std.proofs.Common.{◌≡◌, ℕ, Bool, true, false, ◌&&◌, List, [], ◌∷◌, map, refl, sym, ap, ap₂, ◌∙◌}
use Rattle.std.specs.List.{list_all}
use Rattle.std.proofs.lemmas.Bool.{and_parts, false≢true}
use Rattle.cp_pq.specs.declared.node.Node.{Node}
use Rattle.cp_pq.specs.declared.node.Node.TheOpen.{Node-F}
use Rattle.cp_pq.specs.declared.node.Node.TheFolds.{fold-roll-Node}
use Rattle.cp_pq.specs.declared.node.Node.TheVariants.{Leaf, P, Q, rolls-Leaf, rolls-P, rolls-Q}
use Rattle.cp_force.specs.Owners.{is_leaf, leaf_step}
use Rattle.cp_force.proofs.NodeLayers.{node_induction}

-- a leaf is one
pub is_leaf-Leaf : (x : ℕ) → is_leaf (Leaf x) ≡ true
unfolding is_leaf
is_leaf-Leaf x = ap is_leaf (sym (rolls-Leaf x)) ∙ fold-roll-Node Bool leaf_step (Node-F.Leaf x)

-- a P-node is no leaf
pub is_leaf-P : (owner : ℕ) (kids : List Node) → is_leaf (P owner kids) ≡ false
unfolding is_leaf
is_leaf-P owner kids = ap is_leaf (sym (rolls-P owner kids)) ∙ fold-roll-Node Bool leaf_step (Node-F.P owner kids)

-- a Q-node is no leaf
pub is_leaf-Q : (var : ℕ) (kids : List Node) → is_leaf (Q var kids) ≡ false
unfolding is_leaf
is_leaf-Q var kids = ap is_leaf (sym (rolls-Q var kids)) ∙ fold-roll-Node Bool leaf_step (Node-F.Q var kids)

-- what passes as a leaf is the leaf of some number
pub leaf_of : (n : Node) → is_leaf n ≡ true → (x : ℕ) × (n ≡ Leaf x)
leaf_of = node_induction (λ n. is_leaf n ≡ true → (x : ℕ) × (n ≡ Leaf x))
    (λ x e. (x, refl))
    (λ owner kids all e. absurd (false≢true (sym (is_leaf-P owner kids) ∙ e)))
    (λ var kids all e. absurd (false≢true (sym (is_leaf-Q var kids) ∙ e)))

-- a row that passes as leaves is one of leaves
pub leaves_of : (kids : List Node) → list_all is_leaf kids ≡ true → (xs : List ℕ) × (kids ≡ map Leaf xs)
leaves_of [] e = ([], refl)
leaves_of (k ∷ ks) e =
    let parts = and_parts (is_leaf k) (list_all is_leaf ks) e in
    let x = leaf_of k parts.0 in
    let xs = leaves_of ks parts.1 in
    (x.0 ∷ xs.0, ap₂ (λ n ns. n ∷ ns) x.1 xs.1)

-- a row of leaves passes
pub are_leaves : (xs : List ℕ) → list_all is_leaf (map Leaf xs) ≡ true
are_leaves [] = refl
are_leaves (x ∷ xs) = ap₂ (λ a b. a && b) (is_leaf-Leaf x) (are_leaves xs)
