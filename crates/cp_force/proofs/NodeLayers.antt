-- Nodes layer by layer: folds and induction.
use Rattle.std.proofs.Common.{◌≡◌, ℕ, List, [], ◌∷◌, ◌++◌, map, reverse, refl, sym, ap, ◌∙◌, subst}
use Rattle.std.specs.List.{AllByRecursion}
use Rattle.std.proofs.lemmas.List.{reverse-append, map-append}
use Rattle.cp_pq.specs.declared.node.Node.{Node}
use Rattle.cp_pq.specs.declared.node.Node.TheOpen.{Node-F}
use Rattle.cp_pq.specs.declared.node.Node.TheViews.{roll-Node}
use Rattle.cp_pq.specs.declared.node.Node.TheFolds.{map-Node, ind-Node}
use Rattle.cp_pq.specs.declared.node.Node.TheVariants.{Leaf, P, Q, rolls-Leaf, rolls-P, rolls-Q}

-- a property of each node of a pair list holds of the nodes
all_of : (M : Node → Type 0) → (es : List ((n : Node) × M n)) → AllByRecursion M (map (λ e. e.0) es)
all_of M [] = tt
all_of M (e ∷ es) = (e.1, all_of M es)

-- what holds of leaves, and of inner nodes where it holds of all their kids, holds of each node
pub node_induction : (M : Node → Type 0)
    → ((x : ℕ) → M (Leaf x))
    → ((owner : ℕ) (kids : List Node) → AllByRecursion M kids → M (P owner kids))
    → ((var : ℕ) (kids : List Node) → AllByRecursion M kids → M (Q var kids))
    → (n : Node) → M n
node_induction M leaf p q = ind-Node M step
  where
    step : (x : Node-F Node) (y : Node-F ((n : Node) × M n))
        → map-Node ((n : Node) × M n) Node (λ e. e.0) y ≡ x → M (roll-Node x)
    step x (Node-F.Leaf z) e = subst (λ w. M (roll-Node w)) e (subst M (sym (rolls-Leaf z)) (leaf z))
    step x (Node-F.P owner es) e =
        subst (λ w. M (roll-Node w)) e (subst M (sym (rolls-P owner (map (λ e. e.0) es)))
        (p owner (map (λ e. e.0) es) (all_of M es)))
    step x (Node-F.Q var es) e =
        subst (λ w. M (roll-Node w)) e (subst M (sym (rolls-Q var (map (λ e. e.0) es)))
        (q var (map (λ e. e.0) es) (all_of M es)))

-- the images of a list in reverse are its images in reverse
pub map-reverse : {A B : Type 0} (f : A → B) (xs : List A) → map f (reverse xs) ≡ reverse (map f xs)
map-reverse f [] = refl
map-reverse f (x ∷ xs) =
    ap (map f) (reverse-append (x ∷ []) xs) ∙ map-append f (reverse xs) (x ∷ [])
    ∙ ap (λ zs. zs ++ f x ∷ []) (map-reverse f xs) ∙ sym (reverse-append (f x ∷ []) (map f xs))
