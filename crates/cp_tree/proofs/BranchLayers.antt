-- Branches layer by layer: induction, their leaves, and what they are equal to.
use Rattle.std.proofs.Common.{◌≡◌, ℕ, Bool, List, [], ◌∷◌, length, map, refl, sym, ap, ap₂, ◌∙◌, subst}
use Rattle.std.specs.Prelude.{◌&&◌, leb}
use Rattle.std.specs.List.{AllByRecursion, list_all}
use Rattle.std.proofs.lemmas.List.{length-map}
use Rattle.cp_base.specs.declared.shape.Branch.{Branch}
use Rattle.cp_base.specs.declared.shape.Branch.TheOpen.{Branch-F}
use Rattle.cp_base.specs.declared.shape.Branch.TheFolds.{fold-roll-Branch, ind-Branch, map-Branch}
use Rattle.cp_base.specs.declared.shape.Branch.TheVariants.{Leaf, P, Q, rolls-Leaf, rolls-P, rolls-Q}
use Rattle.cp_base.specs.declared.shape.Branch.TheViews.{out-Branch, out-roll-Branch, roll-Branch}
use Rattle.cp_base.specs.Shapes.{branches, branches_step}

-- what holds of leaves, and of inner nodes where it holds of all their kids, holds of each branch
pub branch_induction : (M : Branch → Type 0)
    → ((x : ℕ) → M (Leaf x))
    → ((kids : List Branch) → AllByRecursion M kids → M (P kids))
    → ((kids : List Branch) → AllByRecursion M kids → M (Q kids))
    → (b : Branch) → M b
branch_induction M leaf p q = ind-Branch M step
  where
    all_of : (es : List ((b : Branch) × M b)) → AllByRecursion M (map (λ e. e.0) es)
    all_of [] = tt
    all_of (e ∷ es) = (e.1, all_of es)

    step : (x : Branch-F Branch) (y : Branch-F ((b : Branch) × M b))
        → map-Branch ((b : Branch) × M b) Branch (λ e. e.0) y ≡ x → M (roll-Branch x)
    step x (Branch-F.Leaf z) e = subst (λ w. M (roll-Branch w)) e (subst M (sym (rolls-Leaf z)) (leaf z))
    step x (Branch-F.P es) e =
        subst (λ w. M (roll-Branch w)) e (subst M (sym (rolls-P (map (λ e. e.0) es)))
        (p (map (λ e. e.0) es) (all_of es)))
    step x (Branch-F.Q es) e =
        subst (λ w. M (roll-Branch w)) e (subst M (sym (rolls-Q (map (λ e. e.0) es)))
        (q (map (λ e. e.0) es) (all_of es)))

-- the layer of a leaf
pub out_Leaf : (x : ℕ) → out-Branch (Leaf x) ≡ Branch-F.Leaf x
out_Leaf x = ap out-Branch (sym (rolls-Leaf x)) ∙ out-roll-Branch (Branch-F.Leaf x)

-- the layer of a P-node
pub out_P : (ks : List Branch) → out-Branch (P ks) ≡ Branch-F.P ks
out_P ks = ap out-Branch (sym (rolls-P ks)) ∙ out-roll-Branch (Branch-F.P ks)

-- the layer of a Q-node
pub out_Q : (ks : List Branch) → out-Branch (Q ks) ≡ Branch-F.Q ks
out_Q ks = ap out-Branch (sym (rolls-Q ks)) ∙ out-roll-Branch (Branch-F.Q ks)

-- equal P-nodes have the same kids
pub same_P : (ks js : List Branch) → P ks ≡ P js → ks ≡ js
same_P ks js e = let h : Branch-F.P ks ≡ Branch-F.P js = sym (out_P ks) ∙ ap out-Branch e ∙ out_P js in cc

-- a leaf is no P-node
pub leaf_no_P : (x : ℕ) (ks : List Branch) → Leaf x ≡ P ks → ⊥
leaf_no_P x ks e = let h : Branch-F.Leaf x ≡ Branch-F.P ks = sym (out_Leaf x) ∙ ap out-Branch e ∙ out_P ks in cc

-- a leaf is no Q-node
pub leaf_no_Q : (x : ℕ) (ks : List Branch) → Leaf x ≡ Q ks → ⊥
leaf_no_Q x ks e = let h : Branch-F.Leaf x ≡ Branch-F.Q ks = sym (out_Leaf x) ∙ ap out-Branch e ∙ out_Q ks in cc

-- a Q-node is no P-node
pub Q_no_P : (ks js : List Branch) → Q ks ≡ P js → ⊥
Q_no_P ks js e = let h : Branch-F.Q ks ≡ Branch-F.P js = sym (out_Q ks) ∙ ap out-Branch e ∙ out_P js in cc

-- the values of a test are all true where all items pass it
list_all_map : {A : Type 0} (f : A → Bool) (ks : List A) → list_all (λ (b : Bool). b) (map f ks) ≡ list_all f ks
list_all_map f [] = refl
list_all_map f (k ∷ ks) = ap (λ z. f k && z) (list_all_map f ks)

-- the inner nodes of a P-node have at least two kids if it has and those of its kids have
pub branches_P : (ks : List Branch) → branches (P ks) ≡ (leb 2 (length ks) && list_all branches ks)
unfolding branches
branches_P ks = ap branches (sym (rolls-P ks)) ∙ fold-roll-Branch Bool branches_step (Branch-F.P ks)
    ∙ ap₂ (λ n z. leb 2 n && z) (length-map ks branches) (list_all_map branches ks)
