-- The leaves of a shape, and whether its inner nodes have at least two kids, by its nodes.
use Rattle.std.proofs.Common.{◌≡◌, ℕ, Bool, true, List, [], ◌∷◌, ◌++◌, length, sym, refl, ap, ◌∙◌}
use Rattle.std.specs.Prelude.{◌&&◌, leb, map}
use Rattle.std.specs.List.{flat_map, list_all}
use Rattle.std.proofs.lemmas.List.{length-map}
use Rattle.cp_base.specs.declared.shape.Branch.{Branch}
use Rattle.cp_base.specs.declared.shape.Branch.TheVariants.{Leaf, P, Q, rolls-Leaf, rolls-P, rolls-Q}
use Rattle.cp_base.specs.declared.shape.Branch.TheOpen.{Branch-F}
use Rattle.cp_base.specs.declared.shape.Branch.TheFolds.{fold-roll-Branch}
use Rattle.cp_base.specs.Shapes.{leaves, leaves_step, branches, branches_step}

-- the lists of some items, one behind the other
flat_map_map : {A : Type 0} (f : A → List ℕ) (ks : List A) → flat_map (λ ls. ls) (map f ks) ≡ flat_map f ks
flat_map_map f [] = refl
flat_map_map f (k ∷ ks) = ap (λ zs. f k ++ zs) (flat_map_map f ks)

-- a test passes all items where its values at them are all true
list_all_map : {A : Type 0} (f : A → Bool) (ks : List A) → list_all (λ b. b) (map f ks) ≡ list_all f ks
list_all_map f [] = refl
list_all_map f (k ∷ ks) = ap (λ z. f k && z) (list_all_map f ks)

-- a leaf has itself as its only leaf
pub leaves_Leaf : (x : ℕ) → leaves (Leaf x) ≡ x ∷ []
unfolding leaves
leaves_Leaf x = ap leaves (sym (rolls-Leaf x)) ∙ fold-roll-Branch (List ℕ) leaves_step (Branch-F.Leaf x)

-- the leaves of a P-node are those of its kids, in order
pub leaves_P : (ks : List Branch) → leaves (P ks) ≡ flat_map leaves ks
unfolding leaves
leaves_P ks = ap leaves (sym (rolls-P ks)) ∙ fold-roll-Branch (List ℕ) leaves_step (Branch-F.P ks) ∙ flat_map_map leaves ks

-- the leaves of a Q-node are those of its kids, in order
pub leaves_Q : (ks : List Branch) → leaves (Q ks) ≡ flat_map leaves ks
unfolding leaves
leaves_Q ks = ap leaves (sym (rolls-Q ks)) ∙ fold-roll-Branch (List ℕ) leaves_step (Branch-F.Q ks) ∙ flat_map_map leaves ks

-- a leaf has no inner node, so none with fewer than two kids
pub branches_Leaf : (x : ℕ) → branches (Leaf x) ≡ true
unfolding branches
branches_Leaf x = ap branches (sym (rolls-Leaf x)) ∙ fold-roll-Branch Bool branches_step (Branch-F.Leaf x)

-- the inner nodes of a Q-node have at least two kids if it has and those of its kids have
pub branches_Q : (ks : List Branch) → branches (Q ks) ≡ (leb 2 (length ks) && list_all branches ks)
unfolding branches
branches_Q ks = ap branches (sym (rolls-Q ks)) ∙ fold-roll-Branch Bool branches_step (Branch-F.Q ks)
    ∙ ap (λ n. leb 2 n && list_all (λ b. b) (map branches ks)) (length-map ks branches) ∙ ap (λ z. leb 2 (length ks) && z) (list_all_map branches ks)
