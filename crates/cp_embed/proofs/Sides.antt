-- The sides of a P-node part the leaves; what stands in a node of leaves.
use Rattle.std.proofs.Common.{◌≡◌, ℕ, ◌⊎◌, List, [], ◌∷◌, ◌++◌, map, sym, refl, ap, ap₂, ◌∙◌, subst, inl, inr, ⊎_elim}
use Rattle.cp_lists.specs.CyclicLists.{Has, Lacks, Distinct}
use Rattle.cp_lists.proofs.DistinctLists.{has_lacks, Has-append_left, Has-append_right, Distinct-append_left, Distinct-append_right, Distinct-apart}
use Rattle.cp_pq.specs.declared.node.Node.{Node}
use Rattle.cp_pq.specs.declared.node.Node.TheVariants.{Leaf, P, Q}
use Rattle.cp_pq.specs.Nodes.{leaves, all_leaves, IsKid, IsIn, itself, under_P, under_Q}
use Rattle.cp_pq.specs.Owners.{AreOnOneSide}
use Rattle.cp_pq.specs.Promises.{star_body}
use Rattle.cp_pq.proofs.NodeLayers.{P_P, P_Q, Leaf_P, Leaf_Q, Q_Q, leaves_Leaf, leaves_P, leaves_Q, all_leaves_nil, all_leaves_cons, all_leaves_append}
use Rattle.cp_embed.specs.TreeSteps.{row_body}

-- no node is a kid in an empty row
pub no_kid : (k : Node) → IsKid k [] → ⊥
no_kid k h = empty h.0 h.1 h.2
  where
    empty : (before after : List Node) → [] ≡ before ++ k ∷ after → ⊥
    empty [] after e = cc
    empty (y ∷ before) after e = cc

-- a kid is the first one or one of the others
pub kid_or : (k x : Node) (xs : List Node) → IsKid k (x ∷ xs) → (x ≡ k) ⊎ IsKid k xs
kid_or k x xs h = by_place h.0 h.1 h.2
  where
    by_place : (before after : List Node) → x ∷ xs ≡ before ++ k ∷ after → (x ≡ k) ⊎ IsKid k xs
    by_place [] after e = let f : x ≡ k = cc in inl f
    by_place (y ∷ before) after e = let f : xs ≡ before ++ k ∷ after = cc in inr (before, after, f)

-- the leaves of a row with a kid
pub kid_leaves : (k : Node) (ks : List Node) → (h : IsKid k ks)
    → all_leaves ks ≡ all_leaves h.0 ++ (leaves k ++ all_leaves h.1)
kid_leaves k ks h = ap all_leaves h.2 ∙ all_leaves_append h.0 (k ∷ h.1)
    ∙ ap (λ xs. all_leaves h.0 ++ xs) (all_leaves_cons k h.1)

-- a leaf of a kid is one of the row
pub kid_leaf : (a : ℕ) (k : Node) (ks : List Node) → IsKid k ks → Has a (leaves k) → Has a (all_leaves ks)
kid_leaf a k ks h l = subst (Has a) (sym (kid_leaves k ks h))
    (Has-append_right a (all_leaves h.0) (leaves k ++ all_leaves h.1) (Has-append_left a (leaves k) (all_leaves h.1) l))

-- a leaf is in one kid alone
one_kid : (ks : List Node) → Distinct (all_leaves ks) → (k j : Node) → IsKid k ks → IsKid j ks → (a : ℕ)
    → Has a (leaves k) → Has a (leaves j) → k ≡ j
one_kid [] once k j hk hj a ak aj = absurd (no_kid k hk)
one_kid (m ∷ ks) once k j hk hj a ak aj =
    let parts : Distinct (leaves m ++ all_leaves ks) = subst Distinct (all_leaves_cons m ks) once in
    let apart : Has a (leaves m) → Has a (all_leaves ks) → ⊥ =
    λ here there. has_lacks a (all_leaves ks) there (Distinct-apart a (leaves m) (all_leaves ks) parts here)
    in
    ⊎_elim
    (λ ek. ⊎_elim
    (λ ej. sym ek ∙ ej)
    (λ later. absurd (apart (subst (λ n. Has a (leaves n)) (sym ek) ak) (kid_leaf a j ks later aj)))
    (kid_or j m ks hj))
    (λ later. ⊎_elim
    (λ ej. absurd (apart (subst (λ n. Has a (leaves n)) (sym ej) aj) (kid_leaf a k ks later ak)))
    (λ also. one_kid ks (Distinct-append_right (leaves m) (all_leaves ks) parts) k j later also a ak aj)
    (kid_or j m ks hj))
    (kid_or k m ks hk)

-- the sides are the same from either leaf
pub AreOnOneSide-sym : (kids : List Node) (a b : ℕ) → AreOnOneSide kids a b → AreOnOneSide kids b a
AreOnOneSide-sym kids a b = ⊎_elim (λ s. inl (s.0, s.1, s.3, s.2)) (λ s. inr (s.1, s.0))

-- what is on one side with the same leaf is on one side
pub AreOnOneSide-trans : (kids : List Node) → Distinct (all_leaves kids) → (a b c : ℕ) → AreOnOneSide kids a b
    → AreOnOneSide kids b c → AreOnOneSide kids a c
AreOnOneSide-trans kids once a b c one two = ⊎_elim
    (λ s. ⊎_elim
    (λ z. inl (s.0, s.1, s.2, subst (λ n. Has c (leaves n)) (sym (one_kid kids once s.0 z.0 s.1 z.1 b s.3 z.2)) z.3))
    (λ z. absurd (has_lacks b (all_leaves kids) (kid_leaf b s.0 kids s.1 s.3) z.0))
    two)
    (λ s. ⊎_elim
    (λ z. absurd (has_lacks b (all_leaves kids) (kid_leaf b z.0 kids z.1 z.2) s.1))
    (λ z. inr (s.0, z.1))
    two)
    one

-- the leaves of a row with no leaf twice: nor has a kid one
kid-Distinct : (k : Node) (ks : List Node) → IsKid k ks → Distinct (all_leaves ks) → Distinct (leaves k)
kid-Distinct k ks h once = Distinct-append_left (leaves k) (all_leaves h.1)
    (Distinct-append_right (all_leaves h.0) (leaves k ++ all_leaves h.1) (subst Distinct (kid_leaves k ks h) once))

-- nor has a node in it
in-Distinct : (m n : Node) → IsIn m n → Distinct (leaves n) → Distinct (leaves m)
in-Distinct m _ itself once = once
in-Distinct m _ (under_P o ks k kid h) once =
    in-Distinct m k h (kid-Distinct k ks kid (subst Distinct (leaves_P o ks) once))
in-Distinct m _ (under_Q v ks k kid h) once =
    in-Distinct m k h (kid-Distinct k ks kid (subst Distinct (leaves_Q v ks) once))

-- nor have the kids of a P-node in it
pub kids-Distinct : (o : ℕ) (ks : List Node) (n : Node) → IsIn (P o ks) n → Distinct (leaves n)
    → Distinct (all_leaves ks)
kids-Distinct o ks n h once = subst Distinct (leaves_P o ks) (in-Distinct (P o ks) n h once)

-- the leaves of a row of leaves
pub row-leaves_are : (xs : List ℕ) → all_leaves (map Leaf xs) ≡ xs
row-leaves_are [] = all_leaves_nil
row-leaves_are (x ∷ xs) = all_leaves_cons (Leaf x) (map Leaf xs)
    ∙ ap₂ (λ us vs. us ++ vs) (leaves_Leaf x) (row-leaves_are xs)

-- a kid in a row of leaves is a leaf
pub leaf_kid : (xs : List ℕ) (k : Node) → IsKid k (map Leaf xs) → (x : ℕ) × (k ≡ Leaf x)
leaf_kid [] k h = absurd (no_kid k h)
leaf_kid (x ∷ xs) k h = ⊎_elim (λ e. (x, sym e)) (λ later. leaf_kid xs k later) (kid_or k (Leaf x) (map Leaf xs) h)

-- where all kids are leaves, no two leaves are on one side
pub leaf_sides : (xs : List ℕ) (a b : ℕ) → AreOnOneSide (map Leaf xs) a b → (a ≡ b) ⊎ (Lacks a xs × Lacks b xs)
leaf_sides xs a b = ⊎_elim
    (λ s. let k = leaf_kid xs s.0 s.1 in
    inl (sym (only_item k.0 a (subst (Has a) (ap leaves k.1 ∙ leaves_Leaf k.0) s.2))
    ∙ only_item k.0 b (subst (Has b) (ap leaves k.1 ∙ leaves_Leaf k.0) s.3)))
    (λ s. inr (subst (Lacks a) (row-leaves_are xs) s.0, subst (Lacks b) (row-leaves_are xs) s.1))
  where
    only_item : (x c : ℕ) → Has c (x ∷ []) → x ≡ c
    only_item x c = ⊎_elim (λ e. e) (λ none. absurd none)

-- leaves that are not in the row are on one side
pub outside_sides : (xs : List ℕ) (a b : ℕ) → Lacks a xs → Lacks b xs → AreOnOneSide (map Leaf xs) a b
outside_sides xs a b la lb =
    inr (subst (Lacks a) (sym (row-leaves_are xs)) la, subst (Lacks b) (sym (row-leaves_are xs)) lb)

-- no P-node stands in a leaf
no_P-leaf : (m n : Node) → IsIn m n → (o : ℕ) (ks : List Node) (x : ℕ) → m ≡ P o ks → n ≡ Leaf x → ⊥
no_P-leaf m _ itself o ks x em en = Leaf_P x o ks (sym en ∙ em)
no_P-leaf m _ (under_P b js k kid h) o ks x em en = Leaf_P x b js (sym en)
no_P-leaf m _ (under_Q v js k kid h) o ks x em en = Leaf_Q x v js (sym en)

-- nor in a row of leaves
no_P-kid : (m k : Node) (js : List Node) (xs : List ℕ) → IsKid k js → js ≡ map Leaf xs → IsIn m k → (o : ℕ)
    (ks : List Node) → m ≡ P o ks → ⊥
no_P-kid m k js xs kid is h o ks em =
    let w = leaf_kid xs k (subst (IsKid k) is kid) in no_P-leaf m k h o ks w.0 em w.1

-- a P-node in a P-node of leaves is this one
in_P-leaves : (m n : Node) → IsIn m n → (o b : ℕ) (ks : List Node) (xs : List ℕ) → m ≡ P o ks → n ≡ P b (map Leaf xs)
    → (o ≡ b) × (ks ≡ map Leaf xs)
in_P-leaves m _ itself o b ks xs em en = P_P o b ks (map Leaf xs) (sym em ∙ en)
in_P-leaves m _ (under_P c js k kid h) o b ks xs em en =
    absurd (no_P-kid m k js xs kid (P_P c b js (map Leaf xs) en).1 h o ks em)
in_P-leaves m _ (under_Q v js k kid h) o b ks xs em en = absurd (P_Q b v (map Leaf xs) js (sym en))

-- no P-node stands in a Q-node of leaves
in_Q-leaves : (m n : Node) → IsIn m n → (o v : ℕ) (ks : List Node) (xs : List ℕ) → m ≡ P o ks → n ≡ Q v (map Leaf xs)
    → ⊥
in_Q-leaves m _ itself o v ks xs em en = P_Q o v ks (map Leaf xs) (sym em ∙ en)
in_Q-leaves m _ (under_P c js k kid h) o v ks xs em en = P_Q c v js (map Leaf xs) en
in_Q-leaves m _ (under_Q w js k kid h) o v ks xs em en =
    no_P-kid m k js xs kid (Q_Q w v js (map Leaf xs) en).1 h o ks em

-- a P-node in a star is the star
pub in_star : (o b : ℕ) (ks : List Node) (xs : List ℕ) → IsIn (P o ks) (star_body b xs) → (o ≡ b) × (ks ≡ map Leaf xs)
in_star o b ks [] h = in_P-leaves (P o ks) (P b []) h o b ks [] refl refl
in_star o b ks (x ∷ []) h = absurd (no_P-leaf (P o ks) (Leaf x) h o ks x refl refl)
in_star o b ks (x ∷ y ∷ xs) h =
    in_P-leaves (P o ks) (P b (map Leaf (x ∷ y ∷ xs))) h o b ks (x ∷ y ∷ xs) refl refl

-- no P-node is in a row
pub in_row : (o v : ℕ) (ks : List Node) (xs : List ℕ) → IsIn (P o ks) (row_body v xs) → ⊥
in_row o v ks [] h = in_Q-leaves (P o ks) (Q v []) h o v ks [] refl refl
in_row o v ks (x ∷ []) h = no_P-leaf (P o ks) (Leaf x) h o ks x refl refl
in_row o v ks (x ∷ y ∷ xs) h = in_Q-leaves (P o ks) (Q v (map Leaf (x ∷ y ∷ xs))) h o v ks (x ∷ y ∷ xs) refl refl
