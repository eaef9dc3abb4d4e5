-- Rows of leaves that take the place of a part.
use Rattle.std.proofs.Common.{◌≡◌, ◌≢◌, ℕ, ◌<◌, ◌⊎◌, true, ◌&&◌, List, [], ◌∷◌, ◌++◌, map, length, refl, sym, ap, ap₂, ◌∙◌, subst, inl, inr, ⊎_elim, arith, IsPermutation}
use Rattle.std.specs.List.{list_all}
use Rattle.std.proofs.lemmas.Bool.{lt-ltb}
use Rattle.std.proofs.lemmas.List.{length-map}
use Rattle.std.proofs.lemmas.List.Sorted.{IsPermutation-refl, IsPermutation-trans}
use Rattle.cp_lists.specs.CyclicLists.{Distinct}
use Rattle.cp_pq.specs.declared.node.Node.{Node}
use Rattle.cp_pq.specs.declared.node.Node.TheVariants.{Leaf, P, Q}
use Rattle.cp_pq.specs.Nodes.{leaves, all_leaves, is_branching, has_vars_below, IsKid, IsIn, itself, under_P, under_Q}
use Rattle.cp_pq.specs.Owners.{KeepsOwners}
use Rattle.cp_pq.specs.Keeping.{Keeps, IsInRow}
use Rattle.cp_pq.proofs.NodeLayers.{Leaf_P, Leaf_Q, P_Q, Q_Q, leaves_Leaf, leaves_Q, all_leaves_nil, all_leaves_cons, all_leaves_one}
use Rattle.cp_force.specs.Forced.{forced_node}
use Rattle.cp_pq.proofs.NodeTests.{below_Leaf, below_Q, branching_Leaf, branching_Q}

-- equal lists are permutations
pub permuted_same : (xs ys : List ℕ) → xs ≡ ys → IsPermutation xs ys
permuted_same xs ys e = subst (IsPermutation xs) e (IsPermutation-refl xs)

-- the leaves of a row of leaves
pub leaves_of_row : (xs : List ℕ) → all_leaves (map Leaf xs) ≡ xs
leaves_of_row [] = all_leaves_nil
leaves_of_row (x ∷ xs) =
    all_leaves_cons (Leaf x) (map Leaf xs) ∙ ap₂ (λ a b. a ++ b) (leaves_Leaf x) (leaves_of_row xs)

-- leaves branch
row_branches : (xs : List ℕ) → list_all is_branching (map Leaf xs) ≡ true
row_branches [] = refl
row_branches (x ∷ xs) = ap₂ (λ a b. a && b) (branching_Leaf x) (row_branches xs)

-- leaves have no vars
row_below : (vars : ℕ) (xs : List ℕ) → list_all (has_vars_below vars) (map Leaf xs) ≡ true
row_below vars [] = refl
row_below vars (x ∷ xs) = ap₂ (λ a b. a && b) (below_Leaf vars x) (row_below vars xs)

-- a kid in a row of leaves is a leaf
kid_is_leaf : (xs : List ℕ) (k : Node) (before after : List Node) → map Leaf xs ≡ before ++ k ∷ after
    → (x : ℕ) × (k ≡ Leaf x)
kid_is_leaf [] k [] after e = absurd cc
kid_is_leaf [] k (b ∷ before) after e = absurd cc
kid_is_leaf (x ∷ xs) k [] after e = let h : k ≡ Leaf x = cc in (x, h)
kid_is_leaf (x ∷ xs) k (b ∷ before) after e =
    let tail : map Leaf xs ≡ before ++ k ∷ after = cc in kid_is_leaf xs k before after tail

-- what is in a leaf is the leaf
in_leaf : (m n : Node) (x : ℕ) → IsIn m n → n ≡ Leaf x → m ≡ Leaf x
in_leaf m _ x itself e = e
in_leaf m _ x (under_P o ks k kid i) e = absurd (Leaf_P x o ks (sym e))
in_leaf m _ x (under_Q v ks k kid i) e = absurd (Leaf_Q x v ks (sym e))

-- what is in a Q-node is the node or in its row
in_Q : (m n : Node) (v : ℕ) (js : List Node) → IsIn m n → n ≡ Q v js → (m ≡ Q v js) ⊎ IsInRow m js
in_Q m _ v js itself e = inl e
in_Q m _ v js (under_P o ks k kid i) e = absurd (P_Q o v ks js e)
in_Q m _ v js (under_Q w ks k kid i) e = inr (k, subst (IsKid k) (Q_Q w v ks js e).1 kid, i)

-- no P-node is in a row of leaves
no_P_in_row : (xs : List ℕ) (o : ℕ) (ks : List Node) → IsInRow (P o ks) (map Leaf xs) → ⊥
no_P_in_row xs o ks (k, kid, i) =
    let h = kid_is_leaf xs k kid.0 kid.1 kid.2 in Leaf_P h.0 o ks (sym (in_leaf (P o ks) k h.0 i h.1))

-- no P-node is in the node that is put in
no_P_in_node : (var : ℕ) (xs : List ℕ) (o : ℕ) (ks : List Node) → IsIn (P o ks) (forced_node var xs) → ⊥
no_P_in_node var (x ∷ []) o ks i = Leaf_P x o ks (sym (in_leaf (P o ks) (Leaf x) x i refl))
no_P_in_node var [] o ks i =
    ⊎_elim (λ e. P_Q o var ks [] e) (λ h. no_P_in_row [] o ks h) (in_Q (P o ks) (Q var []) var [] i refl)
no_P_in_node var (x ∷ y ∷ xs) o ks i =
    let js = map Leaf (x ∷ y ∷ xs) in
    ⊎_elim (λ e. P_Q o var ks js e) (λ h. no_P_in_row (x ∷ y ∷ xs) o ks h) (in_Q (P o ks) (Q var js) var js i refl)

-- the kid of a row of one node
pub kid_one : (j k : Node) (before after : List Node) → j ∷ [] ≡ before ++ k ∷ after → k ≡ j
kid_one j k [] after e = cc
kid_one j k (b ∷ []) after e = absurd cc
kid_one j k (b ∷ c ∷ before) after e = absurd cc

-- what a row of leaves keeps of a part with these leaves
pub row_keeps : (V : ℕ → Type 0) (ks : List Node) (xs : List ℕ) → IsPermutation (all_leaves ks) xs
    → Keeps V ks (map Leaf xs)
row_keeps V ks xs perm = record {
  leaves_kept = IsPermutation-trans (all_leaves ks) xs (all_leaves (map Leaf xs)) perm
      (permuted_same xs (all_leaves (map Leaf xs)) (sym (leaves_of_row xs)));
  branching = λ h. row_branches xs;
  vars_below = λ vars v h. row_below vars xs;
  owners = λ d o kids is. absurd (no_P_in_row xs o kids is);
}

-- the leaves of the node that is put in
node_leaves : (var : ℕ) (xs : List ℕ) → leaves (forced_node var xs) ≡ xs
node_leaves var [] = leaves_Q var [] ∙ all_leaves_nil
node_leaves var (x ∷ []) = leaves_Leaf x
node_leaves var (x ∷ y ∷ xs) = leaves_Q var (map Leaf (x ∷ y ∷ xs)) ∙ leaves_of_row (x ∷ y ∷ xs)

-- it branches
node_branches : (var : ℕ) (xs : List ℕ) → xs ≢ [] → is_branching (forced_node var xs) ≡ true
node_branches var [] some = absurd (some refl)
node_branches var (x ∷ []) some = branching_Leaf x
node_branches var (x ∷ y ∷ xs) some =
    let long = length-map (x ∷ y ∷ xs) Leaf in
    branching_Q var (map Leaf (x ∷ y ∷ xs))
    ∙ ap₂ (λ a b. a && b) (lt-ltb 1 (length (map Leaf (x ∷ y ∷ xs))) (omega (arith, long))) (row_branches (x ∷ y ∷ xs))

-- its var is the given one
node_below : (var : ℕ) (xs : List ℕ) (vars : ℕ) → var < vars → has_vars_below vars (forced_node var xs) ≡ true
node_below var [] vars lt = below_Q vars var [] ∙ ap (λ a. a && true) (lt-ltb var vars lt)
node_below var (x ∷ []) vars lt = below_Leaf vars x
node_below var (x ∷ y ∷ xs) vars lt =
    below_Q vars var (map Leaf (x ∷ y ∷ xs))
    ∙ ap₂ (λ a b. a && b) (lt-ltb var vars lt) (row_below vars (x ∷ y ∷ xs))

-- what the node that is put in keeps of a node with these leaves
pub node_keeps : (k : Node) (var : ℕ) (xs : List ℕ) → xs ≢ [] → IsPermutation (leaves k) xs
    → Keeps (λ vars. var < vars) (k ∷ []) (forced_node var xs ∷ [])
node_keeps k var xs some perm = record {
  leaves_kept = IsPermutation-trans (all_leaves (k ∷ [])) (leaves k) (all_leaves (forced_node var xs ∷ []))
      (permuted_same (all_leaves (k ∷ [])) (leaves k) (all_leaves_one k))
      (IsPermutation-trans (leaves k) xs (all_leaves (forced_node var xs ∷ [])) perm
      (permuted_same xs (all_leaves (forced_node var xs ∷ []))
      (sym (node_leaves var xs) ∙ sym (all_leaves_one (forced_node var xs)))));
  branching = λ h. ap (λ a. a && true) (node_branches var xs some);
  vars_below = λ vars lt h. ap (λ a. a && true) (node_below var xs vars lt);
  owners = λ d o kids is.
      absurd (no_P_in_node var xs o kids
      (subst (IsIn (P o kids)) (kid_one (forced_node var xs) is.0 is.1.0 is.1.1 is.1.2) is.2));
}

-- owners kept by rows of one node are kept by the nodes
pub owners_of_one : (V : ℕ → Type 0) (n m : Node) → Keeps V (n ∷ []) (m ∷ []) → Distinct (leaves n) → KeepsOwners n m
owners_of_one V n m k d owner kids is =
    let h = k.owners (subst Distinct (sym (all_leaves_one n)) d) owner kids (m, ([], [], refl), is) in
    (h.0, subst (IsIn (P owner h.0)) (kid_one n h.1.0 h.1.1.0 h.1.1.1 h.1.1.2) h.1.2, h.2)
