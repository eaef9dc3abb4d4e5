-- Kids of a row, and nodes that stand in nodes.
use Rattle.std.proofs.Common.{◌≡◌, ℕ, ◌⊎◌, List, [], ◌∷◌, ◌++◌, inl, inr, ⊎_elim, refl, sym, ap, ◌∙◌, subst, append_assoc, IsPermutation}
use Rattle.cp_lists.specs.CyclicLists.{Has}
use Rattle.cp_lists.proofs.DistinctLists.{Has-append_left, Has-append_right}
use Rattle.cp_pq.specs.declared.node.Node.{Node}
use Rattle.cp_pq.specs.declared.node.Node.TheVariants.{P, Q}
use Rattle.cp_pq.specs.Nodes.{leaves, all_leaves, IsKid, IsIn, itself, under_P, under_Q}
use Rattle.cp_pq.specs.Keeping.{IsInRow}
use Rattle.cp_pq.proofs.NodeLayers.{P_P, Q_Q, P_Q, all_leaves_cons, all_leaves_append}
use Rattle.cp_pq.proofs.Tops.{find_in}

-- a kid of the first part is one of the row
pub kid_append_left : (k : Node) (a b : List Node) → IsKid k a → IsKid k (a ++ b)
kid_append_left k a b h = (h.0, h.1 ++ b, ap (λ z. z ++ b) h.2 ∙ append_assoc h.0 (k ∷ h.1) b)

-- a kid of the second part is one of the row
pub kid_append_right : (k : Node) (a b : List Node) → IsKid k b → IsKid k (a ++ b)
kid_append_right k a b h = (a ++ h.0, h.1, ap (λ z. a ++ z) h.2 ∙ sym (append_assoc a h.0 (k ∷ h.1)))

-- a kid is the first one or one of the others
pub kid_cons : (k x : Node) (xs : List Node) → IsKid k (x ∷ xs) → (x ≡ k) ⊎ IsKid k xs
kid_cons k x xs h = go h.0 h.1 h.2
  where
    go : (before after : List Node) → x ∷ xs ≡ before ++ k ∷ after → (x ≡ k) ⊎ IsKid k xs
    go [] after e = let f : x ≡ k = cc in inl f
    go (y ∷ before) after e = let f : xs ≡ before ++ k ∷ after = cc in inr (before, after, f)

-- a kid of a row is one of its parts
pub kid_cases : (k : Node) (a b : List Node) → IsKid k (a ++ b) → IsKid k a ⊎ IsKid k b
kid_cases k [] b h = inr h
kid_cases k (x ∷ a) b h =
    ⊎_elim
    (λ e. inl ([], a, ap (λ z. z ∷ a) e))
    (λ g. ⊎_elim (λ f. inl (x ∷ f.0, f.1, ap (λ z. x ∷ z) f.2)) inr (kid_cases k a b g))
    (kid_cons k x (a ++ b) h)

-- no kid is one of an empty row
pub kid_nil : (k : Node) → IsKid k [] → ⊥
kid_nil k h = go h.0 h.1 h.2
  where
    go : (before after : List Node) → [] ≡ before ++ k ∷ after → ⊥
    go [] after e = cc
    go (y ∷ before) after e = cc

-- the one kid
pub kid_one : (k m : Node) → IsKid k (m ∷ []) → m ≡ k
kid_one k m h = ⊎_elim (λ e. e) (λ g. absurd (kid_nil k g)) (kid_cons k m [] h)

-- a permutation has the same kids
pub kid_permuted : (k : Node) (xs ys : List Node) → IsPermutation xs ys → IsKid k xs → IsKid k ys
kid_permuted k xs ys p h = let f = find_in xs ys p k h.0 h.1 h.2 in (f.before, f.after, f.is)

-- a leaf of a kid is one of the row
pub kid_leaf : (x : ℕ) (k : Node) (ks : List Node) → IsKid k ks → Has x (leaves k) → Has x (all_leaves ks)
kid_leaf x k ks h l =
    subst (Has x) (sym (ap all_leaves h.2 ∙ all_leaves_append h.0 (k ∷ h.1) ∙ ap (λ z. all_leaves h.0 ++ z) (all_leaves_cons k h.1)))
    (Has-append_right x (all_leaves h.0) (leaves k ++ all_leaves h.1) (Has-append_left x (leaves k) (all_leaves h.1) l))

-- a node in an inner node is this node or stands in one of its kids
in_P_at : (m n : Node) → IsIn m n → (o : ℕ) (ks : List Node) → n ≡ P o ks → (m ≡ P o ks) ⊎ IsInRow m ks
in_P_at m _ itself o ks e = inl e
in_P_at m _ (under_P b js k kid h) o ks e = inr (k, subst (IsKid k) (P_P b o js ks e).1 kid, h)
in_P_at m _ (under_Q v js k kid h) o ks e = absurd (P_Q o v ks js (sym e))

-- a node in a P-node is this or stands in one of its kids
pub in_P : (m : Node) (o : ℕ) (ks : List Node) → IsIn m (P o ks) → (m ≡ P o ks) ⊎ IsInRow m ks
in_P m o ks h = in_P_at m (P o ks) h o ks refl

-- a node in what is a Q-node is this or stands in one of its kids
in_Q_at : (m n : Node) → IsIn m n → (v : ℕ) (ks : List Node) → n ≡ Q v ks → (m ≡ Q v ks) ⊎ IsInRow m ks
in_Q_at m _ itself v ks e = inl e
in_Q_at m _ (under_P b js k kid h) v ks e = absurd (P_Q b v js ks e)
in_Q_at m _ (under_Q w js k kid h) v ks e = inr (k, subst (IsKid k) (Q_Q w v js ks e).1 kid, h)

-- a node in a Q-node is this or stands in one of its kids
pub in_Q : (m : Node) (v : ℕ) (ks : List Node) → IsIn m (Q v ks) → (m ≡ Q v ks) ⊎ IsInRow m ks
in_Q m v ks h = in_Q_at m (Q v ks) h v ks refl

-- a row of one node
pub in_row_one : (m k : Node) → IsInRow m (k ∷ []) → IsIn m k
in_row_one m k h = subst (IsIn m) (sym (kid_one h.0 k h.1)) h.2

-- a node in a node stands in the row of this one
pub one_in_row : (m k : Node) → IsIn m k → IsInRow m (k ∷ [])
one_in_row m k h = (k, ([], [], refl), h)

-- what stands in a row stands in one of its parts
pub in_row_cases : (m : Node) (a b : List Node) → IsInRow m (a ++ b) → IsInRow m a ⊎ IsInRow m b
in_row_cases m a b h = ⊎_elim (λ k. inl (h.0, k, h.2)) (λ k. inr (h.0, k, h.2)) (kid_cases h.0 a b h.1)

-- a node in a row stands in it with another row behind
pub in_row_left : (m : Node) (a b : List Node) → IsInRow m a → IsInRow m (a ++ b)
in_row_left m a b h = (h.0, kid_append_left h.0 a b h.1, h.2)

-- and with another row before
pub in_row_right : (m : Node) (a b : List Node) → IsInRow m b → IsInRow m (a ++ b)
in_row_right m a b h = (h.0, kid_append_right h.0 a b h.1, h.2)

-- a node in a row stands in it in any order
pub in_row_permuted : (m : Node) (a b : List Node) → IsPermutation a b → IsInRow m a → IsInRow m b
in_row_permuted m a b p h = (h.0, kid_permuted h.0 a b p h.1, h.2)

-- what stands in the kids stands in the node
pub in_row_P : (m : Node) (o : ℕ) (ks : List Node) → IsInRow m ks → IsInRow m (P o ks ∷ [])
in_row_P m o ks h = one_in_row m (P o ks) (under_P o ks h.0 h.1 h.2)

-- a node in the kids of a Q-node stands in the row of the Q-node
pub in_row_Q : (m : Node) (v : ℕ) (ks : List Node) → IsInRow m ks → IsInRow m (Q v ks ∷ [])
in_row_Q m v ks h = one_in_row m (Q v ks) (under_Q v ks h.0 h.1 h.2)
