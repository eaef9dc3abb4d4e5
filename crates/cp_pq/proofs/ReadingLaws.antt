-- Readings cut and joined, their leaves, and wider licences.
use Rattle.std.proofs.Common.{◌≡◌, ℕ, Bool, true, false, ◌⊎◌, List, [], ◌∷◌, ◌++◌, reverse, refl, sym, ap, ◌∙◌, subst, inl, inr, append_assoc, append-nil, IsPermutation}
use Rattle.std.proofs.lemmas.List.Sorted.{IsPermutation-trans, IsPermutation-append, IsPermutation-reverse}
use Rattle.cp_pq.specs.declared.node.Node.{Node}
use Rattle.cp_pq.specs.declared.node.Node.TheVariants.{P, Q}
use Rattle.cp_pq.specs.Nodes.{leaves, all_leaves}
use Rattle.cp_pq.specs.Readings.{Reads, ReadsAll, leaf, any_order, forward, backward, none, more}
use Rattle.cp_pq.specs.Changes.{Wider}
use Rattle.cp_pq.proofs.NodeLayers.{P_P, Q_Q, P_Q, Leaf_P, Leaf_Q, leaves_Leaf, leaves_P, leaves_Q, all_leaves_nil, all_leaves_cons}
use Rattle.cp_pq.proofs.Permutations.{IsPermutation-same, IsPermutation-flat_map}

module _ (may : ℕ → Bool → Bool) where
  -- a row that is empty reads nothing
  ReadsAll_nil_at : (ks : List Node) (xs : List ℕ) → ReadsAll may ks xs → ks ≡ [] → xs ≡ []
  ReadsAll_nil_at _ _ none e = refl
  ReadsAll_nil_at _ _ (more k ks xs ys a b) e = let h : k ∷ ks ≡ [] = e in absurd cc

  -- the empty row reads the empty word alone
  pub ReadsAll_nil : (xs : List ℕ) → ReadsAll may [] xs → xs ≡ []
  ReadsAll_nil xs r = ReadsAll_nil_at [] xs r refl

  -- a row that is a first node and others reads one reading of the first, then one of the others
  ReadsAll_cons_at : (js : List Node) (zs : List ℕ) → ReadsAll may js zs → (k : Node) (ks : List Node) → js ≡ k ∷ ks
      → (u v : List ℕ) × (zs ≡ u ++ v) × Reads may k u × ReadsAll may ks v
  ReadsAll_cons_at _ _ none k ks e = absurd cc
  ReadsAll_cons_at _ _ (more j js xs ys a b) k ks e =
      let h : j ≡ k = cc in let t : js ≡ ks = cc in
      (xs, ys, refl, subst (λ z. Reads may z xs) h a, subst (λ z. ReadsAll may z ys) t b)

  -- a first node and others read one reading of the first, then one of the others
  pub ReadsAll_cons : (k : Node) (ks : List Node) (zs : List ℕ) → ReadsAll may (k ∷ ks) zs
      → (u v : List ℕ) × (zs ≡ u ++ v) × Reads may k u × ReadsAll may ks v
  ReadsAll_cons k ks zs r = ReadsAll_cons_at (k ∷ ks) zs r k ks refl

  -- a row of one node reads what the node reads
  pub ReadsAll_one : (k : Node) (xs : List ℕ) → ReadsAll may (k ∷ []) xs → Reads may k xs
  ReadsAll_one k xs r =
      let h = ReadsAll_cons k [] xs r in
      let e : h.0 ≡ xs = sym (append-nil h.0) ∙ ap (λ z. h.0 ++ z) (sym (ReadsAll_nil h.1 h.4)) ∙ sym h.2 in
      subst (Reads may k) e h.3

  -- and the node what the row of it reads
  pub one_ReadsAll : (k : Node) (xs : List ℕ) → Reads may k xs → ReadsAll may (k ∷ []) xs
  one_ReadsAll k xs r = subst (ReadsAll may (k ∷ [])) (append-nil xs) (more k [] xs [] r none)

  -- two rows read one reading of each, one behind the other
  pub ReadsAll_join : (ks js : List Node) (xs ys : List ℕ) → ReadsAll may ks xs → ReadsAll may js ys
      → ReadsAll may (ks ++ js) (xs ++ ys)
  ReadsAll_join [] js xs ys a b = subst (λ z. ReadsAll may js (z ++ ys)) (sym (ReadsAll_nil xs a)) b
  ReadsAll_join (k ∷ ks) js xs ys a b =
      let h = ReadsAll_cons k ks xs a in
      subst (ReadsAll may (k ∷ (ks ++ js))) (sym (append_assoc h.0 h.1 ys) ∙ ap (λ z. z ++ ys) (sym h.2)) (more k (ks ++ js) h.0 (h.1 ++ ys) h.3 (ReadsAll_join ks js h.1 ys h.4 b))

  -- and nothing else
  pub ReadsAll_cut : (ks js : List Node) (zs : List ℕ) → ReadsAll may (ks ++ js) zs
      → (u v : List ℕ) × (zs ≡ u ++ v) × ReadsAll may ks u × ReadsAll may js v
  ReadsAll_cut [] js zs r = ([], zs, refl, none, r)
  ReadsAll_cut (k ∷ ks) js zs r =
      let h = ReadsAll_cons k (ks ++ js) zs r in
      let g = ReadsAll_cut ks js h.1 h.4 in
      (h.0 ++ g.0, g.1, h.2 ∙ ap (λ z. h.0 ++ z) g.2 ∙ sym (append_assoc h.0 g.0 g.1), more k ks h.0 g.0 h.3 g.3, g.4)

  -- a node that is a P-node reads what its kids read in some order
  Reads_P_at : (n : Node) (xs : List ℕ) → Reads may n xs → (o : ℕ) (ks : List Node) → n ≡ P o ks
      → (turn : List Node) × IsPermutation ks turn × ReadsAll may turn xs
  Reads_P_at _ _ (leaf x) o ks e = absurd (Leaf_P x o ks e)
  Reads_P_at _ _ (any_order b js turn xs p all) o ks e = (turn, subst (λ z. IsPermutation z turn) (P_P b o js ks e).1 p, all)
  Reads_P_at _ _ (forward v js xs m all) o ks e = absurd (P_Q o v ks js (sym e))
  Reads_P_at _ _ (backward v js xs m all) o ks e = absurd (P_Q o v ks js (sym e))

  -- a P-node reads what its kids read in some order
  pub Reads_P : (o : ℕ) (ks : List Node) (xs : List ℕ) → Reads may (P o ks) xs
      → (turn : List Node) × IsPermutation ks turn × ReadsAll may turn xs
  Reads_P o ks xs r = Reads_P_at (P o ks) xs r o ks refl

  -- a node that is a Q-node reads its kids in the given or the reverse order, as its var may have the bit
  Reads_Q_at : (n : Node) (xs : List ℕ) → Reads may n xs → (o : ℕ) (ks : List Node) → n ≡ Q o ks
      → ((may o false ≡ true) × ReadsAll may ks xs) ⊎ ((may o true ≡ true) × ReadsAll may (reverse ks) xs)
  Reads_Q_at _ _ (leaf x) o ks e = absurd (Leaf_Q x o ks e)
  Reads_Q_at _ _ (any_order b js turn xs p all) o ks e = absurd (P_Q b o js ks e)
  Reads_Q_at _ _ (forward v js xs m all) o ks e = let h = Q_Q v o js ks e in inl (subst (λ z. may z false ≡ true) h.0 m, subst (λ z. ReadsAll may z xs) h.1 all)
  Reads_Q_at _ _ (backward v js xs m all) o ks e = let h = Q_Q v o js ks e in inr (subst (λ z. may z true ≡ true) h.0 m, subst (λ z. ReadsAll may (reverse z) xs) h.1 all)

  -- a Q-node reads its kids in the given or the reverse order, as its var may have the bit
  pub Reads_Q : (o : ℕ) (ks : List Node) (xs : List ℕ) → Reads may (Q o ks) xs
      → ((may o false ≡ true) × ReadsAll may ks xs) ⊎ ((may o true ≡ true) × ReadsAll may (reverse ks) xs)
  Reads_Q o ks xs r = Reads_Q_at (Q o ks) xs r o ks refl

-- a row in another order has the same leaves in another order
pub IsPermutation-all_leaves : (ks js : List Node) → IsPermutation ks js → IsPermutation (all_leaves ks) (all_leaves js)
unfolding all_leaves
IsPermutation-all_leaves ks js p = IsPermutation-flat_map leaves ks js p

mutual
  -- a reading of a node has the leaves of the node, each as often
  pub read_leaves : (may : ℕ → Bool → Bool) (n : Node) (xs : List ℕ) → Reads may n xs → IsPermutation (leaves n) xs
  read_leaves may _ _ (leaf x) = IsPermutation-same _ _ (leaves_Leaf x)
  read_leaves may _ _ (any_order o ks turn xs p all) = IsPermutation-trans _ _ _ (IsPermutation-same _ _ (leaves_P o ks)) (IsPermutation-trans _ _ _ (IsPermutation-all_leaves ks turn p) (read_all_leaves may turn xs all))
  read_leaves may _ _ (forward v ks xs m all) = IsPermutation-trans _ _ _ (IsPermutation-same _ _ (leaves_Q v ks)) (read_all_leaves may ks xs all)
  read_leaves may _ _ (backward v ks xs m all) = IsPermutation-trans _ _ _ (IsPermutation-same _ _ (leaves_Q v ks)) (IsPermutation-trans _ _ _ (IsPermutation-all_leaves ks (reverse ks) (IsPermutation-reverse ks)) (read_all_leaves may (reverse ks) xs all))

  -- and so for a row
  pub read_all_leaves : (may : ℕ → Bool → Bool) (ks : List Node) (xs : List ℕ) → ReadsAll may ks xs
      → IsPermutation (all_leaves ks) xs
  read_all_leaves may _ _ none = IsPermutation-same _ _ all_leaves_nil
  read_all_leaves may _ _ (more k ks xs ys a b) = IsPermutation-trans _ _ _ (IsPermutation-same _ _ (all_leaves_cons k ks)) (IsPermutation-append _ _ _ _ (read_leaves may k xs a) (read_all_leaves may ks ys b))

mutual
  -- a wider licence allows the readings of a node that a licence allows
  pub read_wider : (may wide : ℕ → Bool → Bool) → Wider may wide → (n : Node) (xs : List ℕ) → Reads may n xs
      → Reads wide n xs
  read_wider may wide w _ _ (leaf x) = leaf x
  read_wider may wide w _ _ (any_order o ks turn xs p all) = any_order o ks turn xs p (read_all_wider may wide w turn xs all)
  read_wider may wide w _ _ (forward v ks xs m all) = forward v ks xs (w v false m) (read_all_wider may wide w ks xs all)
  read_wider may wide w _ _ (backward v ks xs m all) = backward v ks xs (w v true m) (read_all_wider may wide w (reverse ks) xs all)

  -- and so for a row
  pub read_all_wider : (may wide : ℕ → Bool → Bool) → Wider may wide → (ks : List Node) (xs : List ℕ)
      → ReadsAll may ks xs → ReadsAll wide ks xs
  read_all_wider may wide w _ _ none = none
  read_all_wider may wide w _ _ (more k ks xs ys a b) = more k ks xs ys (read_wider may wide w k xs a) (read_all_wider may wide w ks ys b)
