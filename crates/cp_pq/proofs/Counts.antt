-- Counts of leaves inside.
use Rattle.std.proofs.Common.{◌≡◌, ℕ, zero, suc, ◌+◌, ◌<◌, ◌≤◌, Bool, true, false, cond, not, ◌&&◌, ◌⊎◌, List, [], ◌∷◌, ◌++◌, length, length-append, filter, take, get_or, inl, inr, ⊎_elim, refl, sym, ap, ◌∙◌, subst, arith}
use Rattle.std.specs.List.{list_all}
use Rattle.std.proofs.lemmas.List.Elements.{filter-append}
use Rattle.cp_pq.specs.declared.node.Node.{Node}
use Rattle.cp_pq.specs.declared.node.Node.TheVariants.{Leaf, P, Q}
use Rattle.cp_pq.specs.Nodes.{leaves, all_leaves}
use Rattle.cp_pq.specs.Steps.{count_in, count_all}
use Rattle.cp_pq.specs.declared.frame.Label.{Label}
use Rattle.std.specs.Prelude.{nat_lt}
use Rattle.std.proofs.lemmas.Bool.{false≢true, true≢false, cases_Bool, and_parts, ltb-true}
use Rattle.cp_pq.specs.Words.{Opposite, has_all, is_met}
use Rattle.cp_pq.specs.Frames.{node_of}
use Rattle.cp_pq.proofs.NodeLayers.{leaves_Leaf, leaves_P, leaves_Q, all_leaves_cons, all_leaves_append, all_leaves_nil}
use Rattle.cp_pq.proofs.Rows.{row_all}
use Rattle.cp_pq.proofs.Closes.{has_all_P, has_all_Q}

-- a leaf holds one leaf of the set where it is inside, and none otherwise
pub count_Leaf : (p : ℕ → Bool) (x : ℕ) (b : Bool) → p x ≡ b → count_in p (Leaf x) ≡ cond b 1 0
unfolding count_in
count_Leaf p x b e = ap (λ z. length (filter p z)) (leaves_Leaf x) ∙ ap (λ c. length (cond c (x ∷ []) [])) e ∙ go b
  where
    go : (b : Bool) → length (cond b (x ∷ []) []) ≡ cond b 1 0
    go true = refl
    go false = refl

-- a row holds what its first node holds and what the others hold
pub count_cons : (p : ℕ → Bool) (k : Node) (ks : List Node) → count_all p (k ∷ ks) ≡ count_in p k + count_all p ks
unfolding count_in count_all
count_cons p k ks = ap (λ z. length (filter p z)) (all_leaves_cons k ks) ∙ ap length (filter-append p (leaves k) (all_leaves ks)) ∙ length-append (filter p (leaves k)) (filter p (all_leaves ks))

-- a P-node holds what its kids hold
pub count_P_at : (p : ℕ → Bool) (n : Node) (o : ℕ) (ks : List Node) → n ≡ P o ks → count_in p n ≡ count_all p ks
unfolding count_in count_all
count_P_at p n o ks e = ap (λ z. length (filter p (leaves z))) e ∙ ap (λ z. length (filter p z)) (leaves_P o ks)

-- and so does a Q-node
pub count_Q_at : (p : ℕ → Bool) (n : Node) (o : ℕ) (ks : List Node) → n ≡ Q o ks → count_in p n ≡ count_all p ks
unfolding count_in count_all
count_Q_at p n o ks e = ap (λ z. length (filter p (leaves z))) e ∙ ap (λ z. length (filter p z)) (leaves_Q o ks)

-- a kid of a row holds no more than the row
pub count_at : (p : ℕ → Bool) (ks : List Node) (i : ℕ) (d : Node) → i < length ks
    → count_in p (get_or ks i d) ≤ count_all p ks
count_at p [] i d lt = absurd (omega arith)
count_at p (k ∷ ks) zero d lt = let e = count_cons p k ks in omega arith
count_at p (k ∷ ks) (suc i) d lt = let e = count_cons p k ks in let h = count_at p ks i d (omega arith) in omega arith

-- kids without a leaf inside are outside
pub none_inside : (q p : ℕ → Bool) → Opposite q p → (xs : List ℕ) → length (filter p xs) ≡ 0 → list_all q xs ≡ true
none_inside q p opp [] = λ h. refl
none_inside q p opp (x ∷ xs) = go (q x) (p x) (opp x) (none_inside q p opp xs)
  where
    go : (a b : Bool) → a ≡ not b → (length (filter p xs) ≡ 0 → list_all q xs ≡ true)
        → length (cond b (x ∷ filter p xs) (filter p xs)) ≡ 0 → (a && list_all q xs) ≡ true
    go true true e ih h = absurd (true≢false e)
    go true false e ih h = ih h
    go false true e ih h = absurd (omega arith)
    go false false e ih h = absurd (false≢true e)

-- a row that holds no leaf of the set is outside
pub none_outs : (q p : ℕ → Bool) → Opposite q p → (ks : List Node) → count_all p ks ≡ 0 → list_all (has_all q) ks ≡ true
unfolding count_all
none_outs q p opp ks h = sym (row_all q ks) ∙ none_inside q p opp (all_leaves ks) h

-- two rows hold together what each of them holds
pub count_append : (p : ℕ → Bool) (ks js : List Node) → count_all p (ks ++ js) ≡ count_all p ks + count_all p js
unfolding count_all
count_append p ks js = ap (λ z. length (filter p z)) (all_leaves_append ks js) ∙ ap length (filter-append p (all_leaves ks) (all_leaves js)) ∙ length-append (filter p (all_leaves ks)) (filter p (all_leaves js))

-- beside a kid that holds the whole set the others are outside
pub others_out : (q p : ℕ → Bool) → Opposite q p → (a b : List Node) (k : Node) (total : ℕ) → count_in p k ≡ total
    → count_all p (a ++ k ∷ b) ≤ total → (list_all (has_all q) a ≡ true) × (list_all (has_all q) b ≡ true)
others_out q p opp a b k total e le =
    let x = count_append p a (k ∷ b) in let y = count_cons p k b in
    (none_outs q p opp a (omega arith), none_outs q p opp b (omega arith))

-- the count of an inner node is that of its kids, and its leaves pass a test where those of its kids do
pub count_node : (p : ℕ → Bool) (label : Label) (ks : List Node) → count_in p (node_of label ks) ≡ count_all p ks
count_node p (Label.P o) ks = count_P_at p (P o ks) o ks refl
count_node p (Label.Q v) ks = count_Q_at p (Q v ks) v ks refl

-- an inner node passes a test of leaves where all its kids do
pub has_all_node : (p : ℕ → Bool) (label : Label) (ks : List Node)
    → has_all p (node_of label ks) ≡ list_all (has_all p) ks
has_all_node p (Label.P o) ks = has_all_P p o ks
has_all_node p (Label.Q v) ks = has_all_Q p v ks

-- the empty row holds nothing
pub count_nil : (p : ℕ → Bool) → count_all p [] ≡ 0
unfolding count_all
count_nil p = ap (λ z. length (filter p z)) all_leaves_nil

-- a row with one node more holds what this node holds besides
pub count_push : (p : ℕ → Bool) (ks : List Node) (k : Node) → count_all p (ks ++ k ∷ []) ≡ count_all p ks + count_in p k
count_push p ks k = let a = count_append p ks (k ∷ []) in let b = count_cons p k [] in let c = count_nil p in omega (arith, a, b, c)

-- a word outside has no leaf inside
none_of_out : (q p : ℕ → Bool) → Opposite q p → (xs : List ℕ) → list_all q xs ≡ true → length (filter p xs) ≡ 0
none_of_out q p opp [] = λ g. refl
none_of_out q p opp (x ∷ xs) = go (q x) (p x) (opp x) (none_of_out q p opp xs)
  where
    go : (a b : Bool) → a ≡ not b → (list_all q xs ≡ true → length (filter p xs) ≡ 0) → (a && list_all q xs) ≡ true
        → length (cond b (x ∷ filter p xs) (filter p xs)) ≡ 0
    go true true e ih h = absurd (true≢false e)
    go true false e ih h = ih h
    go false b e ih h = absurd (false≢true h)

-- a node outside has no leaf inside
pub out_count : (q p : ℕ → Bool) → Opposite q p → (k : Node) → has_all q k ≡ true → count_in p k ≡ 0
unfolding count_in has_all
out_count q p opp k h = none_of_out q p opp (leaves k) h

-- a row with a count as large as the whole, no node of which has it, has two nodes that meet the set
module _ (q p : ℕ → Bool) (opp : Opposite q p) (total : ℕ) (pos : 0 < total) where
  -- a row in which no node meets the set holds nothing of it
  met_none : (ks : List Node) → length (filter (is_met q) ks) ≡ 0 → count_all p ks ≡ 0
  met_none [] e = count_nil p
  met_none (k ∷ ks) e =
      ⊎_elim
      (λ out. let a = count_cons p k ks in let b = out_count q p opp k out in
      let c = met_none ks (sym (ap (λ x. length (cond (not x) (k ∷ filter (is_met q) ks) (filter (is_met q) ks))) out) ∙ e) in omega arith)
      (λ out. let z : length (k ∷ filter (is_met q) ks) ≡ 0 = sym (ap (λ x. length (cond (not x) (k ∷ filter (is_met q) ks) (filter (is_met q) ks))) out) ∙ e in absurd (omega arith))
      (cases_Bool (has_all q k))

  -- a row in which one node at most meets the set, and none holds it whole, does not hold it whole
  met_one : (ks : List Node) → list_all (λ k. nat_lt (count_in p k) total) ks ≡ true → length (filter (is_met q) ks) ≤ 1
      → count_all p ks < total
  met_one [] below le = let e = met_none [] refl in omega arith
  met_one (k ∷ ks) below le =
      let a = count_cons p k ks in
      let g = and_parts (nat_lt (count_in p k) total) (list_all (λ k. nat_lt (count_in p k) total) ks) below in
      ⊎_elim
      (λ out. let b = out_count q p opp k out in
      let c = met_one ks g.1 (subst (λ z. z ≤ 1) (ap (λ x. length (cond (not x) (k ∷ filter (is_met q) ks) (filter (is_met q) ks))) out) le) in omega arith)
      (λ out. let z : length (k ∷ filter (is_met q) ks) ≤ 1 = subst (λ z. z ≤ 1) (ap (λ x. length (cond (not x) (k ∷ filter (is_met q) ks) (filter (is_met q) ks))) out) le in
      let b = met_none ks (omega arith) in let lt = ltb-true (count_in p k) total g.0 in omega arith)
      (cases_Bool (has_all q k))

  -- so where the row does, at least two of its nodes meet the set
  pub two_met : (ks : List Node) → list_all (λ k. nat_lt (count_in p k) total) ks ≡ true → total ≤ count_all p ks
      → 2 ≤ length (filter (is_met q) ks)
  two_met ks below le = ⊎_elim (λ lt. let h = met_one ks below lt in absurd (omega arith)) (λ ge. ge) (few_or_two (length (filter (is_met q) ks)))
    where
      few_or_two : (n : ℕ) → (n ≤ 1) ⊎ (2 ≤ n)
      few_or_two zero = inl (omega arith)
      few_or_two (suc zero) = inl (omega arith)
      few_or_two (suc (suc n)) = inr (omega arith)

-- the first nodes of a row hold no more
pub count_take : (p : ℕ → Bool) (ks : List Node) (i : ℕ) → count_all p (take i ks) ≤ count_all p ks
count_take p [] zero = omega arith
count_take p [] (suc i) = omega arith
count_take p (k ∷ ks) zero = let a = count_nil p in omega (arith, a)
count_take p (k ∷ ks) (suc i) = let a = count_cons p k ks in let b = count_cons p k (take i ks) in let c = count_take p ks i in omega (arith, a, b, c)
