-- Rows that keep leaves, two kids, vars and owners: how rows are put together and nodes built from them.
use Rattle.std.proofs.Common.{◌≡◌, ℕ, ◌<◌, ◌≤◌, ◌⊎◌, Bool, true, List, [], ◌∷◌, ◌++◌, length, length-append, inl, inr, ⊎_elim, refl, sym, ap, ap₂, ◌∙◌, subst, subst₂, append_assoc, arith, IsPermutation}
use Rattle.std.specs.Prelude.{nat_lt}
use Rattle.std.specs.List.{list_all}
use Rattle.std.proofs.lemmas.Bool.{and_parts, and_from, lt-ltb}
use Rattle.std.proofs.lemmas.List.Folds.{list_all-append}
use Rattle.std.proofs.lemmas.List.Sorted.{IsPermutation-refl, IsPermutation-sym, IsPermutation-trans, IsPermutation-append, IsPermutation-append_comm}
use Rattle.cp_lists.specs.CyclicLists.{Distinct}
use Rattle.cp_lists.proofs.DistinctLists.{Distinct-append_left, Distinct-append_right}
use Rattle.cp_pq.specs.declared.node.Node.{Node}
use Rattle.cp_pq.specs.declared.node.Node.TheVariants.{P, Q}
use Rattle.cp_pq.specs.Nodes.{all_leaves, is_branching, has_vars_below, itself}
use Rattle.cp_pq.specs.Owners.{Fits}
use Rattle.cp_pq.specs.Words.{group_of}
use Rattle.cp_pq.specs.Keeping.{IsInRow, any_bound, Keeps}
use Rattle.cp_pq.proofs.NodeLayers.{P_P, P_Q, leaves_P, leaves_Q, all_leaves_one, all_leaves_append}
use Rattle.cp_pq.proofs.NodeTests.{all_one, below_P, below_Q, branching_P_parts, branching_Q_parts, branching_P_from, branching_Q_from}
use Rattle.cp_pq.proofs.Permutations.{IsPermutation-same, list_all-IsPermutation}
use Rattle.cp_pq.proofs.PermutedLists.{Distinct-IsPermutation}
use Rattle.cp_pq.proofs.ReadingLaws.{IsPermutation-all_leaves}
use Rattle.cp_pq.proofs.NodesIn.{in_P, in_Q, in_row_one, one_in_row, in_row_cases, in_row_left, in_row_right, in_row_permuted, in_row_P, in_row_Q}
use Rattle.cp_pq.proofs.FittingSides.{Fits_refl, Fits_trans, Fits_part, Fits_union}

-- the leaves of a row of one P-node or Q-node
row_P_leaves : (o : ℕ) (ks : List Node) → all_leaves (P o ks ∷ []) ≡ all_leaves ks
row_P_leaves o ks = all_leaves_one (P o ks) ∙ leaves_P o ks

-- a Q-node has the leaves of its kids
row_Q_leaves : (v : ℕ) (ks : List Node) → all_leaves (Q v ks ∷ []) ≡ all_leaves ks
row_Q_leaves v ks = all_leaves_one (Q v ks) ∙ leaves_Q v ks

-- the kids of a P-node with distinct leaves have distinct leaves
kids_distinct : (o : ℕ) (ks : List Node) → Distinct (all_leaves (P o ks ∷ [])) → Distinct (all_leaves ks)
kids_distinct o ks d = subst Distinct (row_P_leaves o ks) d

-- a P-node of a row of one P-node is this one or stands in its kids
owner_cases : (o ow : ℕ) (js ls : List Node) → IsInRow (P ow ls) (P o js ∷ [])
    → ((ow ≡ o) × (ls ≡ js)) ⊎ IsInRow (P ow ls) js
owner_cases o ow js ls h = ⊎_elim (λ e. inl (P_P ow o ls js e)) inr (in_P (P ow ls) o js (in_row_one (P ow ls) (P o js) h))

-- the P-node itself
own : (o : ℕ) (ks : List Node) (ow : ℕ) → ow ≡ o → IsInRow (P ow ks) (P o ks ∷ [])
own o ks ow e = subst (λ z. IsInRow (P z ks) (P o ks ∷ [])) (sym e) (one_in_row (P o ks) (P o ks) itself)

-- a grouped row has the leaves, the tests and the P-nodes of the row, and one more P-node at most
pub group_leaves : (o : ℕ) (e : List Node) → all_leaves (group_of o e) ≡ all_leaves e
group_leaves o [] = refl
group_leaves o (k ∷ []) = refl
group_leaves o (k ∷ j ∷ ks) = row_P_leaves o (k ∷ j ∷ ks)

-- the group of nodes whose inner nodes have two kids has such inner nodes
group_branching : (o : ℕ) (e : List Node) → list_all is_branching e ≡ true → list_all is_branching (group_of o e) ≡ true
group_branching o [] h = h
group_branching o (k ∷ []) h = h
group_branching o (k ∷ j ∷ ks) h = all_one is_branching (P o (k ∷ j ∷ ks)) ∙ branching_P_from o (k ∷ j ∷ ks) (omega arith) h

-- the group of nodes with vars below a number has vars below it
group_below : (o m : ℕ) (e : List Node) → list_all (has_vars_below m) e ≡ true
    → list_all (has_vars_below m) (group_of o e) ≡ true
group_below o m [] h = h
group_below o m (k ∷ []) h = h
group_below o m (k ∷ j ∷ ks) h = all_one (has_vars_below m) (P o (k ∷ j ∷ ks)) ∙ below_P m o (k ∷ j ∷ ks) ∙ h

-- a P-node in a group is its new node or stands in one of its nodes
group_owner : (o ow : ℕ) (e ls : List Node) → IsInRow (P ow ls) (group_of o e)
    → ((ow ≡ o) × (ls ≡ e)) ⊎ IsInRow (P ow ls) e
group_owner o ow [] ls h = inr h
group_owner o ow (k ∷ []) ls h = inr h
group_owner o ow (k ∷ j ∷ ks) ls h = owner_cases o ow (k ∷ j ∷ ks) ls h

-- a test that all nodes of two rows pass is passed by those of each
pub all_split : (f : Node → Bool) (a b : List Node) → list_all f (a ++ b) ≡ true
    → (list_all f a ≡ true) × (list_all f b ≡ true)
all_split f a b h = and_parts (list_all f a) (list_all f b) (sym (list_all-append f a b) ∙ h)

-- and the other way round
pub all_join : (f : Node → Bool) (a b : List Node) → list_all f a ≡ true → list_all f b ≡ true
    → list_all f (a ++ b) ≡ true
all_join f a b x y = list_all-append f a b ∙ and_from (list_all f a) (list_all f b) x y

module _ (V : ℕ → Type 0) where
  -- a row keeps all that it has
  pub Keeps_refl : (row : List Node) → Keeps V row row
  Keeps_refl row = record { leaves_kept = IsPermutation-refl _; branching = λ h. h; vars_below = λ m v h. h; owners = λ d o ks h. (ks, h, Fits_refl ks) }

  -- what is kept under each number of vars is kept under those that meet a condition
  pub Keeps_weaken : (a b : List Node) → Keeps any_bound a b → Keeps V a b
  Keeps_weaken a b k = record { leaves_kept = k.leaves_kept; branching = k.branching; vars_below = λ m v h. k.vars_below m tt h; owners = k.owners }

  -- what a second row keeps, and a third of it, the third keeps of the first
  pub Keeps_trans : (a b c : List Node) → Keeps V a b → Keeps V b c → Keeps V a c
  Keeps_trans a b c p q = record {
    leaves_kept = IsPermutation-trans _ _ _ p.leaves_kept q.leaves_kept;
    branching = λ h. q.branching (p.branching h);
    vars_below = λ m v h. q.vars_below m v (p.vars_below m v h);
    owners = λ d o ks h.
        let g = q.owners (Distinct-IsPermutation _ _ p.leaves_kept d) o ks h in
        let f = p.owners d o g.0 g.1 in
        (f.0, f.1, Fits_trans f.0 g.0 ks f.2 g.2);
  }

  -- rows side by side keep what each of them keeps
  pub Keeps_append : (a b c d : List Node) → Keeps V a b → Keeps V c d → Keeps V (a ++ c) (b ++ d)
  Keeps_append a b c d p q = record {
    leaves_kept = subst₂ IsPermutation (sym (all_leaves_append a c)) (sym (all_leaves_append b d)) (IsPermutation-append _ _ _ _ p.leaves_kept q.leaves_kept);
    branching = λ h. let g = all_split is_branching a c h in all_join is_branching b d (p.branching g.0) (q.branching g.1);
    vars_below = λ m v h. let g = all_split (has_vars_below m) a c h in all_join (has_vars_below m) b d (p.vars_below m v g.0) (q.vars_below m v g.1);
    owners = λ dis o ks h.
        let both : Distinct (all_leaves a ++ all_leaves c) = subst Distinct (all_leaves_append a c) dis in
        ⊎_elim
        (λ g. let f = p.owners (Distinct-append_left (all_leaves a) (all_leaves c) both) o ks g in (f.0, in_row_left (P o f.0) a c f.1, f.2))
        (λ g. let f = q.owners (Distinct-append_right (all_leaves a) (all_leaves c) both) o ks g in (f.0, in_row_right (P o f.0) a c f.1, f.2))
        (in_row_cases (P o ks) b d h);
  }

  -- a row in another order keeps all
  pub Keeps_permuted : (a b : List Node) → IsPermutation a b → Keeps V a b
  Keeps_permuted a b p = record {
    leaves_kept = IsPermutation-all_leaves a b p;
    branching = λ h. sym (list_all-IsPermutation is_branching a b p) ∙ h;
    vars_below = λ m v h. sym (list_all-IsPermutation (has_vars_below m) a b p) ∙ h;
    owners = λ d o ks h. (ks, in_row_permuted (P o ks) b a (IsPermutation-sym a b p) h, Fits_refl ks);
  }

  -- new kids of a P-node
  pub Keeps_P : (o : ℕ) (ks js : List Node) → Keeps V ks js → (Distinct (all_leaves ks) → Fits ks js)
      → (2 ≤ length ks → 2 ≤ length js) → Keeps V (P o ks ∷ []) (P o js ∷ [])
  Keeps_P o ks js k fits two = record {
    leaves_kept = subst₂ IsPermutation (sym (row_P_leaves o ks)) (sym (row_P_leaves o js)) k.leaves_kept;
    branching = λ h. let g = branching_P_parts o ks (sym (all_one is_branching (P o ks)) ∙ h) in all_one is_branching (P o js) ∙ branching_P_from o js (two g.0) (k.branching g.1);
    vars_below = λ m v h. all_one (has_vars_below m) (P o js) ∙ below_P m o js ∙ k.vars_below m v (sym (below_P m o ks) ∙ sym (all_one (has_vars_below m) (P o ks)) ∙ h);
    owners = λ d ow ls h.
        let dis = kids_distinct o ks d in
        ⊎_elim
        (λ g. (ks, own o ks ow g.0, subst (Fits ks) (sym g.1) (fits dis)))
        (λ g. let f = k.owners dis ow ls g in (f.0, in_row_P (P ow f.0) o ks f.1, f.2))
        (owner_cases o ow js ls h);
  }

  -- new kids of a Q-node
  pub Keeps_Q : (w : ℕ) (ks js : List Node) → Keeps V ks js → (2 ≤ length ks → 2 ≤ length js)
      → Keeps V (Q w ks ∷ []) (Q w js ∷ [])
  Keeps_Q w ks js k two = record {
    leaves_kept = subst₂ IsPermutation (sym (row_Q_leaves w ks)) (sym (row_Q_leaves w js)) k.leaves_kept;
    branching = λ h. let g = branching_Q_parts w ks (sym (all_one is_branching (Q w ks)) ∙ h) in all_one is_branching (Q w js) ∙ branching_Q_from w js (two g.0) (k.branching g.1);
    vars_below = λ m v h.
        let g = and_parts (nat_lt w m) (list_all (has_vars_below m) ks) (sym (below_Q m w ks) ∙ sym (all_one (has_vars_below m) (Q w ks)) ∙ h) in
        all_one (has_vars_below m) (Q w js) ∙ below_Q m w js ∙ and_from (nat_lt w m) (list_all (has_vars_below m) js) g.0 (k.vars_below m v g.1);
    owners = λ d ow ls h.
        ⊎_elim
        (λ e. absurd (P_Q ow w ls js e))
        (λ g. let f = k.owners (subst Distinct (row_Q_leaves w ks) d) ow ls g in (f.0, in_row_Q (P ow f.0) w ks f.1, f.2))
        (in_Q (P ow ls) w js (in_row_one (P ow ls) (Q w js) h));
  }

  -- the kids of a Q-node in its place
  pub Keeps_kids_of_Q : (w : ℕ) (ks : List Node) → Keeps V (Q w ks ∷ []) ks
  Keeps_kids_of_Q w ks = record {
    leaves_kept = IsPermutation-same _ _ (row_Q_leaves w ks);
    branching = λ h. (branching_Q_parts w ks (sym (all_one is_branching (Q w ks)) ∙ h)).1;
    vars_below = λ m v h. (and_parts (nat_lt w m) (list_all (has_vars_below m) ks) (sym (below_Q m w ks) ∙ sym (all_one (has_vars_below m) (Q w ks)) ∙ h)).1;
    owners = λ d ow ls h. (ls, in_row_Q (P ow ls) w ks h, Fits_refl ls);
  }

  -- a P-node whose kids are in three parts, of which the first and the last are grouped
  pub Keeps_grouped : (o : ℕ) (ks e m f : List Node) → IsPermutation ks (e ++ (m ++ f))
      → Keeps V (P o ks ∷ []) (group_of o e ++ (m ++ group_of o f))
  Keeps_grouped o ks e m f perm = record {
    leaves_kept = IsPermutation-trans _ _ _ (IsPermutation-same _ _ (row_P_leaves o ks)) (IsPermutation-trans _ _ _ (IsPermutation-all_leaves ks _ perm) (IsPermutation-same _ _ same));
    branching = λ h.
        let g = parts is_branching (branching_P_parts o ks (sym (all_one is_branching (P o ks)) ∙ h)).1 in
        all_join is_branching _ _ (group_branching o e g.0) (all_join is_branching m _ g.1 (group_branching o f g.2));
    vars_below = λ b v h.
        let g = parts (has_vars_below b) (sym (below_P b o ks) ∙ sym (all_one (has_vars_below b) (P o ks)) ∙ h) in
        all_join (has_vars_below b) _ _ (group_below o b e g.0) (all_join (has_vars_below b) m _ g.1 (group_below o b f g.2));
    owners = λ d ow ls h.
        let dis = kids_distinct o ks d in
        let back : (z : List Node) → IsInRow (P ow ls) (e ++ (m ++ f)) → (old : List Node) × IsInRow (P ow old) (P o ks ∷ []) × Fits old ls
        = λ z x. (ls, in_row_P (P ow ls) o ks (in_row_permuted (P ow ls) (e ++ (m ++ f)) ks (IsPermutation-sym ks _ perm) x), Fits_refl ls) in
        ⊎_elim
        (λ x. ⊎_elim
        (λ g. (ks, own o ks ow g.0, subst (Fits ks) (sym g.1) (Fits_part ks e (m ++ f) perm dis)))
        (λ g. back ls (in_row_left (P ow ls) e (m ++ f) g))
        (group_owner o ow e ls x))
        (λ x. ⊎_elim
        (λ g. back ls (in_row_right (P ow ls) e (m ++ f) (in_row_left (P ow ls) m f g)))
        (λ y. ⊎_elim
        (λ g. (ks, own o ks ow g.0, subst (Fits ks) (sym g.1) (Fits_part ks f (e ++ m) last dis)))
        (λ g. back ls (in_row_right (P ow ls) e (m ++ f) (in_row_right (P ow ls) m f g)))
        (group_owner o ow f ls y))
        (in_row_cases (P ow ls) m (group_of o f) x))
        (in_row_cases (P ow ls) (group_of o e) (m ++ group_of o f) h);
  }
    where
      same : all_leaves (e ++ (m ++ f)) ≡ all_leaves (group_of o e ++ (m ++ group_of o f))
      same = all_leaves_append e (m ++ f) ∙ ap₂ (λ x y. x ++ y) (sym (group_leaves o e)) (all_leaves_append m f ∙ ap (λ z. all_leaves m ++ z) (sym (group_leaves o f)) ∙ sym (all_leaves_append m (group_of o f)))
          ∙ sym (all_leaves_append (group_of o e) (m ++ group_of o f))

      last : IsPermutation ks (f ++ (e ++ m))
      last = IsPermutation-trans _ _ _ perm (IsPermutation-trans _ _ _ (IsPermutation-same _ _ (sym (append_assoc e m f))) (IsPermutation-append_comm (e ++ m) f))

      parts : (t : Node → Bool) → list_all t ks ≡ true
          → (list_all t e ≡ true) × (list_all t m ≡ true) × (list_all t f ≡ true)
      parts t h =
          let a = all_split t e (m ++ f) (sym (list_all-IsPermutation t ks _ perm) ∙ h) in
          let b = all_split t m f a.1 in
          (a.0, b.0, b.1)

  -- the kids of a P-node in two parts, of which the second is put under a P-node of its own
  pub Keeps_parted : (o : ℕ) (ks e c : List Node) → IsPermutation ks (e ++ c) → 1 ≤ length e → 2 ≤ length c
      → Keeps V (P o ks ∷ []) (P o (e ++ P o c ∷ []) ∷ [])
  Keeps_parted o ks e c perm one two = record {
    leaves_kept = subst₂ IsPermutation (sym (row_P_leaves o ks)) (sym (row_P_leaves o (e ++ P o c ∷ []))) (IsPermutation-trans _ _ _ (IsPermutation-all_leaves ks _ perm) (IsPermutation-same _ _ same));
    branching = λ h.
        let g = all_split is_branching e c (sym (list_all-IsPermutation is_branching ks _ perm) ∙ (branching_P_parts o ks (sym (all_one is_branching (P o ks)) ∙ h)).1) in
        all_one is_branching (P o (e ++ P o c ∷ [])) ∙ branching_P_from o (e ++ P o c ∷ []) long
        (all_join is_branching e (P o c ∷ []) g.0 (all_one is_branching (P o c) ∙ branching_P_from o c two g.1));
    vars_below = λ b v h.
        let g = all_split (has_vars_below b) e c (sym (list_all-IsPermutation (has_vars_below b) ks _ perm) ∙ sym (below_P b o ks) ∙ sym (all_one (has_vars_below b) (P o ks)) ∙ h) in
        all_one (has_vars_below b) (P o (e ++ P o c ∷ [])) ∙ below_P b o (e ++ P o c ∷ []) ∙ all_join (has_vars_below b) e (P o c ∷ []) g.0 (all_one (has_vars_below b) (P o c) ∙ below_P b o c ∙ g.1);
    owners = λ d ow ls h.
        let dis = kids_distinct o ks d in
        let back : IsInRow (P ow ls) (e ++ c) → (old : List Node) × IsInRow (P ow old) (P o ks ∷ []) × Fits old ls
        = λ x. (ls, in_row_P (P ow ls) o ks (in_row_permuted (P ow ls) (e ++ c) ks (IsPermutation-sym ks _ perm) x), Fits_refl ls) in
        ⊎_elim
        (λ g. (ks, own o ks ow g.0, subst (Fits ks) (sym g.1) (Fits_union ks e c (P o c) perm (IsPermutation-same _ _ (sym (leaves_P o c))))))
        (λ g. ⊎_elim
        (λ x. back (in_row_left (P ow ls) e c x))
        (λ x. ⊎_elim
        (λ y. (ks, own o ks ow y.0, subst (Fits ks) (sym y.1) (Fits_part ks c e (IsPermutation-trans _ _ _ perm (IsPermutation-append_comm e c)) dis)))
        (λ y. back (in_row_right (P ow ls) e c y))
        (owner_cases o ow c ls x))
        (in_row_cases (P ow ls) e (P o c ∷ []) g))
        (owner_cases o ow (e ++ P o c ∷ []) ls h);
  }
    where
      same : all_leaves (e ++ c) ≡ all_leaves (e ++ P o c ∷ [])
      same = all_leaves_append e c ∙ ap (λ z. all_leaves e ++ z) (sym (row_P_leaves o c)) ∙ sym (all_leaves_append e (P o c ∷ []))

      long : 2 ≤ length (e ++ P o c ∷ [])
      long = let l = length-append e (P o c ∷ []) in omega arith

-- a row as the kids of a Q-node with a new var
pub Keeps_into_Q : (y : ℕ) (row : List Node) → 2 ≤ length row → Keeps (λ n. y < n) row (Q y row ∷ [])
Keeps_into_Q y row two = record {
  leaves_kept = IsPermutation-same _ _ (sym (row_Q_leaves y row));
  branching = λ h. all_one is_branching (Q y row) ∙ branching_Q_from y row two h;
  vars_below = λ m v h. all_one (has_vars_below m) (Q y row) ∙ below_Q m y row ∙ and_from (nat_lt y m) (list_all (has_vars_below m) row) (lt-ltb y m v) h;
  owners = λ d ow ls h. ⊎_elim (λ e. absurd (P_Q ow y ls row e)) (λ g. (ls, g, Fits_refl ls)) (in_Q (P ow ls) y row (in_row_one (P ow ls) (Q y row) h));
}
