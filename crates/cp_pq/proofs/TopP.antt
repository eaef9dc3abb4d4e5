-- A P-node where the set is together, with up to two kids that are neither outside nor inside.
use Rattle.std.proofs.Common.{◌≡◌, ℕ, ◌≤◌, Bool, true, false, not, ◌&&◌, ◌↔◌, ◌⊎◌, List, [], ◌∷◌, ◌++◌, length, filter, reverse, refl, sym, ap, ap₂, ◌∙◌, subst, subst₂, inl, inr, ⊎_elim, append_assoc, append-nil, arith, IsPermutation}
use Rattle.std.specs.List.{list_all}
use Rattle.std.proofs.lemmas.Bool.{both_ways, true≢false, false≢true, cases_Bool, and_parts, and_from}
use Rattle.std.proofs.lemmas.List.{reverse-append, reverse-reverse}
use Rattle.std.proofs.lemmas.List.Folds.{list_all-append}
use Rattle.std.proofs.lemmas.List.Elements.{filter-append}
use Rattle.std.proofs.lemmas.List.Sorted.{IsPermutation-sym, IsPermutation-trans, IsPermutation-cons, IsPermutation-middle, IsPermutation-append, IsPermutation-append_left, IsPermutation-append_right, IsPermutation-append_comm, length_permutation}
use Rattle.cp_pq.specs.declared.node.Node.{Node}
use Rattle.cp_pq.specs.declared.node.Node.TheVariants.{P, Q}
use Rattle.cp_pq.specs.Readings.{Reads, ReadsAll, any_order, forward, backward, more}
use Rattle.cp_pq.specs.Words.{Opposite, sorted, together, has_all, IsLike, group_of, is_clear, turned, is_mixed, is_met}
use Rattle.cp_pq.proofs.Permutations.{list_all-IsPermutation, IsPermutation-same, IsPermutation-filter, short_permutation, filter_all, filter_none}
use Rattle.cp_pq.proofs.WordLaws.{opposite_sym, together_front, together_start, together_whole, sorted_reverse}
use Rattle.cp_pq.proofs.ReadingLaws.{read_all_wider, ReadsAll_cons, ReadsAll_join, ReadsAll_cut, Reads_P, Reads_Q}
use Rattle.cp_pq.proofs.Mirrors.{like_reverse}
use Rattle.cp_pq.proofs.Rows.{class_read, class_row, run_here, row_sorted_of}
use Rattle.cp_pq.proofs.Lines.{IsMiddle, IsMixed, split_sorted, sorted_row, like_full, group_reads, reads_group, middle_mixed, all_weaker, all_append, mixed_one}
use Rattle.cp_pq.proofs.Zips.{clear_other}
use Rattle.cp_pq.specs.Changes.{IsDone}
use Rattle.cp_pq.proofs.Tops.{find_in}
use Rattle.cp_pq.proofs.Groups.{group_back}

-- a row cut into kids outside, kids that meet the set and kids outside
pub record Run (q : ℕ → Bool) (ks : List Node) : Type 0 where
  pub a : List Node
  pub c : List Node
  pub b : List Node
  pub is : ks ≡ a ++ (c ++ b)
  pub before : list_all (has_all q) a ≡ true
  pub met : list_all (is_met q) c ≡ true
  pub after : list_all (has_all q) b ≡ true

module _ (q p : ℕ → Bool) (opp : Opposite q p) where
  -- clear kids inside meet the set
  met_full : (ks : List Node) → list_all (is_clear q p) ks ≡ true → list_all (has_all p) ks ≡ true
      → list_all (is_met q) ks ≡ true
  met_full ks c h = all_weaker (is_clear q p) (has_all p) (is_met q) (λ k x y. ap (λ z. not z) (clear_other q p k x y)) ks c h

  -- the kids that meet the set stand side by side
  pub run_of : (may : ℕ → Bool → Bool) (ks : List Node) (xs : List ℕ) → list_all (is_clear q p) ks ≡ true
      → ReadsAll may ks xs → together q p xs ≡ true → Run q ks
  run_of may [] xs c r t = record { a = []; c = []; b = []; is = refl; before = refl; met = refl; after = refl }
  run_of may (k ∷ ks) xs c r t =
      let h = ReadsAll_cons may k ks xs r in
      let w : together q p (h.0 ++ h.1) ≡ true = ap (together q p) (sym h.2) ∙ t in
      let cl = and_parts _ _ c in
      ⊎_elim
      (λ out. let g = run_of may ks h.1 cl.1 h.4 (sym (together_front q p h.0 h.1 (class_read q may k h.0 h.3 ∙ out)) ∙ w) in
      record { a = k ∷ g.a; c = g.c; b = g.b; is = ap (λ z. k ∷ z) g.is; before = and_from _ _ out g.before; met = g.met; after = g.after })
      (λ out. ⊎_elim
      (λ s. let f = split_sorted p q ks (row_sorted_of p q may ks h.1 h.4 (sym (together_start q p h.0 h.1 (class_read q may k h.0 h.3 ∙ out) s) ∙ w)) in
      let fc = all_append (is_clear q p) f.a (f.m ++ f.b) (subst (λ z. list_all (is_clear q p) z ≡ true) f.is cl.1) in
      record {
        a = [];
        c = k ∷ (f.a ++ f.m);
        b = f.b;
        is = ap (λ z. k ∷ z) (f.is ∙ sym (append_assoc f.a f.m f.b));
        before = refl;
        met = and_from _ _ (ap (λ z. not z) out) (list_all-append (is_met q) f.a f.m ∙ and_from _ _ (met_full f.a fc.0 f.out) (mixed_met f.m f.mixed.1));
        after = f.full;
      })
      (λ s. record {
        a = [];
        c = k ∷ [];
        b = ks;
        is = refl;
        before = refl;
        met = and_from _ _ (ap (λ z. not z) out) refl;
        after = sym (class_row q may ks h.1 h.4) ∙ (and_parts _ _ (sym (together_whole q p h.0 h.1 s) ∙ w)).1;
      })
      (cases_Bool (sorted q p h.0)))
      (cases_Bool (has_all q k))
    where
      mixed_met : (m : List Node) → list_all (is_mixed p q) m ≡ true → list_all (is_met q) m ≡ true
      mixed_met m h = all_weaker (is_mixed p q) (is_mixed p q) (is_met q) (λ k x y. (and_parts (not (has_all p k)) (not (has_all q k)) x).1) m h h

  -- the kids outside, and the others under one P-node of their own
  pub P_grouped : (o : ℕ) (ks e c : List Node) → IsPermutation ks (e ++ c) → list_all (is_clear q p) ks ≡ true
      → list_all (has_all q) e ≡ true → list_all (is_met q) c ≡ true → (may : ℕ → Bool → Bool) (xs : List ℕ)
      → (Reads may (P o ks) xs × (together q p xs ≡ true))
      ↔ (Reads may (P o (e ++ P o c ∷ [])) xs × (together q p xs ≡ true))
  P_grouped o ks e c perm clear out met may xs = (
    λ r. let t = Reads_P may o ks xs r.0 in
        let turn_clear : list_all (is_clear q p) t.0 ≡ true = sym (list_all-IsPermutation (is_clear q p) ks t.0 t.1) ∙ clear in
        let g = run_of may t.0 xs turn_clear t.2 r.1 in
        let all : IsPermutation (e ++ c) (g.a ++ (g.c ++ g.b)) = IsPermutation-trans _ _ _ (IsPermutation-sym _ _ perm) (IsPermutation-trans _ _ _ t.1 (IsPermutation-same _ _ g.is)) in
        let ee : IsPermutation e (g.a ++ g.b) = subst₂ IsPermutation (keep2 e c out met) (keep3 g.a g.c g.b g.before g.met g.after) (IsPermutation-filter (has_all q) _ _ all) in
        let cc' : IsPermutation c g.c = subst₂ IsPermutation (met2 e c out met) (met3 g.a g.c g.b g.before g.met g.after) (IsPermutation-filter (is_met q) _ _ all) in
        let x = ReadsAll_cut may g.a (g.c ++ g.b) xs (subst (λ z. ReadsAll may z xs) g.is t.2) in
        let y = ReadsAll_cut may g.c g.b x.1 x.4 in (
          any_order o (e ++ P o c ∷ []) (g.a ++ P o c ∷ g.b) xs
              (IsPermutation-trans _ _ _ (IsPermutation-middle e (P o c) []) (IsPermutation-trans _ _ _ (IsPermutation-cons (P o c) _ _ (IsPermutation-trans _ _ _ (IsPermutation-same _ _ (append-nil e)) ee)) (IsPermutation-sym _ _ (IsPermutation-middle g.a (P o c) g.b))))
              (subst (ReadsAll may (g.a ++ P o c ∷ g.b)) (ap (λ z. x.0 ++ z) (sym y.2) ∙ sym x.2) (ReadsAll_join may g.a (P o c ∷ g.b) x.0 (y.0 ++ y.1) x.3 (more (P o c) g.b y.0 y.1 (any_order o c g.c y.0 cc' y.3) y.4))),
          r.1,
        ),
    λ r. let t = Reads_P may o (e ++ P o c ∷ []) xs r.0 in
        let f = find_in (e ++ P o c ∷ []) t.0 t.1 (P o c) e [] refl in
        let x = ReadsAll_cut may f.before (P o c ∷ f.after) xs (subst (λ z. ReadsAll may z xs) f.is t.2) in
        let y = ReadsAll_cons may (P o c) f.after x.1 x.4 in
        let s = Reads_P may o c y.0 y.3 in (
          any_order o ks (f.before ++ (s.0 ++ f.after)) xs
              (IsPermutation-trans _ _ _ perm (IsPermutation-trans _ _ _ (IsPermutation-append _ _ _ _ (IsPermutation-trans _ _ _ (IsPermutation-same _ _ (sym (append-nil e))) f.rest) s.1)
              (IsPermutation-trans _ _ _ (IsPermutation-same _ _ (append_assoc f.before f.after s.0)) (IsPermutation-append_right f.before _ _ (IsPermutation-append_comm f.after s.0)))))
              (subst (ReadsAll may (f.before ++ (s.0 ++ f.after))) (ap (λ z. x.0 ++ z) (sym y.2) ∙ sym x.2) (ReadsAll_join may f.before (s.0 ++ f.after) x.0 (y.0 ++ y.1) x.3 (ReadsAll_join may s.0 f.after y.0 y.1 s.2 y.4))),
          r.1,
        ),
  )
    where
      not_met : (b : Bool) → b ≡ true → not (not b) ≡ true
      not_met true h = refl
      not_met false h = h

      none_met : (ks : List Node) → list_all (has_all q) ks ≡ true → filter (is_met q) ks ≡ []
      none_met ks h = filter_none (is_met q) ks (all_weaker (has_all q) (has_all q) _ (λ k x y. not_met (has_all q k) x) ks h h)

      keep2 : (e c : List Node) → list_all (has_all q) e ≡ true → list_all (is_met q) c ≡ true
          → filter (has_all q) (e ++ c) ≡ e
      keep2 e c h g = filter-append (has_all q) e c ∙ ap₂ (λ x y. x ++ y) (filter_all (has_all q) e h) (filter_none (has_all q) c g) ∙ append-nil e

      met2 : (e c : List Node) → list_all (has_all q) e ≡ true → list_all (is_met q) c ≡ true
          → filter (is_met q) (e ++ c) ≡ c
      met2 e c h g = filter-append (is_met q) e c ∙ ap₂ (λ x y. x ++ y) (none_met e h) (filter_all (is_met q) c g)

      keep3 : (a c b : List Node) → list_all (has_all q) a ≡ true → list_all (is_met q) c ≡ true
          → list_all (has_all q) b ≡ true → filter (has_all q) (a ++ (c ++ b)) ≡ a ++ b
      keep3 a c b h g i = filter-append (has_all q) a (c ++ b) ∙ ap₂ (λ x y. x ++ y) (filter_all (has_all q) a h) (filter-append (has_all q) c b ∙ ap₂ (λ x y. x ++ y) (filter_none (has_all q) c g) (filter_all (has_all q) b i))

      met3 : (a c b : List Node) → list_all (has_all q) a ≡ true → list_all (is_met q) c ≡ true
          → list_all (has_all q) b ≡ true → filter (is_met q) (a ++ (c ++ b)) ≡ c
      met3 a c b h g i = filter-append (is_met q) a (c ++ b) ∙ ap₂ (λ x y. x ++ y) (none_met a h) (filter-append (is_met q) c b ∙ ap₂ (λ x y. x ++ y) (filter_all (is_met q) c g) (none_met b i)) ∙ append-nil c

-- two rows of at most one node each that are a permutation of two such rows are these in one of the two orders
short_sides : (m1 m2 n1 n2 : List Node) → length m1 ≤ 1 → length m2 ≤ 1 → length n1 ≤ 1 → length n2 ≤ 1
    → (m1 ≡ [] → m2 ≡ []) → IsPermutation (m1 ++ m2) (n1 ++ n2) → ((n1 ≡ m1) × (n2 ≡ m2)) ⊎ ((n1 ≡ m2) × (n2 ≡ m1))
short_sides [] m2 n1 n2 a b c d nomid perm =
    let e : m2 ≡ [] = nomid refl in
    let f : n1 ++ n2 ≡ [] = short_permutation m2 (n1 ++ n2) perm b ∙ e in
    inl (nil_parts n1 n2 f, nil_right n1 n2 f ∙ sym e)
  where
    nil_parts : (n1 n2 : List Node) → n1 ++ n2 ≡ [] → n1 ≡ []
    nil_parts [] n2 e = refl
    nil_parts (x ∷ n1) n2 e = absurd cc

    nil_right : (n1 n2 : List Node) → n1 ++ n2 ≡ [] → n2 ≡ []
    nil_right [] n2 e = e
    nil_right (x ∷ n1) n2 e = absurd cc
short_sides (x ∷ []) [] [] n2 a b c d nomid perm = inr (refl, short_permutation (x ∷ []) n2 perm a)
short_sides (x ∷ []) [] (z ∷ []) n2 a b c d nomid perm =
    let e : z ∷ n2 ≡ x ∷ [] = short_permutation (x ∷ []) (z ∷ n2) perm a in
    let t : n2 ≡ [] = cc in let h : z ≡ x = cc in
    inl (ap (λ w. w ∷ []) h, t)
short_sides (x ∷ []) [] (z ∷ w ∷ n1) n2 a b c d nomid perm = absurd (omega arith)
short_sides (x ∷ []) (y ∷ []) [] n2 a b c d nomid perm = let e : length n2 ≡ 2 = length_permutation (x ∷ y ∷ []) n2 perm in absurd (omega (arith, e, d))
short_sides (x ∷ []) (y ∷ []) (z ∷ []) [] a b c d nomid perm = let e : 1 ≡ 2 = length_permutation (x ∷ y ∷ []) (z ∷ []) perm in absurd (omega (arith, e))
short_sides (x ∷ []) (y ∷ []) (z ∷ []) (w ∷ []) a b c d nomid perm =
    let f = find_in (x ∷ y ∷ []) (z ∷ w ∷ []) perm x [] (y ∷ []) refl in
    two f.before f.after f.is (short_permutation (y ∷ []) (f.before ++ f.after) f.rest (omega arith))
  where
    flat : (before after : List Node) → before ++ after ≡ [] → before ++ x ∷ after ≡ x ∷ []
    flat [] after e = ap (λ v. x ∷ v) e
    flat (v ∷ before) after e = absurd cc

    two : (before after : List Node) → z ∷ w ∷ [] ≡ before ++ x ∷ after → before ++ after ≡ y ∷ []
        → ((z ∷ [] ≡ x ∷ []) × (w ∷ [] ≡ y ∷ [])) ⊎ ((z ∷ [] ≡ y ∷ []) × (w ∷ [] ≡ x ∷ []))
    two [] after e g = let h : z ≡ x = cc in let t : w ∷ [] ≡ after = cc in inl (ap (λ v. v ∷ []) h, t ∙ g)
    two (v ∷ before) after e g =
        let h : z ≡ v = cc in let k : v ≡ y = cc in let r : before ++ after ≡ [] = cc in
        let t : w ∷ [] ≡ before ++ x ∷ after = cc in
        inr (ap (λ v. v ∷ []) (h ∙ k), t ∙ flat before after r)
short_sides (x ∷ []) (y ∷ []) (z ∷ []) (w ∷ v ∷ n2) a b c d nomid perm = absurd (omega arith)
short_sides (x ∷ []) (y ∷ []) (z ∷ w ∷ n1) n2 a b c d nomid perm = absurd (omega arith)
short_sides (x ∷ []) (y ∷ z ∷ m2) n1 n2 a b c d nomid perm = absurd (omega arith)
short_sides (x ∷ y ∷ m1) m2 n1 n2 a b c d nomid perm = absurd (omega arith)

-- a line with a group in the middle is read back as its last line, the group and its first line
pub row_back : (o : ℕ) (l1 f l2 : List Node)
    → reverse (l1 ++ (group_of o f ++ reverse l2)) ≡ l2 ++ (group_of o f ++ reverse l1)
row_back o l1 f l2 = reverse-append l1 (group_of o f ++ reverse l2) ∙ ap (λ z. z ++ reverse l1) (reverse-append (group_of o f) (reverse l2) ∙ ap₂ (λ a b. a ++ b) (reverse-reverse l2) (group_back o f)) ∙ append_assoc l2 (group_of o f) (reverse l1)

module _ (q p : ℕ → Bool) (opp : Opposite q p) where
  -- the middle of a row from right to left is a middle against the other leaves, under the turned licence
  flip_middle : (L : (ℕ → Bool → Bool) → Type 0) (m line : List Node) → IsMiddle q p L m line
      → IsMiddle p q (λ may. L (turned may)) m (reverse line)
  flip_middle L m line mid =
      ⊎_elim
      (λ h. inl (h.0, ap reverse h.1, λ may. h.2 (turned may)))
      (λ h. inr (h.0, h.1, h.3, h.2, like_reverse (sorted q p) (sorted p q) L (h.0 ∷ []) line (sorted_reverse q p opp) h.4))
      mid

  -- kids inside with a middle behind them are like themselves with the line of the middle turned, the set first
  end_row : (L : (ℕ → Bool → Bool) → Type 0) (f m line : List Node) → IsMiddle q p L m line
      → list_all (has_all p) f ≡ true → IsLike (sorted p q) (λ may. L (turned may)) (f ++ m) (f ++ reverse line)
  end_row L f m line mid full =
      subst₂ (λ a b. IsLike (sorted p q) (λ may. L (turned may)) (f ++ a) (f ++ b)) (append-nil m) (append-nil (reverse line))
      (sorted_row p q (λ may. L (turned may)) (opposite_sym q p opp) f m [] (reverse line) (flip_middle L m line mid) full refl)

  -- some kids that all meet the set are not all outside
  not_all_out : (ks : List Node) → list_all (is_met q) ks ≡ true → 1 ≤ length ks → list_all (has_all q) ks ≡ false
  not_all_out [] h le = absurd (omega arith)
  not_all_out (k ∷ ks) h le = go (has_all q k) (and_parts _ _ h).0
    where
      go : (x : Bool) → not x ≡ true → (x && list_all (has_all q) ks) ≡ false
      go true e = absurd (false≢true e)
      go false e = refl

  -- at most one mixed kid, kids inside, at most one mixed kid
  pub run_row : (L M : (ℕ → Bool → Bool) → Type 0) (n1 l1 f n2 l2 : List Node) → IsMiddle q p L n1 l1
      → IsMiddle q p M n2 l2 → list_all (has_all p) f ≡ true → list_all (is_met q) (n1 ++ (f ++ n2)) ≡ true
      → 2 ≤ length (n1 ++ (f ++ n2))
      → IsLike (together q p) (λ may. L may × M (turned may)) (n1 ++ (f ++ n2)) (l1 ++ (f ++ reverse l2))
  run_row L M n1 l1 f n2 l2 mid1 mid2 full met two =
      ⊎_elim
      (λ h. subst₂ (λ a b. IsLike (together q p) (λ may. L may × M (turned may)) (a ++ (f ++ n2)) (b ++ (f ++ reverse l2))) (sym h.0) (sym h.1)
      (no_first f full (subst (λ z. list_all (is_met q) (z ++ (f ++ n2)) ≡ true) h.0 met) (subst (λ z. 2 ≤ length (z ++ (f ++ n2))) h.0 two) h.2))
      (λ h. subst (λ a. IsLike (together q p) (λ may. L may × M (turned may)) (a ++ (f ++ n2)) (l1 ++ (f ++ reverse l2))) (sym h.1)
      (let met1 : list_all (is_met q) (h.0 ∷ (f ++ n2)) ≡ true = subst (λ z. list_all (is_met q) (z ++ (f ++ n2)) ≡ true) h.1 met in
      let two1 : 2 ≤ length (h.0 ∷ (f ++ n2)) = subst (λ z. 2 ≤ length (z ++ (f ++ n2))) h.1 two in
      run_here q p L (λ may. M (turned may)) h.0 (f ++ n2) l1 (f ++ reverse l2) h.2 (not_all_out (f ++ n2) (and_parts _ _ met1).1 (omega arith)) h.4 (end_row M f n2 l2 mid2 full)))
      mid1
    where
      no_first : (f : List Node) → list_all (has_all p) f ≡ true → list_all (is_met q) (f ++ n2) ≡ true
          → 2 ≤ length (f ++ n2) → ((may : ℕ → Bool → Bool) → L may)
          → IsLike (together q p) (λ may. L may × M (turned may)) (f ++ n2) (f ++ reverse l2)
      no_first [] full met two lic = let le = (middle_mixed q p M n2 l2 mid2).0 in absurd (omega arith)
      no_first (k ∷ f) full met two lic =
          let m = and_parts _ _ met in
          run_here q p L (λ may. M (turned may)) k (f ++ n2) (k ∷ []) (f ++ reverse l2) (un_met (has_all q k) m.0) (not_all_out (f ++ n2) m.1 (omega arith))
          (like_full q p L opp (k ∷ []) (and_from _ _ (and_parts _ _ full).0 refl) lic) (end_row M f n2 l2 mid2 (and_parts _ _ full).1)
        where
          un_met : (x : Bool) → not x ≡ true → x ≡ false
          un_met true e = absurd (true≢false (sym e))
          un_met false e = refl

-- a row cut into at most one mixed kid, kids inside and at most one mixed kid
pub record Core (q p : ℕ → Bool) (ks : List Node) : Type 0 where
  pub n1 : List Node
  pub f : List Node
  pub n2 : List Node
  pub is : ks ≡ n1 ++ (f ++ n2)
  pub mixed1 : IsMixed q p n1
  pub full : list_all (has_all p) f ≡ true
  pub mixed2 : IsMixed q p n2

module _ (q p : ℕ → Bool) (opp : Opposite q p) where
  -- a bit that is true when turned is false
  un_met : (x : Bool) → not x ≡ true → x ≡ false
  un_met true e = absurd (true≢false (sym e))
  un_met false e = refl

  -- kids outside that meet the set are none
  no_outs : (b : List Node) → list_all (has_all q) b ≡ true → list_all (is_met q) b ≡ true → b ≡ []
  no_outs [] h g = refl
  no_outs (k ∷ b) h g = absurd (both_ways (has_all q k) (un_met (has_all q k) (and_parts (is_met q k) (list_all (is_met q) b) g).0) (and_parts (has_all q k) (list_all (has_all q) b) h).0)

  -- a kid mixed for the other leaves is mixed
  turn_mixed : (x y : Bool) → (not y && not x) ≡ true → (not x && not y) ≡ true
  turn_mixed true true h = h
  turn_mixed true false h = h
  turn_mixed false true h = h
  turn_mixed false false h = h

  -- a row of kids that meet the set and have it together in a reading can be cut so
  pub core_split : (may : ℕ → Bool → Bool) (ks : List Node) (xs : List ℕ) → list_all (is_met q) ks ≡ true
      → 2 ≤ length ks → ReadsAll may ks xs → together q p xs ≡ true → Core q p ks
  core_split may [] xs met two r t = absurd (omega arith)
  core_split may (k ∷ ks) xs met two r t =
      let h = ReadsAll_cons may k ks xs r in
      let w : together q p (h.0 ++ h.1) ≡ true = ap (together q p) (sym h.2) ∙ t in
      let m = and_parts _ _ met in
      let out = un_met (has_all q k) m.0 in
      ⊎_elim
      (λ s. let g = split_sorted p q ks (row_sorted_of p q may ks h.1 h.4 (sym (together_start q p h.0 h.1 (class_read q may k h.0 h.3 ∙ out) s) ∙ w)) in
      let rest = all_append (is_met q) g.a (g.m ++ g.b) (subst (λ z. list_all (is_met q) z ≡ true) g.is m.1) in
      let none = no_outs g.b g.full (all_append (is_met q) g.m g.b rest.1).1 in
      let is : ks ≡ g.a ++ g.m = g.is ∙ ap (λ z. g.a ++ (g.m ++ z)) none ∙ ap (λ z. g.a ++ z) (append-nil g.m) in
      let last : IsMixed q p g.m = (g.mixed.0, all_weaker (is_mixed p q) (is_mixed p q) (is_mixed q p) (λ k x y. turn_mixed (has_all q k) (has_all p k) x) g.m g.mixed.1 g.mixed.1) in
      ⊎_elim
      (λ f. record { n1 = []; f = k ∷ g.a; n2 = g.m; is = ap (λ z. k ∷ z) is; mixed1 = (omega arith, refl); full = and_from _ _ f g.out; mixed2 = last })
      (λ f. record { n1 = k ∷ []; f = g.a; n2 = g.m; is = ap (λ z. k ∷ z) is; mixed1 = (omega arith, mixed_one _ _ out f); full = g.out; mixed2 = last })
      (cases_Bool (has_all p k)))
      (λ s. absurd (both_ways _ (not_all_out q p opp ks m.1 (omega arith)) (sym (class_row q may ks h.1 h.4) ∙ (and_parts _ _ (sym (together_whole q p h.0 h.1 s) ∙ w)).1)))
      (cases_Bool (sorted q p h.0))

  -- a kid inside is not mixed
  full_mixed : (x y : Bool) → y ≡ true → not (not x && not y) ≡ true
  full_mixed true y e = refl
  full_mixed false true e = refl
  full_mixed false false e = absurd (false≢true e)

  -- kids inside have no mixed one among them
  fulls_mixed : (f : List Node) → list_all (has_all p) f ≡ true → filter (is_mixed q p) f ≡ []
  fulls_mixed f h = filter_none (is_mixed q p) f (all_weaker (has_all p) (has_all p) _ (λ k x y. full_mixed (has_all q k) (has_all p k) x) f h h)

  -- mixed kids have none inside among them
  mixed_fulls : (m : List Node) → list_all (is_mixed q p) m ≡ true → filter (has_all p) m ≡ []
  mixed_fulls m h = filter_none (has_all p) m (all_weaker (is_mixed q p) (is_mixed q p) _ (λ k x y. (and_parts (not (has_all q k)) (not (has_all p k)) x).1) m h h)

  -- of mixed kids and kids inside behind them, the mixed ones and the inside ones are the two pieces
  parts_mixed : (a b f : List Node) → list_all (is_mixed q p) a ≡ true → list_all (is_mixed q p) b ≡ true
      → list_all (has_all p) f ≡ true
      → (filter (is_mixed q p) (a ++ (b ++ f)) ≡ a ++ b) × (filter (has_all p) (a ++ (b ++ f)) ≡ f)
  parts_mixed a b f ha hb hf = (
    filter-append (is_mixed q p) a (b ++ f) ∙ ap₂ (λ x y. x ++ y) (filter_all (is_mixed q p) a ha) (filter-append (is_mixed q p) b f ∙ ap₂ (λ x y. x ++ y) (filter_all (is_mixed q p) b hb) (fulls_mixed f hf) ∙ append-nil b),
    filter-append (has_all p) a (b ++ f) ∙ ap₂ (λ x y. x ++ y) (mixed_fulls a ha) (filter-append (has_all p) b f ∙ ap₂ (λ x y. x ++ y) (mixed_fulls b hb) (filter_all (has_all p) f hf)),
  )

  -- of kids inside with mixed ones on both sides, the mixed ones are the two sides
  core_mixed : (a f b : List Node) → list_all (is_mixed q p) a ≡ true → list_all (has_all p) f ≡ true
      → list_all (is_mixed q p) b ≡ true
      → (filter (is_mixed q p) (a ++ (f ++ b)) ≡ a ++ b) × (filter (has_all p) (a ++ (f ++ b)) ≡ f)
  core_mixed a f b ha hf hb = (
    filter-append (is_mixed q p) a (f ++ b) ∙ ap₂ (λ x y. x ++ y) (filter_all (is_mixed q p) a ha) (filter-append (is_mixed q p) f b ∙ ap₂ (λ x y. x ++ y) (fulls_mixed f hf) (filter_all (is_mixed q p) b hb)),
    filter-append (has_all p) a (f ++ b) ∙ ap₂ (λ x y. x ++ y) (mixed_fulls a ha) (filter-append (has_all p) f b ∙ ap₂ (λ x y. x ++ y) (filter_all (has_all p) f hf) (mixed_fulls b hb) ∙ append-nil f),
  )

  -- a row with a group in the middle reads what it reads with the kids of the group in any order
  regroup : (may : ℕ → Bool → Bool) (o : ℕ) (l f g r : List Node) (xs : List ℕ) → IsPermutation f g
      → ReadsAll may (l ++ (g ++ r)) xs → ReadsAll may (l ++ (group_of o f ++ r)) xs
  regroup may o l f g r xs perm h =
      let x = ReadsAll_cut may l (g ++ r) xs h in
      let y = ReadsAll_cut may g r x.1 x.4 in
      subst (ReadsAll may (l ++ (group_of o f ++ r))) (ap (λ z. x.0 ++ z) (sym y.2) ∙ sym x.2) (ReadsAll_join may l (group_of o f ++ r) x.0 (y.0 ++ y.1) x.3 (ReadsAll_join may (group_of o f) r y.0 y.1 (group_reads may o f g y.0 perm y.3) y.4))

  -- and nothing else
  ungroup : (may : ℕ → Bool → Bool) (o : ℕ) (l f r : List Node) (xs : List ℕ)
      → ReadsAll may (l ++ (group_of o f ++ r)) xs
      → (g : List Node) × IsPermutation f g × ReadsAll may (l ++ (g ++ r)) xs
  ungroup may o l f r xs h =
      let x = ReadsAll_cut may l (group_of o f ++ r) xs h in
      let y = ReadsAll_cut may (group_of o f) r x.1 x.4 in
      let s = reads_group may o f y.0 y.3 in
      (s.0, s.1, subst (ReadsAll may (l ++ (s.0 ++ r))) (ap (λ z. x.0 ++ z) (sym y.2) ∙ sym x.2) (ReadsAll_join may l (s.0 ++ r) x.0 (y.0 ++ y.1) x.3 (ReadsAll_join may s.0 r y.0 y.1 s.2 y.4)))

  module _ (o y : ℕ) (L M : (ℕ → Bool → Bool) → Type 0) (c m1 l1 m2 l2 f : List Node)
      (twice : (may : ℕ → Bool → Bool) → M may ↔ M (turned (turned may)))
      (perm : IsPermutation c (m1 ++ (m2 ++ f))) (met : list_all (is_met q) c ≡ true) (full : list_all (has_all p) f ≡ true)
      (mid1 : IsMiddle q p L m1 l1) (mid2 : IsMiddle q p M m2 l2) (first : m1 ≡ [] → m2 ≡ []) (two : 2 ≤ length c) where
    -- the conditions of both middles, the second one turned
    ties : (ℕ → Bool → Bool) → Type 0
    ties may = L may × M (turned may)

    -- the kids in another order meet the set, and are two or more
    met_turn : (t : List Node) → IsPermutation c t → (list_all (is_met q) t ≡ true) × (2 ≤ length t)
    met_turn t h = (sym (list_all-IsPermutation (is_met q) c t h) ∙ met, subst (λ z. 2 ≤ z) (sym (length_permutation c t h)) two)

    -- the kids are a permutation of first middle, kids inside and second middle
    side_a : (g : List Node) → IsPermutation f g → IsPermutation c (m1 ++ (g ++ m2))
    side_a g h = IsPermutation-trans _ _ _ perm (IsPermutation-append_right m1 _ _ (IsPermutation-trans _ _ _ (IsPermutation-append_comm m2 f) (IsPermutation-append_left m2 _ _ h)))

    -- and of second middle, kids inside and first middle
    side_b : (g : List Node) → IsPermutation f g → IsPermutation c (m2 ++ (g ++ m1))
    side_b g h = IsPermutation-trans _ _ _ perm (IsPermutation-trans _ _ _ (IsPermutation-append_comm m1 (m2 ++ f)) (IsPermutation-trans _ _ _ (IsPermutation-same _ _ (append_assoc m2 f m1)) (IsPermutation-append_right m2 _ _ (IsPermutation-append_left m1 _ _ h))))

    -- the kids with the first middle before those inside are like their line
    like_a : (g : List Node) → IsPermutation f g
        → IsLike (together q p) (λ may. L may × M (turned may)) (m1 ++ (g ++ m2)) (l1 ++ (g ++ reverse l2))
    like_a g h = let t = met_turn _ (side_a g h) in run_row q p opp L M m1 l1 g m2 l2 mid1 mid2 (sym (list_all-IsPermutation (has_all p) f g h) ∙ full) t.0 t.1

    -- and so are those with the second middle before
    like_b : (g : List Node) → IsPermutation f g
        → IsLike (together q p) (λ may. M may × L (turned may)) (m2 ++ (g ++ m1)) (l2 ++ (g ++ reverse l1))
    like_b g h = let t = met_turn _ (side_b g h) in run_row q p opp M L m2 l2 g m1 l1 mid2 mid1 (sym (list_all-IsPermutation (has_all p) f g h) ∙ full) t.0 t.1

    -- the line of the first middle, the group of kids inside and the line of the second turned
    abbrev line : List Node
    line = l1 ++ (group_of o f ++ reverse l2)

    -- a P-node with at most two mixed kids and kids inside becomes a Q-node with a new var over this line
    pub middle_done : IsDone q p false y (λ may. L may × M (turned may)) (P o c)
        (Q y (l1 ++ (group_of o f ++ reverse l2)))
    middle_done = record {
      to = λ may xs r t.
          let s = Reads_P may o c xs r in
          let k = met_turn s.0 s.1 in
          let d = core_split may s.0 xs k.0 k.1 s.2 t in
          let all : IsPermutation (m1 ++ (m2 ++ f)) (d.n1 ++ (d.f ++ d.n2)) = IsPermutation-trans _ _ _ (IsPermutation-sym _ _ perm) (IsPermutation-trans _ _ _ s.1 (IsPermutation-same _ _ d.is)) in
          let a = middle_mixed q p L m1 l1 mid1 in let b = middle_mixed q p M m2 l2 mid2 in
          let here = parts_mixed m1 m2 f a.1 b.1 full in
          let there = core_mixed d.n1 d.f d.n2 d.mixed1.1 d.full d.mixed2.1 in
          let mm : IsPermutation (m1 ++ m2) (d.n1 ++ d.n2) = subst₂ IsPermutation here.0 there.0 (IsPermutation-filter (is_mixed q p) _ _ all) in
          let ff : IsPermutation f d.f = subst₂ IsPermutation here.1 there.1 (IsPermutation-filter (has_all p) _ _ all) in
          let row : ReadsAll may (d.n1 ++ (d.f ++ d.n2)) xs = subst (λ z. ReadsAll may z xs) d.is s.2 in
          ⊎_elim
          (λ e. let g = (like_a d.f ff may xs).0 (subst₂ (λ u v. ReadsAll may (u ++ (d.f ++ v)) xs) e.0 e.1 row, t) in
          (false, λ z. absurd (false≢true z), g.0, λ wide w h. forward y line xs h (read_all_wider may wide w line xs (regroup may o l1 f d.f (reverse l2) xs ff g.1))))
          (λ e. let g = (like_b d.f ff may xs).0 (subst₂ (λ u v. ReadsAll may (u ++ (d.f ++ v)) xs) e.0 e.1 row, t) in
          (true, λ z. absurd (false≢true z), (g.0.1, (twice may).0 g.0.0), λ wide w h. backward y line xs h (subst (λ z. ReadsAll wide z xs) (sym (row_back o l1 f l2)) (read_all_wider may wide w _ xs (regroup may o l2 f d.f (reverse l1) xs ff g.1)))))
          (short_sides m1 m2 d.n1 d.n2 a.0 b.0 d.mixed1.0 d.mixed2.0 first mm);
      fro = λ may xs r tie.
          ⊎_elim
          (λ h. let u = ungroup may o l1 f (reverse l2) xs h.1 in
          let g = (like_a u.0 u.1 may xs).1 (tie false h.0, u.2) in
          (any_order o c _ xs (side_a u.0 u.1) g.0, g.1))
          (λ h. let u = ungroup may o l2 f (reverse l1) xs (subst (λ z. ReadsAll may z xs) (row_back o l1 f l2) h.1) in
          let l = tie true h.0 in
          let g = (like_b u.0 u.1 may xs).1 (((twice may).1 l.1, l.0), u.2) in
          (any_order o c _ xs (side_b u.0 u.1) g.0, g.1))
          (Reads_Q may y line xs r);
    }
