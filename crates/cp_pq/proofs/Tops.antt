-- The node where the set is together: what it becomes.
use Rattle.std.proofs.Common.{◌≡◌, ℕ, Bool, true, false, ◌⊎◌, List, [], ◌∷◌, ◌++◌, reverse, refl, sym, ap, ◌∙◌, subst, inl, inr, ⊎_elim, append_assoc, append-nil, IsPermutation}
use Rattle.std.specs.List.{list_all}
use Rattle.std.proofs.lemmas.Bool.{and_parts}
use Rattle.std.proofs.lemmas.List.{reverse-append}
use Rattle.std.proofs.lemmas.List.Folds.{list_all-append}
use Rattle.std.proofs.lemmas.List.Sorted.{IsPermutation-refl, IsPermutation-sym, IsPermutation-trans, IsPermutation-cons, IsPermutation-middle, IsPermutation-reverse}
use Rattle.cp_pq.specs.declared.node.Node.{Node}
use Rattle.cp_pq.specs.declared.node.Node.TheVariants.{P, Q}
use Rattle.cp_pq.specs.Readings.{ReadsAll, any_order, forward, backward, more}
use Rattle.cp_pq.specs.Words.{Opposite, together, has_all, IsLike, turned}
use Rattle.cp_pq.specs.Changes.{by_bit, IsDone}
use Rattle.cp_lists.proofs.PermutedLists.{along_permutation}
use Rattle.cp_pq.proofs.Permutations.{list_all-IsPermutation, IsPermutation-same}
use Rattle.cp_pq.proofs.WordLaws.{together_front, together_reverse, together_end, end_together}
use Rattle.cp_pq.specs.Changes.{Wider}
use Rattle.cp_pq.proofs.ReadingLaws.{read_all_wider, ReadsAll_cons, ReadsAll_join, ReadsAll_cut, Reads_P, Reads_Q}
use Rattle.cp_pq.proofs.Mirrors.{like_reverse}
use Rattle.cp_pq.proofs.Rows.{class_row}

-- a Q-node whose row of kids is a run
pub Q_done : (q p : ℕ → Bool) → Opposite q p → (L : (ℕ → Bool → Bool) → Type 0) (y : ℕ) (ks line : List Node)
    → IsLike (together q p) L ks line → IsDone q p true y L (Q y ks) (Q y line)
Q_done q p opp L y ks line like = record {
  to = λ may xs r t.
      ⊎_elim
      (λ h. let g = (like may xs).0 (h.1, t) in
      (false, λ e. h.0, g.0, λ wide w m. forward y line xs m (read_all_wider may wide w line xs g.1)))
      (λ h. let g = (back may xs).0 (h.1, t) in
      (true, λ e. h.0, g.0, λ wide w m. backward y line xs m (read_all_wider may wide w (reverse line) xs g.1)))
      (Reads_Q may y ks xs r);
  fro = λ may xs r tie.
      ⊎_elim
      (λ h. let g = (like may xs).1 (tie false h.0, h.1) in (forward y ks xs h.0 g.0, g.1))
      (λ h. let g = (back may xs).1 (tie true h.0, h.1) in (backward y ks xs h.0 g.0, g.1))
      (Reads_Q may y line xs r);
}
  where
    back : IsLike (together q p) (λ may. L (turned may)) (reverse ks) (reverse line)
    back = like_reverse (together q p) (together q p) L ks line (together_reverse q p opp) like

-- where in a permutation a kid stands
pub record Found {A : Type 0} (x : A) (ls bs ys : List A) : Type 0 where
  pub before : List A
  pub after : List A
  pub is : ys ≡ before ++ x ∷ after
  pub rest : IsPermutation (ls ++ bs) (before ++ after)

-- a permutation in which each item of the list is found
abbrev Finds : {A : Type 0} → List A → List A → Type 0
Finds {A} xs ys = IsPermutation xs ys × ((x : A) (ls bs : List A) → xs ≡ ls ++ x ∷ bs → Found x ls bs ys)

-- an item of a list is its first or stands behind it
head_at : {A : Type 0} (x y : A) (xs ls bs : List A) → y ∷ xs ≡ ls ++ x ∷ bs
    → ((ls ≡ []) × (y ≡ x) × (xs ≡ bs)) ⊎ ((rest : List A) × (ls ≡ y ∷ rest) × (xs ≡ rest ++ x ∷ bs))
head_at x y xs [] bs e = let a : y ≡ x = cc in let b : xs ≡ bs = cc in inl (refl, a, b)
head_at x y xs (l ∷ ls) bs e = let a : l ≡ y = cc in let b : xs ≡ ls ++ x ∷ bs = cc in inr (ls, ap (λ z. z ∷ ls) a, b)

module _ {A : Type 0} where
  -- items found stay found with one item more before both lists
  skip_head : (y : A) (xs ys : List A) → Finds xs ys → Finds (y ∷ xs) (y ∷ ys)
  skip_head y xs ys h = (
    IsPermutation-cons y xs ys h.0,
    λ x ls bs e.
        ⊎_elim
        (λ g. record { before = []; after = ys; is = ap (λ z. z ∷ ys) g.1; rest = subst (λ z. IsPermutation z ys) (g.2 ∙ sym (ap (λ z. z ++ bs) g.0)) h.0 })
        (λ g. let f = h.1 x g.0 bs g.2 in
        record { before = y ∷ f.before; after = f.after; is = ap (λ z. y ∷ z) f.is; rest = subst (λ z. IsPermutation z (y ∷ (f.before ++ f.after))) (sym (ap (λ z. z ++ bs) g.1)) (IsPermutation-cons y _ _ f.rest) })
        (head_at x y xs ls bs e),
  )

  -- with two first items exchanged each item is found
  turn_heads : (y z : A) (xs : List A) → Finds (y ∷ z ∷ xs) (z ∷ y ∷ xs)
  turn_heads y z xs = (
    swap2,
    λ x ls bs e.
        ⊎_elim
        (λ g. record { before = z ∷ []; after = xs; is = ap (λ w. z ∷ w ∷ xs) g.1; rest = IsPermutation-same _ _ (ap (λ w. w ++ bs) g.0 ∙ sym g.2) })
        (λ g. ⊎_elim
        (λ f. record { before = []; after = y ∷ xs; is = ap (λ w. w ∷ y ∷ xs) f.1; rest = IsPermutation-same _ _ (ap (λ w. w ++ bs) (g.1 ∙ ap (λ w. y ∷ w) f.0) ∙ ap (λ w. y ∷ w) (sym f.2)) })
        (λ f. record { before = z ∷ y ∷ f.0; after = bs; is = ap (λ w. z ∷ y ∷ w) f.2; rest = subst (λ w. IsPermutation (w ++ bs) (z ∷ y ∷ (f.0 ++ bs))) (sym (g.1 ∙ ap (λ w. y ∷ w) f.1)) (heads y z (f.0 ++ bs)) })
        (head_at x z xs g.0 bs g.2))
        (head_at x y (z ∷ xs) ls bs e),
  )
    where
      heads : (y z : A) (xs : List A) → IsPermutation (y ∷ z ∷ xs) (z ∷ y ∷ xs)
      heads y z xs = IsPermutation-sym _ _ (IsPermutation-middle (z ∷ []) y xs)

      swap2 : IsPermutation (y ∷ z ∷ xs) (z ∷ y ∷ xs)
      swap2 = heads y z xs

  -- each permutation finds its items
  finds : (xs ys : List A) → IsPermutation xs ys → Finds xs ys
  finds = along_permutation Finds
      (λ xs. (IsPermutation-refl xs, λ x ls bs e. record { before = ls; after = bs; is = e; rest = IsPermutation-refl _ }))
      skip_head
      turn_heads
      (λ xs ys zs h g. (IsPermutation-trans _ _ _ h.0 g.0, λ x ls bs e. let a = h.1 x ls bs e in let b = g.1 x a.before a.after a.is in record { before = b.before; after = b.after; is = b.is; rest = IsPermutation-trans _ _ _ a.rest b.rest }))

  -- an item of a list is found in each permutation, with the others round it
  pub find_in : (xs ys : List A) → IsPermutation xs ys → (x : A) (ls bs : List A) → xs ≡ ls ++ x ∷ bs → Found x ls bs ys
  find_in xs ys h = (finds xs ys h).1

-- kids outside round one kid: the set is together in the row where it is in the kid's reading
row_to : (q p : ℕ → Bool) → Opposite q p → (old : Bool) (y : ℕ) (L : (ℕ → Bool → Bool) → Type 0) (k m : Node)
    → IsDone q p old y L k m
    → (a b : List Node) → list_all (has_all q) a ≡ true → list_all (has_all q) b ≡ true
    → (may : ℕ → Bool → Bool) (xs : List ℕ) → ReadsAll may (a ++ k ∷ b) xs → together q p xs ≡ true
    → (bit : Bool) × (old ≡ true → may y bit ≡ true) × L (by_bit bit may) × ((wide : ℕ → Bool → Bool) → Wider may wide
    → wide y bit ≡ true → ReadsAll wide (a ++ m ∷ b) xs)
row_to q p opp old y L k m d a b ea eb may xs r t =
    let c = ReadsAll_cut may a (k ∷ b) xs r in
    let e = ReadsAll_cons may k b c.1 c.4 in
    let whole : together q p (c.0 ++ (e.0 ++ e.1)) ≡ true = ap (λ z. together q p (c.0 ++ z)) (sym e.2) ∙ ap (together q p) (sym c.2) ∙ t in
    let mid : together q p e.0 ≡ true = together_end q p opp e.0 e.1 (class_row q may b e.1 e.4 ∙ eb) (sym (together_front q p c.0 (e.0 ++ e.1) (class_row q may a c.0 c.3 ∙ ea)) ∙ whole) in
    let g = d.to may e.0 e.3 mid in (
      g.0,
      g.1,
      g.2,
      λ wide w h. subst (ReadsAll wide (a ++ m ∷ b)) (ap (λ z. c.0 ++ z) (sym e.2) ∙ sym c.2)
          (ReadsAll_join wide a (m ∷ b) c.0 (e.0 ++ e.1) (read_all_wider may wide w a c.0 c.3) (more m b e.0 e.1 (g.3 wide w h) (read_all_wider may wide w b e.1 e.4))),
    )

-- and each reading of the row with the new kid is one with the old kid, and has the set together
row_fro : (q p : ℕ → Bool) → Opposite q p → (old : Bool) (y : ℕ) (L : (ℕ → Bool → Bool) → Type 0) (k m : Node)
    → IsDone q p old y L k m
    → (a b : List Node) → list_all (has_all q) a ≡ true → list_all (has_all q) b ≡ true
    → (may : ℕ → Bool → Bool) (xs : List ℕ) → ReadsAll may (a ++ m ∷ b) xs
    → ((bit : Bool) → may y bit ≡ true → L (by_bit bit may))
    → ReadsAll may (a ++ k ∷ b) xs × (together q p xs ≡ true)
row_fro q p opp old y L k m d a b ea eb may xs r tie =
    let c = ReadsAll_cut may a (m ∷ b) xs r in
    let e = ReadsAll_cons may m b c.1 c.4 in
    let g = d.fro may e.0 e.3 tie in (
      subst (ReadsAll may (a ++ k ∷ b)) (ap (λ z. c.0 ++ z) (sym e.2) ∙ sym c.2) (ReadsAll_join may a (k ∷ b) c.0 (e.0 ++ e.1) c.3 (more k b e.0 e.1 g.0 e.4)),
      ap (together q p) c.2 ∙ ap (λ z. together q p (c.0 ++ z)) e.2 ∙ together_front q p c.0 (e.0 ++ e.1) (class_row q may a c.0 c.3 ∙ ea) ∙ end_together q p opp e.0 e.1 (class_row q may b e.1 e.4 ∙ eb) g.1,
    )

-- the frame of a Q-node
pub Q_frame : (q p : ℕ → Bool) → Opposite q p
    → (old : Bool) (y : ℕ) (L : (ℕ → Bool → Bool) → Type 0) (v : ℕ) (a b : List Node) (k m : Node)
    → list_all (has_all q) a ≡ true → list_all (has_all q) b ≡ true → IsDone q p old y L k m
    → IsDone q p old y L (Q v (a ++ k ∷ b)) (Q v (a ++ m ∷ b))
Q_frame q p opp old y L v a b k m ea eb d = record {
  to = λ may xs r t.
      ⊎_elim
      (λ h. let g = row_to q p opp old y L k m d a b ea eb may xs h.1 t in
      (g.0, g.1, g.2, λ wide w f. forward v (a ++ m ∷ b) xs (w v false h.0) (g.3 wide w f)))
      (λ h. let g = row_to q p opp old y L k m d (reverse b) (reverse a) rb ra may xs (subst (λ z. ReadsAll may z xs) (turn k) h.1) t in
      (g.0, g.1, g.2, λ wide w f. backward v (a ++ m ∷ b) xs (w v true h.0) (subst (λ z. ReadsAll wide z xs) (sym (turn m)) (g.3 wide w f))))
      (Reads_Q may v (a ++ k ∷ b) xs r);
  fro = λ may xs r tie.
      ⊎_elim
      (λ h. let g = row_fro q p opp old y L k m d a b ea eb may xs h.1 tie in (forward v (a ++ k ∷ b) xs h.0 g.0, g.1))
      (λ h. let g = row_fro q p opp old y L k m d (reverse b) (reverse a) rb ra may xs (subst (λ z. ReadsAll may z xs) (turn m) h.1) tie in (backward v (a ++ k ∷ b) xs h.0 (subst (λ z. ReadsAll may z xs) (sym (turn k)) g.0), g.1))
      (Reads_Q may v (a ++ m ∷ b) xs r);
}
  where
    turn : (n : Node) → reverse (a ++ n ∷ b) ≡ reverse b ++ n ∷ reverse a
    turn n = reverse-append a (n ∷ b) ∙ ap (λ z. z ++ reverse a) (reverse-append (n ∷ []) b) ∙ append_assoc (reverse b) (n ∷ []) (reverse a)

    ra : list_all (has_all q) (reverse a) ≡ true
    ra = sym (list_all-IsPermutation (has_all q) a (reverse a) (IsPermutation-reverse a)) ∙ ea

    rb : list_all (has_all q) (reverse b) ≡ true
    rb = sym (list_all-IsPermutation (has_all q) b (reverse b) (IsPermutation-reverse b)) ∙ eb

-- the frame of a P-node
pub P_frame : (q p : ℕ → Bool) → Opposite q p
    → (old : Bool) (y : ℕ) (L : (ℕ → Bool → Bool) → Type 0) (o : ℕ) (ks es : List Node) (k m : Node)
    → IsPermutation ks (es ++ k ∷ []) → list_all (has_all q) es ≡ true → IsDone q p old y L k m
    → IsDone q p old y L (P o ks) (P o (es ++ m ∷ []))
P_frame q p opp old y L o ks es k m perm e d = record {
  to = λ may xs r t.
      let s = Reads_P may o ks xs r in
      let f = find_in (es ++ k ∷ []) s.0 (IsPermutation-trans _ _ _ (IsPermutation-sym _ _ perm) s.1) k es [] refl in
      let c = sides f in
      let g = row_to q p opp old y L k m d f.before f.after c.0 c.1 may xs (subst (λ z. ReadsAll may z xs) f.is s.2) t in
      (g.0, g.1, g.2, λ wide w h. any_order o (es ++ m ∷ []) (f.before ++ m ∷ f.after) xs (put m f.before f.after f.rest) (g.3 wide w h));
  fro = λ may xs r tie.
      let s = Reads_P may o (es ++ m ∷ []) xs r in
      let f = find_in (es ++ m ∷ []) s.0 s.1 m es [] refl in
      let c = sides f in
      let g = row_fro q p opp old y L k m d f.before f.after c.0 c.1 may xs (subst (λ z. ReadsAll may z xs) f.is s.2) tie in
      (any_order o ks (f.before ++ k ∷ f.after) xs (IsPermutation-trans _ _ _ perm (put k f.before f.after f.rest)) g.0, g.1);
}
  where
    sides : {n : Node} {ys : List Node} (f : Found n es [] ys)
        → (list_all (has_all q) f.before ≡ true) × (list_all (has_all q) f.after ≡ true)
    sides f = and_parts _ _ (sym (list_all-append (has_all q) f.before f.after) ∙ sym (list_all-IsPermutation (has_all q) (es ++ []) (f.before ++ f.after) f.rest) ∙ ap (list_all (has_all q)) (append-nil es) ∙ e)

    put : (n : Node) (before after : List Node) → IsPermutation (es ++ []) (before ++ after)
        → IsPermutation (es ++ n ∷ []) (before ++ n ∷ after)
    put n before after h = IsPermutation-trans _ _ _ (IsPermutation-middle es n []) (IsPermutation-trans _ _ _ (IsPermutation-cons n _ _ h) (IsPermutation-sym _ _ (IsPermutation-middle before n after)))
