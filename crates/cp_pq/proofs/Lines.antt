-- What P-nodes and Q-nodes become in a line.
use Rattle.std.proofs.Common.{◌≡◌, ℕ, ◌≤◌, Bool, true, false, cond, not, ◌&&◌, ◌⊎◌, List, [], ◌∷◌, ◌++◌, length, filter, reverse, refl, sym, ap, ap₂, ◌∙◌, subst, subst₂, ⊎_elim, append-nil, arith, IsPermutation}
use Rattle.std.specs.List.{list_all}
use Rattle.std.proofs.lemmas.Bool.{both_ways, false≢true, cases_Bool, and_parts, and_from}
use Rattle.std.proofs.lemmas.List.Folds.{list_all-append}
use Rattle.std.proofs.lemmas.List.Elements.{filter-append}
use Rattle.std.proofs.lemmas.List.Sorted.{IsPermutation-refl, IsPermutation-sym, IsPermutation-trans, IsPermutation-append, length_permutation}
use Rattle.cp_pq.specs.declared.node.Node.{Node}
use Rattle.cp_pq.specs.declared.node.Node.TheVariants.{P, Q}
use Rattle.cp_pq.specs.Readings.{ReadsAll, any_order, forward, backward}
use Rattle.cp_pq.specs.Words.{Opposite, sorted, has_all, row_sorted, IsLike, group_of, is_clear, IsNever, is_mixed}
use Rattle.cp_pq.proofs.Permutations.{list_all-IsPermutation, IsPermutation-same, IsPermutation-filter, short_permutation, filter_all, filter_none}
use Rattle.cp_pq.proofs.WordLaws.{sorted_front, sorted_last}
use Rattle.cp_pq.proofs.ReadingLaws.{ReadsAll_one, one_ReadsAll, ReadsAll_join, ReadsAll_cut, Reads_P, Reads_Q}
use Rattle.cp_pq.proofs.Rows.{class_row, like_front, sorted_here, row_sorted_of}

-- a group reads what its nodes read in any order
pub group_reads : (may : ℕ → Bool → Bool) (o : ℕ) (e a : List Node) (u : List ℕ) → IsPermutation e a → ReadsAll may a u
    → ReadsAll may (group_of o e) u
group_reads may o [] a u p r = subst (λ z. ReadsAll may z u) (short_permutation [] a p (omega arith)) r
group_reads may o (k ∷ []) a u p r = subst (λ z. ReadsAll may z u) (short_permutation (k ∷ []) a p (omega arith)) r
group_reads may o (k ∷ j ∷ ks) a u p r = one_ReadsAll may (P o (k ∷ j ∷ ks)) u (any_order o (k ∷ j ∷ ks) a u p r)

-- and reads nothing else
pub reads_group : (may : ℕ → Bool → Bool) (o : ℕ) (e : List Node) (u : List ℕ) → ReadsAll may (group_of o e) u
    → (a : List Node) × IsPermutation e a × ReadsAll may a u
reads_group may o [] u r = ([], IsPermutation-refl [], r)
reads_group may o (k ∷ []) u r = (k ∷ [], IsPermutation-refl (k ∷ []), r)
reads_group may o (k ∷ j ∷ ks) u r = Reads_P may o (k ∷ j ∷ ks) u (ReadsAll_one may _ u r)

-- the middle of a row: nothing, or one kid that is neither outside nor inside, as a line
abbrev pub IsMiddle : (ℕ → Bool) → (ℕ → Bool) → ((ℕ → Bool → Bool) → Type 0) → List Node → List Node → Type 0
IsMiddle q p L m line = ((m ≡ []) × (line ≡ []) × ((may : ℕ → Bool → Bool) → L may)) ⊎ ((k : Node) × (m ≡ k ∷ []) × (has_all q k ≡ false) × (has_all p k ≡ false) × IsLike (sorted q p) L (k ∷ []) line)

-- a row of kids inside is like itself under a condition that always holds
pub like_full : (q p : ℕ → Bool) (L : (ℕ → Bool → Bool) → Type 0) → Opposite q p → (b : List Node)
    → list_all (has_all p) b ≡ true → ((may : ℕ → Bool → Bool) → L may) → IsLike (sorted q p) L b b
like_full q p L opp b full lic may xs = (λ r. (lic may, r.0), λ r. (r.1, sorted_last q p opp xs (class_row p may b xs r.1 ∙ full)))

-- a middle with kids inside behind it is like its line with these behind it
pub middle_row : (q p : ℕ → Bool) (L : (ℕ → Bool → Bool) → Type 0) → Opposite q p → (m b line : List Node)
    → IsMiddle q p L m line → list_all (has_all p) b ≡ true → IsLike (sorted q p) L (m ++ b) (line ++ b)
middle_row q p L opp m b line mid full =
    ⊎_elim
    (λ h. subst (λ z. IsLike (sorted q p) L (z ++ b) (line ++ b)) (sym h.0) (subst (λ z. IsLike (sorted q p) L b (z ++ b)) (sym h.1) (like_full q p L opp b full h.2)))
    (λ h. subst (λ z. IsLike (sorted q p) L (z ++ b) (line ++ b)) (sym h.1) (sorted_here q p L h.0 b line h.2 full h.4))
    mid

-- kids outside stand before a row as before its line
pub like_fronts : (q p : ℕ → Bool) (L : (ℕ → Bool → Bool) → Type 0) (a row line : List Node)
    → list_all (has_all q) a ≡ true → IsLike (sorted q p) L row line → IsLike (sorted q p) L (a ++ row) (a ++ line)
like_fronts q p L [] row line h like = like
like_fronts q p L (k ∷ a) row line h like =
    let c = and_parts _ _ h in like_front q (sorted q p) L k (a ++ row) (a ++ line) (sorted_front q p) c.0 (like_fronts q p L a row line c.1 like)

-- a row of kids outside, a middle and kids inside is like the same row with the line of the middle
pub sorted_row : (q p : ℕ → Bool) (L : (ℕ → Bool → Bool) → Type 0) → Opposite q p → (a m b line : List Node)
    → IsMiddle q p L m line → list_all (has_all q) a ≡ true → list_all (has_all p) b ≡ true
    → IsLike (sorted q p) L (a ++ (m ++ b)) (a ++ (line ++ b))
sorted_row q p L opp a m b line mid out full = like_fronts q p L a (m ++ b) (line ++ b) out (middle_row q p L opp m b line mid full)

-- no kid, or one that is neither outside nor inside
abbrev pub IsMixed : (ℕ → Bool) → (ℕ → Bool) → List Node → Type 0
IsMixed q p m = (length m ≤ 1) × (list_all (λ k. not (has_all q k) && not (has_all p k)) m ≡ true)

-- a kid that is neither outside nor inside is mixed, alone in its row
pub mixed_one : (x y : Bool) → x ≡ false → y ≡ false → ((not x && not y) && true) ≡ true
mixed_one x y a b = and_from _ _ (and_from _ _ (ap (λ z. not z) a) (ap (λ z. not z) b)) refl

-- a row cut into kids outside, at most one mixed kid and kids inside
pub record Split (q p : ℕ → Bool) (ks : List Node) : Type 0 where
  pub a : List Node
  pub m : List Node
  pub b : List Node
  pub is : ks ≡ a ++ (m ++ b)
  pub out : list_all (has_all q) a ≡ true
  pub mixed : IsMixed q p m
  pub full : list_all (has_all p) b ≡ true

-- a sorted row can be cut so
pub split_sorted : (q p : ℕ → Bool) (ks : List Node) → row_sorted q p ks ≡ true → Split q p ks
split_sorted q p [] h = record { a = []; m = []; b = []; is = refl; out = refl; mixed = (omega arith, refl); full = refl }
split_sorted q p (k ∷ ks) h =
    ⊎_elim
    (λ e. let s = split_sorted q p ks (sym (ap (λ b. cond b (row_sorted q p ks) (list_all (has_all p) ks)) e) ∙ h) in
    record { a = k ∷ s.a; m = s.m; b = s.b; is = ap (λ l. k ∷ l) s.is; out = and_from _ _ e s.out; mixed = s.mixed; full = s.full })
    (λ e. let rest : list_all (has_all p) ks ≡ true = sym (ap (λ b. cond b (row_sorted q p ks) (list_all (has_all p) ks)) e) ∙ h in
    ⊎_elim
    (λ f. record { a = []; m = []; b = k ∷ ks; is = refl; out = refl; mixed = (omega arith, refl); full = and_from _ _ f rest })
    (λ f. record { a = []; m = k ∷ []; b = ks; is = refl; out = refl; mixed = (omega arith, mixed_one _ _ e f); full = rest })
    (cases_Bool (has_all p k)))
    (cases_Bool (has_all q k))

-- the kids of each kind
not_first : (x y : Bool) → not (x && y) ≡ true → y ≡ true → not x ≡ true
not_first true y h e = sym (ap (λ z. not z) e) ∙ h
not_first false y h e = refl

-- of two tests that no node passes both, a node that passes the first does not pass the second
not_second : (x y : Bool) → not (x && y) ≡ true → x ≡ true → not y ≡ true
not_second x true h e = sym (ap (λ z. not (z && true)) e) ∙ h
not_second x false h e = refl

-- a test that follows from two others is passed by all nodes of a row that pass these
pub all_weaker : (f g h : Node → Bool) → ((k : Node) → f k ≡ true → g k ≡ true → h k ≡ true) → (ks : List Node)
    → list_all f ks ≡ true → list_all g ks ≡ true → list_all h ks ≡ true
all_weaker f g h step [] a b = refl
all_weaker f g h step (k ∷ ks) a b = let x = and_parts _ _ a in let y = and_parts _ _ b in and_from _ _ (step k x.0 y.0) (all_weaker f g h step ks x.1 y.1)

-- a test that all nodes of two rows pass is passed by those of each
pub all_append : (f : Node → Bool) (ks js : List Node) → list_all f (ks ++ js) ≡ true
    → (list_all f ks ≡ true) × (list_all f js ≡ true)
all_append f ks js h = and_parts _ _ (sym (list_all-append f ks js) ∙ h)

-- a kid outside is not mixed
mixed_out : (x y : Bool) → not (x && y) ≡ true → x ≡ true → not (not x && not y) ≡ true
mixed_out true y h e = refl
mixed_out false y h e = absurd (false≢true e)

-- a kid inside is not mixed
mixed_full : (x y : Bool) → not (x && y) ≡ true → y ≡ true → not (not x && not y) ≡ true
mixed_full true y h e = refl
mixed_full false true h e = refl
mixed_full false false h e = absurd (false≢true e)

-- in a row of clear kids outside, mixed ones and kids inside the three kinds are its three pieces
pub kinds : (q p : ℕ → Bool) (a m b : List Node) → list_all (is_clear q p) (a ++ (m ++ b)) ≡ true
    → list_all (has_all q) a ≡ true → list_all (is_mixed q p) m ≡ true → list_all (has_all p) b ≡ true
    → (filter (has_all q) (a ++ (m ++ b)) ≡ a) × (filter (is_mixed q p) (a ++ (m ++ b)) ≡ m)
    × (filter (has_all p) (a ++ (m ++ b)) ≡ b)
kinds q p a m b clear out mixed full = (
  three (has_all q) ∙ ap₂ (λ x y. x ++ y) (filter_all (has_all q) a out) (ap₂ (λ x y. x ++ y) (filter_none (has_all q) m (all_weaker (is_mixed q p) (is_mixed q p) _ (λ k x y. (and_parts _ _ x).0) m mixed mixed)) (filter_none (has_all q) b (all_weaker (is_clear q p) (has_all p) _ (λ k x y. not_first _ _ x y) b c.2 full))) ∙ append-nil a,
  three (is_mixed q p) ∙ ap₂ (λ x y. x ++ y) (filter_none (is_mixed q p) a (all_weaker (is_clear q p) (has_all q) _ (λ k x y. mixed_out _ _ x y) a c.0 out)) (ap₂ (λ x y. x ++ y) (filter_all (is_mixed q p) m mixed) (filter_none (is_mixed q p) b (all_weaker (is_clear q p) (has_all p) _ (λ k x y. mixed_full _ _ x y) b c.2 full))) ∙ append-nil m,
  three (has_all p) ∙ ap₂ (λ x y. x ++ y) (filter_none (has_all p) a (all_weaker (is_clear q p) (has_all q) _ (λ k x y. not_second _ _ x y) a c.0 out)) (ap₂ (λ x y. x ++ y) (filter_none (has_all p) m (all_weaker (is_mixed q p) (is_mixed q p) _ (λ k x y. (and_parts _ _ x).1) m mixed mixed)) (filter_all (has_all p) b full)),
)
  where
    three : (f : Node → Bool) → filter f (a ++ (m ++ b)) ≡ filter f a ++ (filter f m ++ filter f b)
    three f = filter-append f a (m ++ b) ∙ ap (λ z. filter f a ++ z) (filter-append f m b)

    c : (list_all (is_clear q p) a ≡ true) × (list_all (is_clear q p) m ≡ true) × (list_all (is_clear q p) b ≡ true)
    c = let x = all_append (is_clear q p) a (m ++ b) clear in let y = all_append (is_clear q p) m b x.1 in (x.0, y.0, y.1)

-- the middle of a row is no kid or a mixed one
pub middle_mixed : (q p : ℕ → Bool) (L : (ℕ → Bool → Bool) → Type 0) (m line : List Node) → IsMiddle q p L m line
    → IsMixed q p m
middle_mixed q p L m line mid =
    ⊎_elim
    (λ h. subst (IsMixed q p) (sym h.0) (omega arith, refl))
    (λ h. subst (IsMixed q p) (sym h.1) (omega arith, mixed_one _ _ h.2 h.3))
    mid

-- kids in another order are kids outside, a middle and kids inside
pub record Sorting (q p : ℕ → Bool) (L : (ℕ → Bool → Bool) → Type 0) (ks e m f line : List Node) : Type 0 where
  pub is : IsPermutation ks (e ++ (m ++ f))
  pub clear : list_all (is_clear q p) ks ≡ true
  pub out : list_all (has_all q) e ≡ true
  pub middle : IsMiddle q p L m line
  pub full : list_all (has_all p) f ≡ true

-- a P-node whose kids are outside, inside, and at most one that is neither
pub P_line : (q p : ℕ → Bool) (L : (ℕ → Bool → Bool) → Type 0) → Opposite q p → (o : ℕ) (ks e m f line : List Node)
    → Sorting q p L ks e m f line → IsLike (sorted q p) L (P o ks ∷ []) (group_of o e ++ (line ++ group_of o f))
P_line q p L opp o ks e m f line s may xs = (to, fro)
  where
    clear_all : (turn : List Node) → IsPermutation ks turn → list_all (is_clear q p) turn ≡ true
    clear_all turn h = sym (list_all-IsPermutation (is_clear q p) ks turn h) ∙ s.clear

    here : (filter (has_all q) (e ++ (m ++ f)) ≡ e) × (filter (is_mixed q p) (e ++ (m ++ f)) ≡ m)
        × (filter (has_all p) (e ++ (m ++ f)) ≡ f)
    here = kinds q p e m f (clear_all (e ++ (m ++ f)) s.is) s.out (middle_mixed q p L m line s.middle).1 s.full

    to : ReadsAll may (P o ks ∷ []) xs × (sorted q p xs ≡ true)
        → L may × ReadsAll may (group_of o e ++ (line ++ group_of o f)) xs
    to r =
        let t = Reads_P may o ks xs (ReadsAll_one may (P o ks) xs r.0) in
        let c = split_sorted q p t.0 (row_sorted_of q p may t.0 xs t.2 r.1) in
        let all : IsPermutation (e ++ (m ++ f)) (c.a ++ (c.m ++ c.b)) = IsPermutation-trans _ _ _ (IsPermutation-sym _ _ s.is) (IsPermutation-trans _ _ _ t.1 (IsPermutation-same _ _ c.is)) in
        let there = kinds q p c.a c.m c.b (subst (λ z. list_all (is_clear q p) z ≡ true) c.is (clear_all t.0 t.1)) c.out c.mixed.1 c.full in
        let ea : IsPermutation e c.a = subst₂ IsPermutation here.0 there.0 (IsPermutation-filter (has_all q) _ _ all) in
        let mm : IsPermutation m c.m = subst₂ IsPermutation here.1 there.1 (IsPermutation-filter (is_mixed q p) _ _ all) in
        let fb : IsPermutation f c.b = subst₂ IsPermutation here.2 there.2 (IsPermutation-filter (has_all p) _ _ all) in
        let same : c.m ≡ m = short_permutation m c.m mm (middle_mixed q p L m line s.middle).0 in
        let row : ReadsAll may (c.a ++ (m ++ c.b)) xs = subst (λ z. ReadsAll may (c.a ++ (z ++ c.b)) xs) same (subst (λ z. ReadsAll may z xs) c.is t.2) in
        let g = (sorted_row q p L opp c.a m c.b line s.middle c.out c.full may xs).0 (row, r.1) in
        let x = ReadsAll_cut may c.a (line ++ c.b) xs g.1 in
        let y = ReadsAll_cut may line c.b x.1 x.4 in (
          g.0,
          subst (ReadsAll may (group_of o e ++ (line ++ group_of o f))) (ap (λ z. x.0 ++ z) (sym y.2) ∙ sym x.2)
              (ReadsAll_join may (group_of o e) (line ++ group_of o f) x.0 (y.0 ++ y.1) (group_reads may o e c.a x.0 ea x.3) (ReadsAll_join may line (group_of o f) y.0 y.1 y.3 (group_reads may o f c.b y.1 fb y.4))),
        )

    fro : L may × ReadsAll may (group_of o e ++ (line ++ group_of o f)) xs
        → ReadsAll may (P o ks ∷ []) xs × (sorted q p xs ≡ true)
    fro r =
        let x = ReadsAll_cut may (group_of o e) (line ++ group_of o f) xs r.1 in
        let y = ReadsAll_cut may line (group_of o f) x.1 x.4 in
        let a = reads_group may o e x.0 x.3 in
        let b = reads_group may o f y.1 y.4 in
        let line_row : ReadsAll may (a.0 ++ (line ++ b.0)) xs = subst (ReadsAll may (a.0 ++ (line ++ b.0))) (ap (λ z. x.0 ++ z) (sym y.2) ∙ sym x.2) (ReadsAll_join may a.0 (line ++ b.0) x.0 (y.0 ++ y.1) a.2 (ReadsAll_join may line b.0 y.0 y.1 y.3 b.2)) in
        let out : list_all (has_all q) a.0 ≡ true = sym (list_all-IsPermutation (has_all q) e a.0 a.1) ∙ s.out in
        let full : list_all (has_all p) b.0 ≡ true = sym (list_all-IsPermutation (has_all p) f b.0 b.1) ∙ s.full in
        let g = (sorted_row q p L opp a.0 m b.0 line s.middle out full may xs).1 (r.0, line_row) in
        (one_ReadsAll may (P o ks) xs (any_order o ks (a.0 ++ (m ++ b.0)) xs (IsPermutation-trans _ _ _ s.is (IsPermutation-append _ _ _ _ a.1 (IsPermutation-append _ _ _ _ (IsPermutation-refl m) b.1))) g.0), g.1)

-- a Q-node whose kids are like a line, and not sorted when reversed, is like it where its var may have the bit false
pub Q_forward : (q p : ℕ → Bool) (L : (ℕ → Bool → Bool) → Type 0) (v : ℕ) (ks line : List Node)
    → IsLike (sorted q p) L ks line → row_sorted q p (reverse ks) ≡ false
    → IsLike (sorted q p) (λ may. (may v false ≡ true) × L may) (Q v ks ∷ []) line
Q_forward q p L v ks line like bad may xs = (
  λ r. ⊎_elim
      (λ h. let g = (like may xs).0 (h.1, r.1) in ((h.0, g.0), g.1))
      (λ h. absurd (both_ways _ bad (row_sorted_of q p may (reverse ks) xs h.1 r.1)))
      (Reads_Q may v ks xs (ReadsAll_one may (Q v ks) xs r.0)),
  λ r. let g = (like may xs).1 (r.0.1, r.1) in (one_ReadsAll may (Q v ks) xs (forward v ks xs r.0.0 g.0), g.1),
)

-- a Q-node whose reversed kids are like a line, and not sorted as given, is like it where its var may have the bit true
pub Q_backward : (q p : ℕ → Bool) (L : (ℕ → Bool → Bool) → Type 0) (v : ℕ) (ks line : List Node)
    → IsLike (sorted q p) L (reverse ks) line → row_sorted q p ks ≡ false
    → IsLike (sorted q p) (λ may. (may v true ≡ true) × L may) (Q v ks ∷ []) line
Q_backward q p L v ks line like bad may xs = (
  λ r. ⊎_elim
      (λ h. absurd (both_ways _ bad (row_sorted_of q p may ks xs h.1 r.1)))
      (λ h. let g = (like may xs).0 (h.1, r.1) in ((h.0, g.0), g.1))
      (Reads_Q may v ks xs (ReadsAll_one may (Q v ks) xs r.0)),
  λ r. let g = (like may xs).1 (r.0.1, r.1) in (one_ReadsAll may (Q v ks) xs (backward v ks xs r.0.0 g.0), g.1),
)

-- a Q-node whose kids are sorted in neither order has no reading with the set at the end
pub Q_never : (q p : ℕ → Bool) (v : ℕ) (ks : List Node) → row_sorted q p ks ≡ false
    → row_sorted q p (reverse ks) ≡ false → IsNever (sorted q p) (Q v ks ∷ [])
Q_never q p v ks a b may xs r s =
    ⊎_elim
    (λ h. both_ways _ a (row_sorted_of q p may ks xs h.1 s))
    (λ h. both_ways _ b (row_sorted_of q p may (reverse ks) xs h.1 s))
    (Reads_Q may v ks xs (ReadsAll_one may (Q v ks) xs r))

-- a P-node with two mixed kids has no reading with the set at the end
pub P_never : (q p : ℕ → Bool) (o : ℕ) (ks : List Node) → list_all (is_clear q p) ks ≡ true
    → 2 ≤ length (filter (is_mixed q p) ks) → IsNever (sorted q p) (P o ks ∷ [])
P_never q p o ks clear two may xs r s =
    let t = Reads_P may o ks xs (ReadsAll_one may (P o ks) xs r) in
    let c = split_sorted q p t.0 (row_sorted_of q p may t.0 xs t.2 s) in
    let there = kinds q p c.a c.m c.b (subst (λ z. list_all (is_clear q p) z ≡ true) c.is (sym (list_all-IsPermutation (is_clear q p) ks t.0 t.1) ∙ clear)) c.out c.mixed.1 c.full in
    let same : length (filter (is_mixed q p) t.0) ≡ length (filter (is_mixed q p) ks) = length_permutation _ _ (IsPermutation-filter (is_mixed q p) ks t.0 t.1) in
    let m : length (filter (is_mixed q p) t.0) ≡ length c.m = ap (λ z. length (filter (is_mixed q p) z)) c.is ∙ ap length there.1 in
    let le : length c.m ≤ 1 = c.mixed.0 in
    omega arith
