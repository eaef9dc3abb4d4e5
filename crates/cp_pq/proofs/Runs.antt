-- Rows of kids where the set is together, and refusals.
use Rattle.std.proofs.Common.{◌≡◌, ℕ, ◌≤◌, Bool, true, false, cond, not, ◌&&◌, ◌||◌, List, [], ◌∷◌, ◌++◌, length, length-append, map, filter, reverse, refl, sym, ap, ap₂, ◌∙◌, subst, ⊎_elim, append-nil, arith}
use Rattle.std.specs.List.{list_all, list_any, AllZip}
use Rattle.std.proofs.lemmas.Bool.{both_ways, true≢false, false≢true, cases_Bool, and_parts, and_from}
use Rattle.std.proofs.lemmas.List.{reverse-append, reverse-reverse}
use Rattle.std.proofs.lemmas.List.Elements.{filter-append}
use Rattle.std.proofs.lemmas.List.Sorted.{length_permutation, IsPermutation-reverse}
use Rattle.cp_pq.specs.declared.node.Node.{Node}
use Rattle.cp_pq.specs.declared.node.Node.TheVariants.{P, Q}
use Rattle.cp_pq.specs.declared.found.Found.{Found}
use Rattle.cp_pq.specs.Readings.{ReadsAll}
use Rattle.cp_pq.specs.Words.{Opposite, sorted, together, has_all, row_sorted, Licensed, IsLike, turned, IsNever, is_mixed, is_met}
use Rattle.cp_pq.specs.Founds.{IsGiven, is_out, is_in, is_torn, found_sorted, found_leaving, found_run, line_of, flat_line, turn_ties, turn_found, turn_behind}
use Rattle.cp_pq.specs.Keeping.{any_bound, Keeps}
use Rattle.cp_pq.specs.Grants.{Grant, Grants}
use Rattle.cp_pq.proofs.Permutations.{IsPermutation-filter, filter_none}
use Rattle.cp_pq.proofs.WordLaws.{opposite_sym, together_front, together_start, together_whole, together_reverse, sorted_reverse}
use Rattle.cp_pq.proofs.ReadingLaws.{ReadsAll_cons, ReadsAll_one, Reads_P, Reads_Q}
use Rattle.cp_pq.proofs.Mirrors.{like_reverse, like_again, mirror_all, mirror_row, turned_licence, licence_turned, ties_turned, turned_ties}
use Rattle.cp_pq.proofs.Rows.{class_read, class_row, like_front, run_here, row_sorted_of}
use Rattle.cp_pq.proofs.Lines.{like_full, split_sorted, all_weaker}
use Rattle.cp_pq.proofs.Closes.{never_like}
use Rattle.cp_pq.proofs.KeepingLaws.{Keeps_refl, Keeps_trans, Keeps_append, Keeps_permuted}
use Rattle.cp_pq.proofs.Zips.{given_out, zip_sorted, zip_like, zip_keeps, zip_long}

-- outside, a run, outside
abbrev pub row_run : (ℕ → Bool) → (ℕ → Bool) → List Node → Bool
row_run q p [] = true
row_run q p (k ∷ ks) = cond (has_all q k) (row_run q p ks) (row_sorted p q ks)

module _ (q p : ℕ → Bool) (opp : Opposite q p) where
  -- a line from right to left is its back and its front exchanged
  turned_line : (front back : List Node) → reverse (reverse front ++ back) ≡ reverse back ++ front
  turned_line front back = reverse-append (reverse front) back ∙ ap (λ z. reverse back ++ z) (reverse-reverse front)

  -- what a node was found to be, turned, is what it is against the other leaves
  pub given_turn : (k : Node) (f : Found) → IsGiven q p k f → IsGiven p q k (turn_found f)
  given_turn k (Found.Out m) g = (g.1, g.0, g.2)
  given_turn k (Found.In m) g = (g.1, g.0, g.2)
  given_turn k (Found.Line front back ties) g = (
    g.1,
    g.0,
    subst (IsLike (sorted p q) (λ may. Licensed false may (turn_ties ties)) (k ∷ [])) (turned_line front back)
        (like_again (sorted p q) (λ may. Licensed false (turned may) ties) (λ may. Licensed false may (turn_ties ties)) (k ∷ []) (reverse (reverse front ++ back))
        (λ may. (λ h. ties_turned false may ties (turned_licence false may ties h), λ h. licence_turned false may ties (turned_ties false may ties h)))
        (like_reverse (sorted q p) (sorted p q) (λ may. Licensed false may ties) (k ∷ []) (reverse front ++ back) (sorted_reverse q p opp) g.2)),
    subst (Keeps any_bound (k ∷ [])) (turned_line front back) (Keeps_trans any_bound _ _ _ g.3 (Keeps_permuted any_bound _ _ (IsPermutation-reverse (reverse front ++ back)))),
  )
  given_turn k Found.Torn g = (g.1, g.0, λ may xs r s. g.2 (turned may) (reverse xs) (mirror_all may (k ∷ []) xs r) (sorted_reverse p q opp_sym xs ∙ s))
    where
      opp_sym : Opposite p q
      opp_sym x = elim (p x) as (λ b. q x ≡ not b → b ≡ not (q x)) [ true ↦ λ e. sym (ap (λ z. not z) e) | false ↦ λ e. sym (ap (λ z. not z) e) ] (opp x)

  -- and so for a row
  pub zip_turn : (ks : List Node) (fs : List Found) → AllZip (IsGiven q p) ks fs
      → AllZip (IsGiven p q) ks (map turn_found fs)
  zip_turn [] [] z = z
  zip_turn [] (f ∷ fs) z = absurd z
  zip_turn (k ∷ ks) [] z = absurd z
  zip_turn (k ∷ ks) (f ∷ fs) z = (given_turn k f z.0, zip_turn ks fs z.1)

  -- behind a first kid that meets the set, where two meet it, not all are outside
  pub met_rest : (k : Node) (ks : List Node) → has_all q k ≡ false → 2 ≤ length (filter (is_met q) (k ∷ ks))
      → list_all (has_all q) ks ≡ false
  met_rest k ks out two = go ks (subst (λ x. 2 ≤ length (cond (not x) (k ∷ filter (is_met q) ks) (filter (is_met q) ks))) out two)
    where
      go : (js : List Node) → 2 ≤ length (k ∷ filter (is_met q) js) → list_all (has_all q) js ≡ false
      go js le = ⊎_elim
          (λ all. let none : filter (is_met q) js ≡ [] = filter_none (is_met q) js (all_weaker (has_all q) (has_all q) _ (λ j x y. ap (λ z. not (not z)) x) js all all) in
          let l = ap length none in absurd (omega (arith, l, le)))
          (λ e. e) (cases_Bool (list_all (has_all q) js))

  -- behind a first kid outside, where two meet the set, two do
  pub met_later : (k : Node) (ks : List Node) → has_all q k ≡ true → 2 ≤ length (filter (is_met q) (k ∷ ks))
      → 2 ≤ length (filter (is_met q) ks)
  met_later k ks out two = subst (λ x. 2 ≤ length (cond (not x) (k ∷ filter (is_met q) ks) (filter (is_met q) ks))) out two

  -- turned, a row is all inside where it was all outside
  out_turned : (fs : List Found) → list_all is_in (map turn_found fs) ≡ list_all is_out fs
  out_turned [] = refl
  out_turned (Found.Out m ∷ fs) = out_turned fs
  out_turned (Found.In m ∷ fs) = refl
  out_turned (Found.Line front back ties ∷ fs) = refl
  out_turned (Found.Torn ∷ fs) = refl

  -- turned, a row goes from outside to inside where it went from inside to outside
  leaving_turned : (fs : List Found) → found_sorted (map turn_found fs) ≡ found_leaving fs
  leaving_turned [] = refl
  leaving_turned (Found.Out m ∷ fs) = out_turned fs
  leaving_turned (Found.In m ∷ fs) = leaving_turned fs
  leaving_turned (Found.Line front back ties ∷ fs) = out_turned fs
  leaving_turned (Found.Torn ∷ fs) = out_turned fs

  -- the test of a row is the test of what its nodes are
  pub zip_found_run : (ks : List Node) (fs : List Found) → AllZip (IsGiven q p) ks fs → row_run q p ks ≡ found_run fs
  zip_found_run [] [] z = refl
  zip_found_run [] (f ∷ fs) z = absurd z
  zip_found_run (k ∷ ks) [] z = absurd z
  zip_found_run (k ∷ ks) (f ∷ fs) z =
      rw (given_out q p k f z.0, zip_found_run ks fs z.1, zip_sorted p q ks (map turn_found fs) (zip_turn ks fs z.1), leaving_turned fs) refl

  -- a row that enters the set in its first kid and leaves it later is like the line of this kid and the others turned
  turn_rest : (k : Node) (ks : List Node) (f : Found) (fs : List Found) → IsGiven q p k f → has_all q k ≡ false
      → list_all (has_all q) ks ≡ false → AllZip (IsGiven q p) ks fs → found_leaving fs ≡ true
      → IsLike (sorted q p) (λ may. Grant may f) (k ∷ []) (line_of f)
      → IsLike (together q p) (λ may. Grants may (f ∷ map turn_found fs)) (k ∷ ks) (flat_line (f ∷ map turn_found fs))
  turn_rest k ks f fs g out rest z h like =
      run_here q p (λ may. Grant may f) (λ may. Grants may (map turn_found fs)) k ks (line_of f) (flat_line (map turn_found fs)) out rest like
      (zip_like p q (opposite_sym q p opp) ks (map turn_found fs) (zip_turn ks fs z) (leaving_turned fs ∙ h))

  -- a row that the set runs through, by what its nodes are
  pub zip_run : (ks : List Node) (fs : List Found) → AllZip (IsGiven q p) ks fs → 2 ≤ length (filter (is_met q) ks)
      → found_run fs ≡ true
      → IsLike (together q p) (λ may. Grants may (turn_behind fs)) ks (flat_line (turn_behind fs))
  zip_run [] [] z two h = absurd (omega arith)
  zip_run [] (f ∷ fs) z two h = absurd z
  zip_run (k ∷ ks) [] z two h = absurd z
  zip_run (k ∷ ks) (Found.Out m ∷ fs) z two h =
      like_again (together q p) (λ may. Grants may (turn_behind fs)) (λ may. Unit {0} × Grants may (turn_behind fs)) (k ∷ ks) (m ∷ flat_line (turn_behind fs)) (λ may. (λ g. (tt, g), λ g. g.1))
      (subst (λ n. IsLike (together q p) (λ may. Grants may (turn_behind fs)) (k ∷ ks) (n ∷ flat_line (turn_behind fs))) (sym z.0.2)
      (like_front q (together q p) (λ may. Grants may (turn_behind fs)) k ks (flat_line (turn_behind fs)) (together_front q p) z.0.0 (zip_run ks fs z.1 (met_later k ks z.0.0 two) h)))
  zip_run (k ∷ ks) (Found.In m ∷ fs) z two h =
      turn_rest k ks (Found.In m) fs z.0 z.0.0 (met_rest k ks z.0.0 two) z.1 h
      (subst (λ n. IsLike (sorted q p) (λ may. Unit {0}) (k ∷ []) (n ∷ [])) (sym z.0.2) (like_full q p (λ may. Unit {0}) opp (k ∷ []) (and_from _ _ z.0.1 refl) (λ may. tt)))
  zip_run (k ∷ ks) (Found.Line front back ties ∷ fs) z two h = turn_rest k ks (Found.Line front back ties) fs z.0 z.0.0 (met_rest k ks z.0.0 two) z.1 h z.0.2
  zip_run (k ∷ ks) (Found.Torn ∷ fs) z two h = turn_rest k ks Found.Torn fs z.0 z.0.0 (met_rest k ks z.0.0 two) z.1 h (never_like (sorted q p) (k ∷ []) [] z.0.2)

  -- the line of such a row keeps all, and is not shorter, where no kid is torn
  keeps_rest : (k : Node) (ks : List Node) (f : Found) (fs : List Found) → IsGiven q p k f → AllZip (IsGiven q p) ks fs
      → list_any is_torn (f ∷ map turn_found fs) ≡ false
      → Keeps any_bound (k ∷ ks)
      (flat_line (f ∷ map turn_found fs)) × (length (k ∷ ks) ≤ length (flat_line (f ∷ map turn_found fs)))
  keeps_rest k ks f fs g z t =
      let both = or_parts (is_torn f) (list_any is_torn (map turn_found fs)) t in
      let zz : AllZip (IsGiven q p) (k ∷ []) (f ∷ []) = (g, tt) in
      let head : list_any is_torn (f ∷ []) ≡ false = ap (λ x. x || false) both.0 in
      let first = zip_keeps q p (k ∷ []) (f ∷ []) zz head in
      let rest = zip_keeps p q ks (map turn_found fs) (zip_turn ks fs z) both.1 in
      let l1 = zip_long q p (k ∷ []) (f ∷ []) zz head in
      let l2 = zip_long p q ks (map turn_found fs) (zip_turn ks fs z) both.1 in
      let e : flat_line (f ∷ []) ≡ line_of f = append-nil (line_of f) in
      let l3 = length-append (line_of f) (flat_line (map turn_found fs)) in
      let l4 = ap length e in
      (Keeps_append any_bound (k ∷ []) (line_of f) ks (flat_line (map turn_found fs)) (subst (Keeps any_bound (k ∷ [])) e first) rest, omega (arith, l1, l2, l3, l4))
    where
      or_parts : (a b : Bool) → (a || b) ≡ false → (a ≡ false) × (b ≡ false)
      or_parts true b e = absurd (true≢false e)
      or_parts false b e = (refl, e)

  -- the row that comes of it keeps what the nodes keep
  pub keeps_run : (ks : List Node) (fs : List Found) → AllZip (IsGiven q p) ks fs
      → list_any is_torn (turn_behind fs) ≡ false
      → Keeps any_bound ks (flat_line (turn_behind fs)) × (length ks ≤ length (flat_line (turn_behind fs)))
  keeps_run [] [] z t = (Keeps_refl any_bound [], omega arith)
  keeps_run [] (f ∷ fs) z t = absurd z
  keeps_run (k ∷ ks) [] z t = absurd z
  keeps_run (k ∷ ks) (Found.Out m ∷ fs) z t =
      let g = keeps_run ks fs z.1 t in
      let l = g.1 in
      (Keeps_append any_bound (k ∷ []) (m ∷ []) ks (flat_line (turn_behind fs)) (subst (λ n. Keeps any_bound (k ∷ []) (n ∷ [])) (sym z.0.2) (Keeps_refl any_bound (k ∷ []))) g.0, omega (arith, l))
  keeps_run (k ∷ ks) (Found.In m ∷ fs) z t = keeps_rest k ks (Found.In m) fs z.0 z.1 t
  keeps_run (k ∷ ks) (Found.Line front back ties ∷ fs) z t = keeps_rest k ks (Found.Line front back ties) fs z.0 z.1 t
  keeps_run (k ∷ ks) (Found.Torn ∷ fs) z t = keeps_rest k ks Found.Torn fs z.0 z.1 t

  -- refusals
  outs_sorted : (ks : List Node) → list_all (has_all q) ks ≡ true → row_sorted p q ks ≡ true
  outs_sorted [] h = refl
  outs_sorted (k ∷ ks) h = let g = and_parts (has_all q k) (list_all (has_all q) ks) h in
      elim (has_all p k) as (λ b. cond b (row_sorted p q ks) (list_all (has_all q) ks) ≡ true) [ true ↦ outs_sorted ks g.1 | false ↦ g.1 ]

  -- a row with a reading that has the set together is a run between kids outside
  pub row_run_of : (may : ℕ → Bool → Bool) (ks : List Node) (xs : List ℕ) → ReadsAll may ks xs → together q p xs ≡ true
      → row_run q p ks ≡ true
  row_run_of may [] xs r t = refl
  row_run_of may (k ∷ ks) xs r t =
      let h = ReadsAll_cons may k ks xs r in
      let w : together q p (h.0 ++ h.1) ≡ true = ap (together q p) (sym h.2) ∙ t in
      ⊎_elim
      (λ out. ap (λ b. cond b (row_run q p ks) (row_sorted p q ks)) out ∙ row_run_of may ks h.1 h.4 (sym (together_front q p h.0 h.1 (class_read q may k h.0 h.3 ∙ out)) ∙ w))
      (λ out. ap (λ b. cond b (row_run q p ks) (row_sorted p q ks)) out ∙ ⊎_elim
      (λ s. row_sorted_of p q may ks h.1 h.4 (sym (together_start q p h.0 h.1 (class_read q may k h.0 h.3 ∙ out) s) ∙ w))
      (λ s. outs_sorted ks (sym (class_row q may ks h.1 h.4) ∙ (and_parts _ _ (sym (together_whole q p h.0 h.1 s) ∙ w)).1))
      (cases_Bool (sorted q p h.0)))
      (cases_Bool (has_all q k))

  -- a Q-node whose kids are no run between kids outside never has the set together
  pub Q_refused : (v : ℕ) (ks : List Node) → row_run q p ks ≡ false → IsNever (together q p) (Q v ks ∷ [])
  Q_refused v ks bad may xs r t =
      ⊎_elim
      (λ h. both_ways (row_run q p ks) bad (row_run_of may ks xs h.1 t))
      (λ h. both_ways (row_run q p ks) bad (row_run_of (turned may) ks (reverse xs) (mirror_row may ks xs h.1) (together_reverse q p opp xs ∙ t)))
      (Reads_Q may v ks xs (ReadsAll_one may (Q v ks) xs r))

  -- a kid outside is not mixed
  mix_out : (x y : Bool) → x ≡ true → not (not x && not y) ≡ true
  mix_out true y e = refl
  mix_out false y e = absurd (false≢true e)

  -- a kid inside is not mixed
  mix_in : (x y : Bool) → y ≡ true → not (not x && not y) ≡ true
  mix_in true y e = refl
  mix_in false true e = refl
  mix_in false false e = absurd (false≢true e)

  -- a row of kids inside, then outside, has one mixed kid at most
  sorted_mixed : (ks : List Node) → row_sorted p q ks ≡ true → length (filter (is_mixed q p) ks) ≤ 1
  sorted_mixed ks h =
      let s = split_sorted p q ks h in
      let a : filter (is_mixed q p) s.a ≡ [] = filter_none (is_mixed q p) s.a (all_weaker (has_all p) (has_all p) _ (λ k x y. mix_in (has_all q k) (has_all p k) x) s.a s.out s.out) in
      let b : filter (is_mixed q p) s.b ≡ [] = filter_none (is_mixed q p) s.b (all_weaker (has_all q) (has_all q) _ (λ k x y. mix_out (has_all q k) (has_all p k) x) s.b s.full s.full) in
      let e : filter (is_mixed q p) ks ≡ filter (is_mixed q p) s.m = ap (filter (is_mixed q p)) s.is ∙ filter-append (is_mixed q p) s.a (s.m ++ s.b) ∙ ap₂ (λ x y. x ++ y) a (filter-append (is_mixed q p) s.m s.b ∙ ap (λ z. filter (is_mixed q p) s.m ++ z) b ∙ append-nil _) in
      subst (λ z. length z ≤ 1) (sym e) (short s.m s.mixed.0)
    where
      short : (m : List Node) → length m ≤ 1 → length (filter (is_mixed q p) m) ≤ 1
      short [] le = omega arith
      short (k ∷ []) le = elim (is_mixed q p k) as (λ b. length (cond b (k ∷ []) []) ≤ 1) [ true ↦ omega arith | false ↦ omega arith ]
      short (k ∷ j ∷ m) le = absurd (omega arith)

  -- a run between kids outside has two mixed kids at most
  run_mixed : (ks : List Node) → row_run q p ks ≡ true → length (filter (is_mixed q p) ks) ≤ 2
  run_mixed [] h = omega arith
  run_mixed (k ∷ ks) h =
      ⊎_elim
      (λ out. let le = run_mixed ks (sym (ap (λ b. cond b (row_run q p ks) (row_sorted p q ks)) out) ∙ h) in
      subst (λ x. length (cond (not x && not (has_all p k)) (k ∷ filter (is_mixed q p) ks) (filter (is_mixed q p) ks)) ≤ 2) (sym out) le)
      (λ out. let le = sorted_mixed ks (sym (ap (λ b. cond b (row_run q p ks) (row_sorted p q ks)) out) ∙ h) in
      elim (is_mixed q p k) as (λ b. length (cond b (k ∷ filter (is_mixed q p) ks) (filter (is_mixed q p) ks)) ≤ 2) [ true ↦ omega arith | false ↦ omega arith ])
      (cases_Bool (has_all q k))

  -- a P-node with three mixed kids never has the set together
  pub P_refused : (o : ℕ) (ks : List Node) → 3 ≤ length (filter (is_mixed q p) ks)
      → IsNever (together q p) (P o ks ∷ [])
  P_refused o ks three may xs r t =
      let s = Reads_P may o ks xs (ReadsAll_one may (P o ks) xs r) in
      let le = run_mixed s.0 (row_run_of may s.0 xs s.2 t) in
      let e : length (filter (is_mixed q p) s.0) ≡ length (filter (is_mixed q p) ks) = length_permutation _ _ (IsPermutation-filter (is_mixed q p) ks s.0 s.1) in
      omega (arith, e, le, three)
