-- Rows of kids with what each is.
use Rattle.std.proofs.Common.{◌≡◌, ℕ, ◌≤◌, Bool, true, false, cond, not, ◌&&◌, ◌↔◌, ◌⊎◌, List, [], ◌∷◌, ◌++◌, length, length-append, flat_map, filter, reverse, refl, sym, ap, ap₂, ◌∙◌, subst, subst₂, inl, inr, ⊎_elim, arith}
use Rattle.std.specs.List.{list_all, list_any, AllZip}
use Rattle.std.proofs.lemmas.Bool.{both_ways, true≢false, false≢true, cases_Bool, and_parts, and_from}
use Rattle.std.proofs.lemmas.List.{reverse-append, reverse-reverse}
use Rattle.std.proofs.lemmas.List.Folds.{list_all-append}
use Rattle.std.proofs.lemmas.List.Sorted.{IsPermutation-reverse, list_any-IsPermutation}
use Rattle.cp_pq.specs.declared.node.Node.{Node}
use Rattle.cp_pq.specs.declared.found.Found.{Found}
use Rattle.cp_pq.specs.Words.{is_mixed, Opposite, sorted, has_all, row_sorted, Licensed, IsLike, is_clear}
use Rattle.cp_pq.specs.Founds.{IsGiven, Sorts, is_out, is_in, is_torn, found_sorted, flat_line, flat_ties, out_node, in_node, mixed_found}
use Rattle.cp_pq.specs.Keeping.{any_bound, Keeps}
use Rattle.cp_pq.specs.Grants.{Grants}
use Rattle.cp_pq.proofs.Permutations.{list_all-IsPermutation}
use Rattle.cp_pq.proofs.Mirrors.{like_again}
use Rattle.cp_pq.proofs.WordLaws.{sorted_front}
use Rattle.cp_pq.proofs.Rows.{like_nil, like_front, sorted_here, row_all}
use Rattle.cp_pq.proofs.NodeLayers.{all_leaves_nil}
use Rattle.cp_pq.proofs.NodeTests.{all_one}
use Rattle.cp_pq.proofs.KeepingLaws.{Keeps_refl, Keeps_append}
use Rattle.cp_pq.proofs.Lines.{like_full}
use Rattle.cp_pq.proofs.Closes.{never_like, false_unless}

-- a node is outside where it was found so
pub given_out : (q p : ℕ → Bool) (k : Node) (f : Found) → IsGiven q p k f → has_all q k ≡ is_out f
given_out q p k (Found.Out m) g = g.0
given_out q p k (Found.In m) g = g.0
given_out q p k (Found.Line front back ties) g = g.0
given_out q p k Found.Torn g = g.0

-- a node is inside where it was found so
pub given_in : (q p : ℕ → Bool) (k : Node) (f : Found) → IsGiven q p k f → has_all p k ≡ is_in f
given_in q p k (Found.Out m) g = g.1
given_in q p k (Found.In m) g = g.1
given_in q p k (Found.Line front back ties) g = g.1
given_in q p k Found.Torn g = g.1

module _ (q p : ℕ → Bool) where
  -- a row is outside where all of it was found so
  pub zip_out : (ks : List Node) (fs : List Found) → AllZip (IsGiven q p) ks fs
      → list_all (has_all q) ks ≡ list_all is_out fs
  zip_out [] [] z = refl
  zip_out [] (f ∷ fs) z = absurd z
  zip_out (k ∷ ks) [] z = absurd z
  zip_out (k ∷ ks) (f ∷ fs) z = ap₂ (λ a b. a && b) (given_out q p k f z.0) (zip_out ks fs z.1)

  -- a row is inside where all of it was found so
  pub zip_in : (ks : List Node) (fs : List Found) → AllZip (IsGiven q p) ks fs
      → list_all (has_all p) ks ≡ list_all is_in fs
  zip_in [] [] z = refl
  zip_in [] (f ∷ fs) z = absurd z
  zip_in (k ∷ ks) [] z = absurd z
  zip_in (k ∷ ks) (f ∷ fs) z = ap₂ (λ a b. a && b) (given_in q p k f z.0) (zip_in ks fs z.1)

  -- a row is sorted where it was found so
  pub zip_sorted : (ks : List Node) (fs : List Found) → AllZip (IsGiven q p) ks fs → row_sorted q p ks ≡ found_sorted fs
  zip_sorted [] [] z = refl
  zip_sorted [] (f ∷ fs) z = absurd z
  zip_sorted (k ∷ ks) [] z = absurd z
  zip_sorted (k ∷ ks) (f ∷ fs) z = rw (given_out q p k f z.0, zip_sorted ks fs z.1, zip_in ks fs z.1) refl

  -- no kid of a row with what it was found to be is outside and inside at once
  pub zip_clear : (ks : List Node) (fs : List Found) → AllZip (IsGiven q p) ks fs → list_all (is_clear q p) ks ≡ true
  zip_clear [] [] z = refl
  zip_clear [] (f ∷ fs) z = absurd z
  zip_clear (k ∷ ks) [] z = absurd z
  zip_clear (k ∷ ks) (f ∷ fs) z = and_from _ _ (rw (given_out q p k f z.0, given_in q p k f z.0) (one f)) (zip_clear ks fs z.1)
    where
      one : (f : Found) → not (is_out f && is_in f) ≡ true
      one (Found.Out m) = refl
      one (Found.In m) = refl
      one (Found.Line front back ties) = refl
      one Found.Torn = refl

  -- a row with what it was found to be, and one node more with its own
  pub zip_push : (ks : List Node) (fs : List Found) (k : Node) (f : Found) → AllZip (IsGiven q p) ks fs
      → IsGiven q p k f → AllZip (IsGiven q p) (ks ++ k ∷ []) (fs ++ f ∷ [])
  zip_push [] [] k f z g = (g, tt)
  zip_push [] (j ∷ fs) k f z g = absurd z
  zip_push (j ∷ ks) [] k f z g = absurd z
  zip_push (j ∷ ks) (h ∷ fs) k f z g = (z.0, zip_push ks fs k f z.1 g)

  -- and the row from right to left
  pub zip_reverse : (ks : List Node) (fs : List Found) → AllZip (IsGiven q p) ks fs
      → AllZip (IsGiven q p) (reverse ks) (reverse fs)
  zip_reverse [] [] z = z
  zip_reverse [] (f ∷ fs) z = absurd z
  zip_reverse (k ∷ ks) [] z = absurd z
  zip_reverse (k ∷ ks) (f ∷ fs) z = subst₂ (AllZip (IsGiven q p)) (sym (reverse-append (k ∷ []) ks)) (sym (reverse-append (f ∷ []) fs)) (zip_push (reverse ks) (reverse fs) k f (zip_reverse ks fs z.1) z.0)

  -- kids that are whole stand as they are
  pub zip_full : (ks : List Node) (fs : List Found) → AllZip (IsGiven q p) ks fs → list_all is_in fs ≡ true
      → (flat_line fs ≡ ks) × ((may : ℕ → Bool → Bool) → Grants may fs)
  zip_full [] [] z h = (refl, λ may. tt)
  zip_full [] (f ∷ fs) z h = absurd z
  zip_full (k ∷ ks) [] z h = absurd z
  zip_full (k ∷ ks) (Found.Out m ∷ fs) z h = absurd (false≢true h)
  zip_full (k ∷ ks) (Found.In m ∷ fs) z h = let g = zip_full ks fs z.1 h in (ap₂ (λ a b. a ∷ b) z.0.2 g.0, λ may. (tt, g.1 may))
  zip_full (k ∷ ks) (Found.Line front back ties ∷ fs) z h = absurd (false≢true h)
  zip_full (k ∷ ks) (Found.Torn ∷ fs) z h = absurd (false≢true h)

  -- the line of a row that is outside is the row
  pub zip_empty : (ks : List Node) (fs : List Found) → AllZip (IsGiven q p) ks fs → list_all is_out fs ≡ true
      → flat_line fs ≡ ks
  zip_empty [] [] z h = refl
  zip_empty [] (f ∷ fs) z h = absurd z
  zip_empty (k ∷ ks) [] z h = absurd z
  zip_empty (k ∷ ks) (Found.Out m ∷ fs) z h = ap₂ (λ a b. a ∷ b) z.0.2 (zip_empty ks fs z.1 h)
  zip_empty (k ∷ ks) (Found.In m ∷ fs) z h = absurd (false≢true h)
  zip_empty (k ∷ ks) (Found.Line front back ties ∷ fs) z h = absurd (false≢true h)
  zip_empty (k ∷ ks) (Found.Torn ∷ fs) z h = absurd (false≢true h)

  -- a sorted row is like its line, where the ties of the lines are granted
  pub zip_like : Opposite q p → (ks : List Node) (fs : List Found) → AllZip (IsGiven q p) ks fs → found_sorted fs ≡ true
      → IsLike (sorted q p) (λ may. Grants may fs) ks (flat_line fs)
  zip_like opp [] [] z h = like_nil (sorted q p) refl
  zip_like opp [] (f ∷ fs) z h = absurd z
  zip_like opp (k ∷ ks) [] z h = absurd z
  zip_like opp (k ∷ ks) (Found.Out m ∷ fs) z h =
      like_again (sorted q p) (λ may. Grants may fs) (λ may. Unit {0} × Grants may fs) (k ∷ ks) (m ∷ flat_line fs) (λ may. (λ g. (tt, g), λ g. g.1))
      (subst (λ n. IsLike (sorted q p) (λ may. Grants may fs) (k ∷ ks) (n ∷ flat_line fs)) (sym z.0.2) (like_front q (sorted q p) (λ may. Grants may fs) k ks (flat_line fs) (sorted_front q p) z.0.0 (zip_like opp ks fs z.1 h)))
  zip_like opp (k ∷ ks) (Found.In m ∷ fs) z h =
      let g = zip_full ks fs z.1 h in
      subst (IsLike (sorted q p) (λ may. Unit {0} × Grants may fs) (k ∷ ks)) (sym (ap₂ (λ a b. a ∷ b) z.0.2 g.0))
      (like_full q p (λ may. Unit {0} × Grants may fs) opp (k ∷ ks) (and_from _ _ z.0.1 (zip_in ks fs z.1 ∙ h)) (λ may. (tt, g.1 may)))
  zip_like opp (k ∷ ks) (Found.Line front back ties ∷ fs) z h =
      let g = zip_full ks fs z.1 h in
      like_again (sorted q p) (λ may. Licensed false may ties) (λ may. Licensed false may ties × Grants may fs) (k ∷ ks) ((reverse front ++ back) ++ flat_line fs) (λ may. (λ x. (x, g.1 may), λ x. x.0))
      (subst (λ r. IsLike (sorted q p) (λ may. Licensed false may ties) (k ∷ ks) ((reverse front ++ back) ++ r)) (sym g.0) (sorted_here q p (λ may. Licensed false may ties) k ks (reverse front ++ back) z.0.0 (zip_in ks fs z.1 ∙ h) z.0.2))
  zip_like opp (k ∷ ks) (Found.Torn ∷ fs) z h =
      let g = zip_full ks fs z.1 h in
      like_again (sorted q p) (λ may. ⊥) (λ may. ⊥ × Grants may fs) (k ∷ ks) (flat_line fs) (λ may. (λ x. absurd x, λ x. x.0))
      (subst (λ r. IsLike (sorted q p) (λ may. ⊥) (k ∷ ks) r) (sym g.0) (sorted_here q p (λ may. ⊥) k ks [] z.0.0 (zip_in ks fs z.1 ∙ h) (never_like (sorted q p) (k ∷ []) [] z.0.2)))

-- ties that are licensed are licensed together
pub licence_join : (d : Bool) (may : ℕ → Bool → Bool) (ts us : List (ℕ × Bool)) → Licensed d may ts → Licensed d may us
    → Licensed d may (ts ++ us)
licence_join d may [] us a b = b
licence_join d may (t ∷ ts) us a b = (a.0, licence_join d may ts us a.1 b)

-- and apart
pub licence_cut : (d : Bool) (may : ℕ → Bool → Bool) (ts us : List (ℕ × Bool)) → Licensed d may (ts ++ us)
    → Licensed d may ts × Licensed d may us
licence_cut d may [] us h = (tt, h)
licence_cut d may (t ∷ ts) us h = let g = licence_cut d may ts us h.1 in ((h.0, g.0), g.1)

-- where none is torn, what a row asks of a licence is the ties of all its lines
pub grants_ties : (may : ℕ → Bool → Bool) (fs : List Found) → list_any is_torn fs ≡ false
    → Grants may fs ↔ Licensed false may (flat_ties fs)
grants_ties may [] h = (λ g. g, λ g. g)
grants_ties may (Found.Out m ∷ fs) h = let r = grants_ties may fs h in (λ g. r.0 g.1, λ g. (tt, r.1 g))
grants_ties may (Found.In m ∷ fs) h = let r = grants_ties may fs h in (λ g. r.0 g.1, λ g. (tt, r.1 g))
grants_ties may (Found.Line front back ties ∷ fs) h =
    let r = grants_ties may fs h in
    (λ g. licence_join false may ties (flat_ties fs) g.0 (r.0 g.1), λ g. let c = licence_cut false may ties (flat_ties fs) g in (c.0, r.1 c.1))
grants_ties may (Found.Torn ∷ fs) h = absurd (true≢false h)

-- a row with a torn node asks what no licence can grant
pub grants_torn : (may : ℕ → Bool → Bool) (fs : List Found) → list_any is_torn fs ≡ true → Grants may fs → ⊥
grants_torn may [] h g = false≢true h
grants_torn may (Found.Out m ∷ fs) h g = grants_torn may fs h g.1
grants_torn may (Found.In m ∷ fs) h g = grants_torn may fs h g.1
grants_torn may (Found.Line front back ties ∷ fs) h g = grants_torn may fs h g.1
grants_torn may (Found.Torn ∷ fs) h g = g.0

-- a row that is sorted both ways is outside, inside, or one kid
module _ (q p : ℕ → Bool) where
  -- a sorted row with a last kid outside is outside
  last_out : (ks : List Node) (x : Node) → row_sorted q p (ks ++ x ∷ []) ≡ true → has_all q x ≡ true
      → has_all p x ≡ false → list_all (has_all q) (ks ++ x ∷ []) ≡ true
  last_out [] x r o i = and_from _ _ o refl
  last_out (k ∷ ks) x r o i =
      ⊎_elim
      (λ e. and_from _ _ e (last_out ks x (sym (ap (λ b. cond b (row_sorted q p (ks ++ x ∷ [])) (list_all (has_all p) (ks ++ x ∷ []))) e) ∙ r) o i))
      (λ e. let full : list_all (has_all p) (ks ++ x ∷ []) ≡ true = sym (ap (λ b. cond b (row_sorted q p (ks ++ x ∷ [])) (list_all (has_all p) (ks ++ x ∷ []))) e) ∙ r in
      absurd (both_ways _ i (and_parts _ _ (and_parts _ _ (sym (list_all-append (has_all p) ks (x ∷ [])) ∙ full)).1).0))
      (cases_Bool (has_all q k))

  -- a clear kid inside is not outside
  pub clear_other : (k : Node) → is_clear q p k ≡ true → has_all p k ≡ true → has_all q k ≡ false
  clear_other k = elim (has_all p k) as (λ b. not (has_all q k && b) ≡ true → b ≡ true → has_all q k ≡ false) [
    | true ↦ elim (has_all q k) as (λ a. not (a && true) ≡ true → true ≡ true → a ≡ false) [ true ↦ λ c h. absurd (false≢true c) | false ↦ λ c h. refl ]
    | false ↦ λ c h. absurd (false≢true h)
  ]

  -- a row sorted in both directions is outside, inside or no longer than one
  both_at : (r : List Node) (x : Node) → list_all (is_clear q p) (r ++ x ∷ []) ≡ true
      → row_sorted q p (r ++ x ∷ []) ≡ true → row_sorted q p (x ∷ reverse r) ≡ true
      → (list_all (has_all q) (r ++ x ∷ []) ≡ true) ⊎ ((list_all (has_all p) (r ++ x ∷ []) ≡ true)
      ⊎ (length (r ++ x ∷ []) ≤ 1))
  both_at [] x c a b = inr (inr (omega arith))
  both_at (k ∷ r) x c a b =
      ⊎_elim
      (λ o. inl (last_out (k ∷ r) x a o (false_unless _ (λ i. both_ways _ (clear_other x (and_parts _ _ (and_parts _ _ (sym (list_all-append (is_clear q p) (k ∷ r) (x ∷ [])) ∙ c)).1).0 i) o))))
      (λ o. let full : list_all (has_all p) (k ∷ r) ≡ true = list_all-IsPermutation (has_all p) (k ∷ r) (reverse (k ∷ r)) (IsPermutation-reverse (k ∷ r)) ∙ sym (ap (λ b. cond b (row_sorted q p (reverse (k ∷ r))) (list_all (has_all p) (reverse (k ∷ r)))) o) ∙ b in
      let first = (and_parts _ _ full).0 in
      let not_out = clear_other k (and_parts _ _ c).0 first in
      let rest : list_all (has_all p) (r ++ x ∷ []) ≡ true = sym (ap (λ b. cond b (row_sorted q p (r ++ x ∷ [])) (list_all (has_all p) (r ++ x ∷ []))) not_out) ∙ a in
      inr (inl (and_from _ _ first rest)))
      (cases_Bool (has_all q x))

  -- and so for a row and its reverse
  both_by : (rs ks : List Node) → ks ≡ reverse rs → list_all (is_clear q p) ks ≡ true → row_sorted q p ks ≡ true
      → row_sorted q p rs ≡ true
      → (list_all (has_all q) ks ≡ true) ⊎ ((list_all (has_all p) ks ≡ true) ⊎ (length ks ≤ 1))
  both_by [] ks e c a b = inr (inr (omega (arith, ap length e)))
  both_by (x ∷ rs) ks e c a b =
      let f : ks ≡ reverse rs ++ x ∷ [] = e ∙ reverse-append (x ∷ []) rs in
      subst (λ z. (list_all (has_all q) z ≡ true) ⊎ ((list_all (has_all p) z ≡ true) ⊎ (length z ≤ 1))) (sym f)
      (both_at (reverse rs) x (subst (λ z. list_all (is_clear q p) z ≡ true) f c) (subst (λ z. row_sorted q p z ≡ true) f a) (subst (λ z. row_sorted q p (x ∷ z) ≡ true) (sym (reverse-reverse rs)) b))

  -- two kids or more, neither all outside nor all inside, are not sorted in both directions
  pub not_both : (ks : List Node) → 2 ≤ length ks → list_all (is_clear q p) ks ≡ true → list_all (has_all q) ks ≡ false
      → list_all (has_all p) ks ≡ false → row_sorted q p ks ≡ true → row_sorted q p (reverse ks) ≡ true → ⊥
  not_both ks two c nq np a b =
      ⊎_elim (λ h. both_ways _ nq h) (λ h. ⊎_elim (λ h. both_ways _ np h) (λ le. absurd (omega arith)) h) (both_by (reverse ks) ks (sym (reverse-reverse ks)) c a b)

-- the row of what the nodes of a row become keeps what they keep
module _ (q p : ℕ → Bool) where
  -- a row with no torn kid keeps all as its line
  pub zip_keeps : (ks : List Node) (fs : List Found) → AllZip (IsGiven q p) ks fs → list_any is_torn fs ≡ false
      → Keeps any_bound ks (flat_line fs)
  zip_keeps [] [] z t = Keeps_refl any_bound []
  zip_keeps [] (f ∷ fs) z t = absurd z
  zip_keeps (k ∷ ks) [] z t = absurd z
  zip_keeps (k ∷ ks) (Found.Out m ∷ fs) z t =
      Keeps_append any_bound (k ∷ []) (m ∷ []) ks (flat_line fs) (subst (λ n. Keeps any_bound (k ∷ []) (n ∷ [])) (sym z.0.2) (Keeps_refl any_bound (k ∷ []))) (zip_keeps ks fs z.1 t)
  zip_keeps (k ∷ ks) (Found.In m ∷ fs) z t =
      Keeps_append any_bound (k ∷ []) (m ∷ []) ks (flat_line fs) (subst (λ n. Keeps any_bound (k ∷ []) (n ∷ [])) (sym z.0.2) (Keeps_refl any_bound (k ∷ []))) (zip_keeps ks fs z.1 t)
  zip_keeps (k ∷ ks) (Found.Line front back ties ∷ fs) z t = Keeps_append any_bound (k ∷ []) (reverse front ++ back) ks (flat_line fs) z.0.3 (zip_keeps ks fs z.1 t)
  zip_keeps (k ∷ ks) (Found.Torn ∷ fs) z t = absurd (true≢false t)

  -- a line is not empty
  pub line_long : (k : Node) (line : List Node) → has_all q k ≡ false → Keeps any_bound (k ∷ []) line → 1 ≤ length line
  line_long k [] out keeps =
      let none : has_all q k ≡ true = sym (all_one (has_all q) k) ∙ sym (row_all q (k ∷ [])) ∙ list_all-IsPermutation q _ _ keeps.leaves_kept ∙ ap (list_all q) all_leaves_nil in
      absurd (both_ways (has_all q k) out none)
  line_long k (x ∷ line) out keeps = omega arith

  -- and its line is not shorter
  pub zip_long : (ks : List Node) (fs : List Found) → AllZip (IsGiven q p) ks fs → list_any is_torn fs ≡ false
      → length ks ≤ length (flat_line fs)
  zip_long [] [] z t = omega arith
  zip_long [] (f ∷ fs) z t = absurd z
  zip_long (k ∷ ks) [] z t = absurd z
  zip_long (k ∷ ks) (Found.Out m ∷ fs) z t = let h = zip_long ks fs z.1 t in omega arith
  zip_long (k ∷ ks) (Found.In m ∷ fs) z t = let h = zip_long ks fs z.1 t in omega arith
  zip_long (k ∷ ks) (Found.Line front back ties ∷ fs) z t =
      let h = zip_long ks fs z.1 t in let g = line_long k (reverse front ++ back) z.0.0 z.0.3 in
      let l = length-append (reverse front ++ back) (flat_line fs) in omega arith
  zip_long (k ∷ ks) (Found.Torn ∷ fs) z t = absurd (true≢false t)

  -- the kids of a row by their kinds
  pub zip_outs : (ks : List Node) (fs : List Found) → AllZip (IsGiven q p) ks fs
      → flat_map out_node fs ≡ filter (has_all q) ks
  zip_outs [] [] z = refl
  zip_outs [] (f ∷ fs) z = absurd z
  zip_outs (k ∷ ks) [] z = absurd z
  zip_outs (k ∷ ks) (Found.Out m ∷ fs) z = ap₂ (λ a b. a ∷ b) z.0.2 (zip_outs ks fs z.1) ∙ sym (ap (λ c. cond c (k ∷ filter (has_all q) ks) (filter (has_all q) ks)) z.0.0)
  zip_outs (k ∷ ks) (Found.In m ∷ fs) z = zip_outs ks fs z.1 ∙ sym (ap (λ c. cond c (k ∷ filter (has_all q) ks) (filter (has_all q) ks)) z.0.0)
  zip_outs (k ∷ ks) (Found.Line front back ties ∷ fs) z = zip_outs ks fs z.1 ∙ sym (ap (λ c. cond c (k ∷ filter (has_all q) ks) (filter (has_all q) ks)) z.0.0)
  zip_outs (k ∷ ks) (Found.Torn ∷ fs) z = zip_outs ks fs z.1 ∙ sym (ap (λ c. cond c (k ∷ filter (has_all q) ks) (filter (has_all q) ks)) z.0.0)

  -- the kids found inside are those that are inside
  pub zip_ins : (ks : List Node) (fs : List Found) → AllZip (IsGiven q p) ks fs
      → flat_map in_node fs ≡ filter (has_all p) ks
  zip_ins [] [] z = refl
  zip_ins [] (f ∷ fs) z = absurd z
  zip_ins (k ∷ ks) [] z = absurd z
  zip_ins (k ∷ ks) (Found.In m ∷ fs) z = ap₂ (λ a b. a ∷ b) z.0.2 (zip_ins ks fs z.1) ∙ sym (ap (λ c. cond c (k ∷ filter (has_all p) ks) (filter (has_all p) ks)) z.0.1)
  zip_ins (k ∷ ks) (Found.Out m ∷ fs) z = zip_ins ks fs z.1 ∙ sym (ap (λ c. cond c (k ∷ filter (has_all p) ks) (filter (has_all p) ks)) z.0.1)
  zip_ins (k ∷ ks) (Found.Line front back ties ∷ fs) z = zip_ins ks fs z.1 ∙ sym (ap (λ c. cond c (k ∷ filter (has_all p) ks) (filter (has_all p) ks)) z.0.1)
  zip_ins (k ∷ ks) (Found.Torn ∷ fs) z = zip_ins ks fs z.1 ∙ sym (ap (λ c. cond c (k ∷ filter (has_all p) ks) (filter (has_all p) ks)) z.0.1)

  -- a kid that is not mixed is left out of the mixed ones
  skip_mixed : (k : Node) (ks : List Node) (ms : List Found) → is_mixed q p k ≡ false
      → AllZip (IsGiven q p) (filter (is_mixed q p) ks) ms → AllZip (IsGiven q p) (filter (is_mixed q p) (k ∷ ks)) ms
  skip_mixed k ks ms e z = subst (λ c. AllZip (IsGiven q p) (cond c (k ∷ filter (is_mixed q p) ks) (filter (is_mixed q p) ks)) ms) (sym e) z

  -- a mixed kid with what it was found to be is the first of the mixed ones
  take_mixed : (k : Node) (ks : List Node) (f : Found) (ms : List Found) → is_mixed q p k ≡ true → IsGiven q p k f
      → AllZip (IsGiven q p) (filter (is_mixed q p) ks) ms
      → AllZip (IsGiven q p) (filter (is_mixed q p) (k ∷ ks)) (f ∷ ms)
  take_mixed k ks f ms e g z = subst (λ c. AllZip (IsGiven q p) (cond c (k ∷ filter (is_mixed q p) ks) (filter (is_mixed q p) ks)) (f ∷ ms)) (sym e) (g, z)

  -- the mixed kids are given with what was found of the mixed ones
  pub zip_mixed : (ks : List Node) (fs : List Found) → AllZip (IsGiven q p) ks fs
      → AllZip (IsGiven q p) (filter (is_mixed q p) ks) (flat_map mixed_found fs)
  zip_mixed [] [] z = tt
  zip_mixed [] (f ∷ fs) z = absurd z
  zip_mixed (k ∷ ks) [] z = absurd z
  zip_mixed (k ∷ ks) (Found.Out m ∷ fs) z = skip_mixed k ks _ (ap₂ (λ a b. not a && not b) z.0.0 z.0.1) (zip_mixed ks fs z.1)
  zip_mixed (k ∷ ks) (Found.In m ∷ fs) z = skip_mixed k ks _ (ap₂ (λ a b. not a && not b) z.0.0 z.0.1) (zip_mixed ks fs z.1)
  zip_mixed (k ∷ ks) (Found.Line front back ties ∷ fs) z = take_mixed k ks (Found.Line front back ties) _ (ap₂ (λ a b. not a && not b) z.0.0 z.0.1) z.0 (zip_mixed ks fs z.1)
  zip_mixed (k ∷ ks) (Found.Torn ∷ fs) z = take_mixed k ks Found.Torn _ (ap₂ (λ a b. not a && not b) z.0.0 z.0.1) z.0 (zip_mixed ks fs z.1)

  -- the kids by what they were found to be are the kids by their kinds
  pub zip_sorts : (ks : List Node) (fs : List Found) → AllZip (IsGiven q p) ks fs
      → Sorts q p ks (flat_map out_node fs) (flat_map in_node fs) (flat_map mixed_found fs)
  zip_sorts ks fs z = record { clear = zip_clear q p ks fs z; outs_are = zip_outs ks fs z; ins_are = zip_ins ks fs z; mixed_are = zip_mixed ks fs z }

-- grants of a row from its end
grants_join : (may : ℕ → Bool → Bool) (fs gs : List Found) → Grants may fs → Grants may gs → Grants may (fs ++ gs)
grants_join may [] gs a b = b
grants_join may (f ∷ fs) gs a b = (a.0, grants_join may fs gs a.1 b)

-- a row from right to left asks the same of a licence
grants_back : (may : ℕ → Bool → Bool) (fs : List Found) → Grants may fs → Grants may (reverse fs)
grants_back may [] g = g
grants_back may (f ∷ fs) g = subst (Grants may) (sym (reverse-append (f ∷ []) fs)) (grants_join may (reverse fs) (f ∷ []) (grants_back may fs g.1) (g.0, tt))

-- and has a torn kid where the row does
pub torn_back : (fs : List Found) → list_any is_torn (reverse fs) ≡ list_any is_torn fs
torn_back fs = sym (list_any-IsPermutation is_torn fs (reverse fs) (IsPermutation-reverse fs))

-- the ties of a row from its end, before other ties
pub grants_licensed : (may : ℕ → Bool → Bool) (fs : List Found) (ts : List (ℕ × Bool)) → list_any is_torn fs ≡ false
    → (Licensed false may ts × Grants may fs) ↔ Licensed false may (flat_ties (reverse fs) ++ ts)
grants_licensed may fs ts h =
    let g = grants_ties may (reverse fs) (torn_back fs ∙ h) in (
      λ x. licence_join false may (flat_ties (reverse fs)) ts (g.0 (grants_back may fs x.1)) x.0,
      λ x. let c = licence_cut false may (flat_ties (reverse fs)) ts x in (c.1, subst (Grants may) (reverse-reverse fs) (grants_back may (reverse fs) (g.1 c.0))),
    )
