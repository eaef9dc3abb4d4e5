-- What the functions that cut a block out of a board gather.
use Rattle.std.proofs.Common.{◌≡◌, ◌≢◌, ℕ, suc, ◌+◌, ◌<◌, ◌≤◌, true, false, eqb, List, [], ◌∷◌, ◌++◌, length, filter, get_or, slice_index, take, sym, refl, ap, ◌∙◌, subst, inl, inr, ⊎_elim, arith}
use Rattle.std.specs.Prelude.{Result, Ok, Err, MatchResult, slice_index_or}
use Rattle.std.specs.List.{All, Contains, dedup}
use Rattle.std.specs.List.Sorted.{IsBinarySearchResult, IsPermutation, IsSorted, IsStrictlyIncreasing}
use Rattle.std.specs.Ordering.{nat_cmp}
use Rattle.std.proofs.lemmas.Bool.{cases_Bool, cases_lt, eq-eqb, eqb-true, ne_eqb, or_cases, or_left, or_right}
use Rattle.std.proofs.lemmas.List.Kept.{AllPairs-from_increasing, Contains-dedup_nat, Contains-from_dedup, IsStrictlyIncreasing-filter}
use Rattle.std.proofs.lemmas.List.Sorted.{IsPermutation-sym, searched}
use Rattle.std.proofs.lemmas.List.{append-nil, get_or_default, take_more}
use Rattle.std.proofs.lemmas.List.Elements.{filter-append}
use Rattle.std.proofs.lemmas.Map.Keys.{IsStrictlyIncreasing-dedup}
use Rattle.cp_lists.specs.CyclicLists.{Has}
use Rattle.cp_lists.proofs.DistinctLists.{Has-Contains, Has-place, Has_at}
use Rattle.cp_lists.proofs.FilteredLists.{Has-filter, filter-Has, filter_no, filter_yes}
use Rattle.cp_pq.proofs.PermutedLists.{Has-IsPermutation}
use Rattle.cp_conn.specs.NamedGraphs.{NamedGraph, ends_at, rank}
use Rattle.cp_conn.proofs.NamedGraphs.{rank_is}
use Rattle.cp_board.specs.Names.{has}
use Rattle.cp_embed.specs.BoardBlocks.{ends_some}
use Rattle.cp_embed.specs.BoardCuts.{both_ends}
use Rattle.cp_embed.proofs.BoardBlocks.{any_of, has-true, of_any, rising_distinct, true-has}

-- the first of rising numbers is the least
rest_greater : (x : ℕ) (xs : List ℕ) (y : ℕ) → IsStrictlyIncreasing (x ∷ xs) → Has y xs → x < y
rest_greater x xs y up h =
    let w = Has-place y xs h in
    let less = AllPairs-from_increasing (x ∷ xs) up 0 (suc w.0) 0 (omega arith) (omega (arith, w.1)) in
    omega (arith, less, w.2)

-- and the others rise
rest_rises : (x : ℕ) (xs : List ℕ) → IsStrictlyIncreasing (x ∷ xs) → IsStrictlyIncreasing xs
rest_rises x xs up k lt = AllPairs-from_increasing (x ∷ xs) up (suc k) (suc (k + 1)) 0 (omega arith) (omega (arith, lt))

-- rising lists of the same numbers are equal
pub rising_same : (xs ys : List ℕ) → IsStrictlyIncreasing xs → IsStrictlyIncreasing ys
    → ((z : ℕ) → Has z xs → Has z ys) → ((z : ℕ) → Has z ys → Has z xs) → xs ≡ ys
rising_same [] [] up other to from = refl
rising_same [] (y ∷ ys) up other to from = absurd (from y (inl refl))
rising_same (x ∷ xs) [] up other to from = absurd (to x (inl refl))
rising_same (x ∷ xs) (y ∷ ys) up other to from =
    let le : y ≤ x = ⊎_elim (λ (e : y ≡ x). omega (arith, e))
    (λ h. let g = rest_greater y ys x other h in omega (arith, g)) (to x (inl refl)) in
    let ge : x ≤ y = ⊎_elim (λ (e : x ≡ y). omega (arith, e))
    (λ h. let g = rest_greater x xs y up h in omega (arith, g)) (from y (inl refl)) in
    let same : x ≡ y = omega (arith, le, ge) in
    ap (λ z. z ∷ xs) same
    ∙ ap (λ zs. y ∷ zs) (rising_same xs ys (rest_rises x xs up) (rest_rises y ys other)
    (λ z h. ⊎_elim (λ (e : y ≡ z). let g = rest_greater x xs z up h in absurd (omega (arith, g, e, same))) (λ k. k)
    (to z (inr h)))
    (λ z h. ⊎_elim (λ (e : x ≡ z). let g = rest_greater y ys z other h in absurd (omega (arith, g, e, same))) (λ k. k)
    (from z (inr h))))

-- a vertex that was gathered is an end of an edge
gathered_from : (g : NamedGraph) (v : ℕ) (es : List ℕ) → Has v (both_ends g es) → (e : ℕ) × Has e es
    × (ends_at g v e ≡ true)
gathered_from g v [] h = absurd h
gathered_from g v (e ∷ es) h = ⊎_elim
    (λ a. (e, inl refl, or_left (eqb (g.ends e).0 v) (eqb (g.ends e).1 v) (eq-eqb (g.ends e).0 v a)))
    (λ k. ⊎_elim
    (λ b. (e, inl refl, or_right (eqb (g.ends e).0 v) (eqb (g.ends e).1 v) (eq-eqb (g.ends e).1 v b)))
    (λ r. let w = gathered_from g v es r in (w.0, inr w.1, w.2))
    k)
    h

-- each end of an edge is gathered
gathered_has : (g : NamedGraph) (v : ℕ) (es : List ℕ) (e : ℕ) → Has e es → ends_at g v e ≡ true → Has v (both_ends g es)
gathered_has g v [] e h t = absurd h
gathered_has g v (f ∷ es) e h t = ⊎_elim
    (λ same. ⊎_elim
    (λ a. inl (eqb-true (g.ends f).0 v a))
    (λ b. inr (inl (eqb-true (g.ends f).1 v b)))
    (or_cases (eqb (g.ends f).0 v) (eqb (g.ends f).1 v) (ap (ends_at g v) same ∙ t)))
    (λ k. inr (inr (gathered_has g v es e k t)))
    h

-- what is gathered, sorted and rid of repeated numbers, is the vertices that are ends of some edge
pub gathered-verts : (g : NamedGraph) (es sorted : List ℕ) → IsStrictlyIncreasing g.verts
    → ((e : ℕ) → Contains es e → Contains g.verts (g.ends e).0 × Contains g.verts (g.ends e).1)
    → IsPermutation (both_ends g es) sorted → IsSorted nat_cmp sorted
    → dedup eqb sorted ≡ filter (ends_some g es) g.verts
gathered-verts g es sorted up live perm order =
    rising_same (dedup eqb sorted) (filter (ends_some g es) g.verts)
    (IsStrictlyIncreasing-dedup sorted order) (IsStrictlyIncreasing-filter (ends_some g es) g.verts up)
    (λ v h.
    let k : Has v sorted = (Has-Contains v sorted).1 (Contains-from_dedup eqb sorted v
    ((Has-Contains v (dedup eqb sorted)).0 h)) in
    let w = gathered_from g v es (Has-IsPermutation v sorted (both_ends g es)
    (IsPermutation-sym (both_ends g es) sorted perm) k) in
    Has-filter (ends_some g es) v g.verts (live_end v w.0 ((Has-Contains w.0 es).0 w.1) w.2)
    (any_of (ends_at g v) es w.0 w.1 w.2))
    (λ v h.
    let k = filter-Has (ends_some g es) v g.verts h in
    let w = of_any (ends_at g v) es k.1 in
    let s = Has-IsPermutation v (both_ends g es) sorted perm (gathered_has g v es w.0 w.1 w.2) in
    (Has-Contains v (dedup eqb sorted)).1 (Contains-dedup_nat sorted v ((Has-Contains v sorted).0 s)))
  where
    -- an end of an edge is a vertex
    live_end : (v e : ℕ) → Contains es e → ends_at g v e ≡ true → Has v g.verts
    live_end v e c t =
        let l = live e c in
        ⊎_elim
        (λ a. subst (λ x. Has x g.verts) (eqb-true (g.ends e).0 v a) ((Has-Contains (g.ends e).0 g.verts).1 l.0))
        (λ b. subst (λ x. Has x g.verts) (eqb-true (g.ends e).1 v b) ((Has-Contains (g.ends e).1 g.verts).1 l.1))
        (or_cases (eqb (g.ends e).0 v) (eqb (g.ends e).1 v) t)

-- rising numbers do not fall
not_falling : (xs : List ℕ) → IsStrictlyIncreasing xs → (i j : ℕ) → i ≤ j → j < length xs
    → get_or xs i 0 ≤ get_or xs j 0
not_falling xs up i j le lt = ⊎_elim
    (λ (l : i < j). let less = AllPairs-from_increasing xs up i j 0 l lt in omega (arith, less))
    (λ (g : j ≤ i). let same : i ≡ j = omega (arith, le, g) in let at = ap (λ k. get_or xs k 0) same in omega
    (arith, at))
    (cases_lt i j)

-- what a binary search finds in rising numbers is the place of the number, and what it does not find is none of them
pub searched_place : (names : List ℕ) (name : ℕ) (r : Result ℕ ℕ) → IsStrictlyIncreasing names
    → IsBinarySearchResult (λ y. nat_cmp y name) names r
    → MatchResult r (λ k. (has names name ≡ true) × (k ≡ rank names name)) (λ k. has names name ≡ false)
searched_place names name (Ok k) up found =
    let h = searched names name (Ok k) found (not_falling names up) in (
      has-true names name (subst (λ x. Has x names) h.1 (Has_at names k h.0)),
      sym (rank_is names k name (rising_distinct names up) h.0 h.1),
    )
searched_place names name (Err k) up found =
    let h = searched names name (Err k) found (not_falling names up) in
    ⊎_elim
    (λ t. let p = Has-place name names (true-has names name t) in
    absurd (⊎_elim
    (λ (low : p.0 < k). let g = h.1 p.0 low in omega (arith, g, p.2))
    (λ (high : k ≤ p.0). let g = h.2 p.0 high p.1 in omega (arith, g, p.2))
    (cases_lt p.0 k)))
    (λ f. f)
    (cases_Bool (has names name))

-- each item of a list is one of them
pub All-Contains : (es xs : List ℕ) → ((e : ℕ) → Contains es e → Contains xs e) → All (Contains xs) es
All-Contains es xs in_xs k d lt = in_xs (slice_index_or es k d)
    (k, lt, get_or_default es k (slice_index_or es k d) d lt)

-- whether the name at a place has the number
name_passes : (names numbers : List ℕ) (number k : ℕ) → IsStrictlyIncreasing names → k < length names
    → eqb (slice_index numbers (rank names (slice_index names k))) number ≡ eqb (slice_index numbers k) number
name_passes names numbers number k up lt =
    ap (λ j. eqb (slice_index numbers j) number) (rank_is names k (slice_index names k) (rising_distinct names up) lt
    refl)

-- one name more that has the number
pub numbered-more : (names numbers kept : List ℕ) (number k : ℕ) → IsStrictlyIncreasing names → k < length names
    → slice_index numbers k ≡ number
    → kept ≡ filter (λ e. eqb (slice_index numbers (rank names e)) number) (take k names)
    → kept ++ slice_index names k ∷ [] ≡ filter (λ e. eqb (slice_index numbers (rank names e)) number)
    (take (k + 1) names)
numbered-more names numbers kept number k up lt is so_far =
    let p = λ (e : ℕ). eqb (slice_index numbers (rank names e)) number in
    ap (λ xs. xs ++ slice_index names k ∷ []) so_far
    ∙ sym (ap (filter p) (take_more names k 0 lt)
    ∙ filter-append p (take k names) (slice_index names k ∷ [])
    ∙ ap (λ xs. filter p (take k names) ++ xs) (filter_yes p (slice_index names k) []
    (name_passes names numbers number k up lt ∙ eq-eqb (slice_index numbers k) number is)))

-- one name more that has it not
pub numbered-other : (names numbers kept : List ℕ) (number k : ℕ) → IsStrictlyIncreasing names → k < length names
    → slice_index numbers k ≢ number
    → kept ≡ filter (λ e. eqb (slice_index numbers (rank names e)) number) (take k names)
    → kept ≡ filter (λ e. eqb (slice_index numbers (rank names e)) number) (take (k + 1) names)
numbered-other names numbers kept number k up lt is so_far =
    let p = λ (e : ℕ). eqb (slice_index numbers (rank names e)) number in
    so_far
    ∙ sym (ap (filter p) (take_more names k 0 lt)
    ∙ filter-append p (take k names) (slice_index names k ∷ [])
    ∙ ap (λ xs. filter p (take k names) ++ xs) (filter_no p (slice_index names k) []
    (name_passes names numbers number k up lt ∙ ne_eqb (slice_index numbers k) number is))
    ∙ append-nil (filter p (take k names)))
