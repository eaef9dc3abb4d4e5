-- The edges of each vertex in rows.
use Rattle.std.proofs.Common.{◌≡◌, ℕ, zero, suc, ◌+◌, ◌<◌, Bool, true, false, ◌||◌, eqb, List, [], ◌∷◌, ◌++◌, length, set, get_or, replicate, sym, refl, ap, ◌∙◌, subst, ⊎_elim, arith, append-nil, length-set}
use Rattle.std.specs.List.{filter, range_with_len}
use Rattle.std.proofs.lemmas.Bool.{cases_eq, cases_Bool, eq-eqb, eqb-true}
use Rattle.std.proofs.lemmas.List.{get_or-set_same, get_or-set_other, get_or-replicate, length-replicate}
use Rattle.std.proofs.lemmas.List.Elements.{filter-append}
use Rattle.cp_lists.proofs.FilteredLists.{filter_yes, filter_no}
use Rattle.cp_embed.specs.ListedBlocks.{touches, edges_among, AreRowsOfEdges}

-- one number more of a range
range_suc : (a n : ℕ) → range_with_len a (suc n) ≡ range_with_len a n ++ (a + n) ∷ []
range_suc a zero = ap (λ k. k ∷ []) (let e : a ≡ a + 0 = omega arith in e)
range_suc a (suc n) = ap (λ ks. a ∷ ks) (range_suc (a + 1) n
    ∙ ap (λ k. range_with_len (a + 1) n ++ k ∷ []) (let e : a + 1 + n ≡ a + suc n = omega arith in e))

-- and so from 0 on
range_more : (n : ℕ) → range_with_len 0 (n + 1) ≡ range_with_len 0 n ++ n ∷ []
range_more n = ap (range_with_len 0) (let e : n + 1 ≡ suc n = omega arith in e) ∙ range_suc 0 n
    ∙ ap (λ k. range_with_len 0 n ++ k ∷ []) (let e : 0 + n ≡ n = omega arith in e)

-- an edge more of its vertex
edges_more : (ends : List (ℕ × ℕ)) (k v : ℕ) → touches ends v k ≡ true
    → edges_among ends (k + 1) v ≡ edges_among ends k v ++ k ∷ []
edges_more ends k v touched = ap (filter (touches ends v)) (range_more k)
    ∙ filter-append (touches ends v) (range_with_len 0 k) (k ∷ [])
    ∙ ap (λ ks. edges_among ends k v ++ ks) (filter_yes (touches ends v) k [] touched)

-- an edge more of other vertices
edges_same : (ends : List (ℕ × ℕ)) (k v : ℕ) → touches ends v k ≡ false
    → edges_among ends (k + 1) v ≡ edges_among ends k v
edges_same ends k v apart = ap (filter (touches ends v)) (range_more k)
    ∙ filter-append (touches ends v) (range_with_len 0 k) (k ∷ [])
    ∙ ap (λ ks. edges_among ends k v ++ ks) (filter_no (touches ends v) k [] apart)
    ∙ append-nil (edges_among ends k v)

-- no edge is in empty rows
pub AreRowsOfEdges-none : (vertices : ℕ) (ends : List (ℕ × ℕ)) → AreRowsOfEdges vertices ends 0 (replicate vertices [])
AreRowsOfEdges-none vertices ends = record {
  row_each = length-replicate vertices [];
  row_of = λ v lt. get_or-replicate {A = List ℕ} vertices v [] [] lt;
}

-- one edge more, in the rows of its two ends
pub AreRowsOfEdges-more : (vertices : ℕ) (ends : List (ℕ × ℕ)) (k : ℕ) (rows : List (List ℕ)) (a b : ℕ)
    (one two : List ℕ) → AreRowsOfEdges vertices ends k rows → (get_or ends k (0, 0)).0 ≡ a
    → (get_or ends k (0, 0)).1 ≡ b → (a ≡ b → ⊥) → a < vertices → b < vertices → one ≡ get_or rows a [] ++ k ∷ []
    → two ≡ get_or (set rows a one) b [] ++ k ∷ []
    → AreRowsOfEdges vertices ends (k + 1) (set (set rows a one) b two)
AreRowsOfEdges-more vertices ends k rows a b one two rows_are a_is b_is differ lt_a lt_b one_is two_is = record {
  row_each = size;
  row_of = λ v lt. ⊎_elim
      (λ same. subst (λ w. get_or last w [] ≡ edges_among ends (k + 1) w) (sym same) at_b)
      (λ ne. get_or-set_other mid b v two [] ne ∙ ⊎_elim
      (λ same. subst (λ w. get_or mid w [] ≡ edges_among ends (k + 1) w) (sym same) at_a)
      (λ other. get_or-set_other rows a v one [] other ∙ rows_are.row_of v lt
      ∙ sym (edges_same ends k v (untouched v other ne)))
      (cases_eq v a))
      (cases_eq v b);
}
  where
    mid : List (List ℕ)
    mid = set rows a one

    last : List (List ℕ)
    last = set mid b two

    size_mid : length mid ≡ vertices
    size_mid = length-set rows a one ∙ rows_are.row_each

    size : length last ≡ vertices
    size = length-set mid b two ∙ size_mid

    touched_a : touches ends a k ≡ true
    touched_a = ap (λ t. t || eqb (get_or ends k (0, 0)).1 a) (eq-eqb (get_or ends k (0, 0)).0 a a_is)

    touched_b : touches ends b k ≡ true
    touched_b = ap (λ t. eqb (get_or ends k (0, 0)).0 b || t) (eq-eqb (get_or ends k (0, 0)).1 b b_is)
        ∙ or_true (eqb (get_or ends k (0, 0)).0 b)
      where
        or_true : (t : Bool) → (t || true) ≡ true
        or_true true = refl
        or_true false = refl

    no_eqb : (x y : ℕ) → (x ≡ y → ⊥) → eqb x y ≡ false
    no_eqb x y ne = ⊎_elim (λ t. absurd (ne (eqb-true x y t))) (λ f. f) (cases_Bool (eqb x y))

    untouched : (v : ℕ) → (v ≡ a → ⊥) → (v ≡ b → ⊥) → touches ends v k ≡ false
    untouched v na nb = ap (λ t. t || eqb (get_or ends k (0, 0)).1 v)
        (no_eqb (get_or ends k (0, 0)).0 v (λ e. na (sym e ∙ a_is)))
        ∙ no_eqb (get_or ends k (0, 0)).1 v (λ e. nb (sym e ∙ b_is))

    at_a : get_or mid a [] ≡ edges_among ends (k + 1) a
    at_a = get_or-set_same rows a one [] (omega (arith, lt_a, rows_are.row_each)) ∙ one_is
        ∙ ap (λ ks. ks ++ k ∷ []) (rows_are.row_of a lt_a) ∙ sym (edges_more ends k a touched_a)

    at_b : get_or last b [] ≡ edges_among ends (k + 1) b
    at_b = get_or-set_same mid b two [] (omega (arith, lt_b, size_mid)) ∙ two_is
        ∙ ap (λ ks. ks ++ k ∷ [])
        (get_or-set_other rows a b one [] (λ e. differ (sym e)) ∙ rows_are.row_of b lt_b)
        ∙ sym (edges_more ends k b touched_b)
