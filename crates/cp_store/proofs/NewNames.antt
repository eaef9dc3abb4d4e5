-- The least names that are not live, found one behind the other.
use Rattle.std.proofs.Common.{◌≡◌, ◌⊎◌, ℕ, zero, suc, ◌+◌, ◌-◌, ◌<◌, ◌≤◌, Bool, true, false, not, List, [], ◌∷◌, ◌++◌, length, map, take, sym, refl, ap, ◌∙◌, ⊎_elim, arith}
use Rattle.std.specs.List.{filter, range_with_len}
use Rattle.std.specs.Prelude.{Option, Some, None}
use Rattle.std.proofs.lemmas.Bool.{cases_lt, cond-true, cond-false}
use Rattle.std.proofs.lemmas.List.{append-nil, append_assoc, length-append, length-map, map-id, take_all, take-append-le}
use Rattle.std.proofs.lemmas.List.Elements.{filter-append}
use Rattle.std.proofs.lemmas.List.FromFn.{map-range_with_len_more}
use Rattle.cp_board.specs.Names.{has, new_names}
use Rattle.cp_board.proofs.NumberOfNewNames.{length-new_names}
use Rattle.cp_store.specs.declared.entry.Entry.{Entry}
use Rattle.cp_store.specs.Exchanges.{with_item, items_of}

-- one number more
range-more : (k : ℕ) → range_with_len 0 (k + 1) ≡ range_with_len 0 k ++ k ∷ []
range-more k =
    sym (map-id (range_with_len 0 (k + 1)))
    ∙ map-range_with_len_more (λ (n : ℕ). n) 0 k k (omega arith)
    ∙ ap (λ xs. xs ++ k ∷ []) (map-id (range_with_len 0 k))

-- what passes of the numbers up to one more
passing-more : (p : ℕ → Bool) (k : ℕ)
    → filter p (range_with_len 0 (k + 1)) ≡ filter p (range_with_len 0 k) ++ filter p (k ∷ [])
passing-more p k = ap (filter p) (range-more k) ∙ filter-append p (range_with_len 0 k) (k ∷ [])

-- one more that passes
pub passing-more_true : (p : ℕ → Bool) (k : ℕ) → p k ≡ true
    → filter p (range_with_len 0 (k + 1)) ≡ filter p (range_with_len 0 k) ++ k ∷ []
passing-more_true p k t =
    passing-more p k ∙ ap (λ zs. filter p (range_with_len 0 k) ++ zs) (cond-true (p k) (k ∷ []) [] t)

-- one more that does not pass
pub passing-more_false : (p : ℕ → Bool) (k : ℕ) → p k ≡ false
    → filter p (range_with_len 0 (k + 1)) ≡ filter p (range_with_len 0 k)
passing-more_false p k f =
    passing-more p k ∙ ap (λ zs. filter p (range_with_len 0 k) ++ zs) (cond-false (p k) (k ∷ []) [] f)
    ∙ append-nil (filter p (range_with_len 0 k))

-- what passes of more numbers begins with what passes of fewer
passing-longer : (p : ℕ → Bool) (a d : ℕ)
    → (rest : List ℕ) × (filter p (range_with_len 0 (a + d)) ≡ filter p (range_with_len 0 a) ++ rest)
passing-longer p a zero =
    let e : a + 0 ≡ a = omega arith in
    ([], ap (λ m. filter p (range_with_len 0 m)) e ∙ sym (append-nil (filter p (range_with_len 0 a))))
passing-longer p a (suc d) =
    let before = passing-longer p a d in
    let more = filter p ((a + d) ∷ []) in
    let e : a + suc d ≡ a + d + 1 = omega arith in (
      before.0 ++ more,
      ap (λ m. filter p (range_with_len 0 m)) e ∙ passing-more p (a + d) ∙ ap (λ zs. zs ++ more) before.1
          ∙ append_assoc (filter p (range_with_len 0 a)) before.0 more,
    )

-- where n of fewer numbers pass, they are the first n that pass of more
take-passing : (p : ℕ → Bool) (n a b : ℕ) → a ≤ b → n ≤ length (filter p (range_with_len 0 a))
    → take n (filter p (range_with_len 0 b)) ≡ take n (filter p (range_with_len 0 a))
take-passing p n a b le enough =
    let e : b ≡ a + (b - a) = omega (arith, le) in
    let longer = passing-longer p a (b - a) in
    ap (λ m. take n (filter p (range_with_len 0 m))) e ∙ ap (take n) longer.1
    ∙ take-append-le n (filter p (range_with_len 0 a)) longer.0 enough

-- so many names are new among the numbers that the definition looks at
many-new : (live : List ℕ) (n : ℕ) → n ≤ length (filter (λ k. not (has live k)) (range_with_len 0 (length live + n)))
many-new live n =
    let xs = filter (λ k. not (has live k)) (range_with_len 0 (length live + n)) in
    ⊎_elim
    (λ (l : length xs < n). omega (arith, l, ap length (take_all n xs (omega (arith, l))), length-new_names live n))
    (λ (g : n ≤ length xs). g)
    (cases_lt (length xs) n)

-- the numbers below k that are not live are the n least such, where there are n of them, or no more than n and k is
-- great enough
pub new_names-passed : (live : List ℕ) (n k : ℕ) (names : List ℕ)
    → names ≡ filter (λ j. not (has live j)) (range_with_len 0 k)
    → length names ≤ n
    → (n ≤ length names) ⊎ (length live + n ≤ k)
    → names ≡ new_names live n
new_names-passed live n k names is few stop =
    let p : ℕ → Bool = λ j. not (has live j) in
    let all : names ≡ take n (filter p (range_with_len 0 k)) =
    is ∙ sym (take_all n (filter p (range_with_len 0 k)) (omega (arith, few, ap length is))) in
    ⊎_elim
    (λ (l : k < length live + n).
    ⊎_elim
    (λ (full : n ≤ length names).
    all ∙ sym (take-passing p n k (length live + n) (omega (arith, l)) (omega (arith, full, ap length is))))
    (λ (far : length live + n ≤ k). absurd (omega (arith, l, far)))
    stop)
    (λ (g : length live + n ≤ k). all ∙ take-passing p n (length live + n) k g (many-new live n))
    (cases_lt k (length live + n))

-- an item more makes the list longer by one, and none makes it not longer
with_item-most : {A : Type 0} (x : Option A) (xs : List A) → length (with_item x xs) ≤ length xs + 1
with_item-most None xs = omega arith
with_item-most (Some x) xs = omega arith

-- there are at most as many items as entries
pub items-most : {A : Type 0} (es : List (Entry A)) → length (items_of es) ≤ length es
items-most [] = omega arith
items-most (e ∷ es) = omega (arith, with_item-most e.item (items_of es), items-most es)
