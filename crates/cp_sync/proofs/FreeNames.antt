-- The least names that are not live, by a table of the live ones.
use Rattle.std.proofs.Common.{◌≡◌, ℕ, zero, suc, ◌+◌, ◌<◌, ◌≤◌, Bool, true, false, not, ◌||◌, cond, eqb, List, [], ◌∷◌, ◌++◌, length, take, slice_index_or, slice_set, sym, refl, ap, ◌∙◌, ⊎_elim, arith}
use Rattle.std.specs.List.{filter, range_with_len}
use Rattle.std.proofs.lemmas.Bool.{cases_eq, cases_lt, eq-eqb, ne_eqb, cond-true, cond-false}
use Rattle.std.proofs.lemmas.List.{append-nil, get_or-set_same, get_or-set_other, length-set, length-append, length-take-le, map-id, take_all, take_more, take-append-le}
use Rattle.std.proofs.lemmas.List.Elements.{filter-append}
use Rattle.std.proofs.lemmas.List.Folds.{list_any-append}
use Rattle.std.proofs.lemmas.List.FromFn.{map-range_with_len_more}
use Rattle.cp_board.specs.Names.{has, new_names}
use Rattle.cp_sync.specs.FreeNames.{TellLive, is_free}

-- a list with one more item has it, and what it had
has-more : (xs : List ℕ) (x k : ℕ) → has (xs ++ x ∷ []) k ≡ (has xs k || eqb k x)
has-more xs x k = list_any-append (eqb k) xs (x ∷ []) ∙ ap (λ b. has xs k || b) (or_none (eqb k x))
  where
    or_none : (b : Bool) → (b || false) ≡ b
    or_none true = refl
    or_none false = refl

-- whatever or true is true
or_true : (b : Bool) → (b || true) ≡ true
or_true true = refl
or_true false = refl

-- whatever or false is itself
or_false : (b : Bool) → (b || false) ≡ b
or_false true = refl
or_false false = refl

-- a table of no live names
pub TellLive-none : (size : ℕ) (table : List Bool) → length table ≡ size
    → ((k : ℕ) → k < size → slice_index_or table k false ≡ false)
    → TellLive [] size table
TellLive-none size table is none = record { one_each = is; each = none }

-- with one live name more, where its place is in the table
pub TellLive-marked : (live : List ℕ) (size : ℕ) (table : List Bool) (i n : ℕ) → i < length live
    → n ≡ slice_index_or live i n
    → n < size
    → TellLive (take i live) size table
    → TellLive (take (i + 1) live) size (slice_set table n true)
TellLive-marked live size table i n lt is within so = record {
  one_each = length-set table n true ∙ so.one_each;
  each = λ k below.
      ⊎_elim
      (λ (e : k ≡ n).
      ap (λ j. slice_index_or (slice_set table n true) j false) e
      ∙ get_or-set_same table n true false (omega (arith, within, so.one_each))
      ∙ sym (ap (λ b. has (take i live) k || b) (eq-eqb k n e) ∙ or_true (has (take i live) k)))
      (λ ne.
      get_or-set_other table n k true false ne
      ∙ so.each k below
      ∙ sym (ap (λ b. has (take i live) k || b) (ne_eqb k n ne) ∙ or_false (has (take i live) k)))
      (cases_eq k n)
      ∙ sym (ap (λ xs. has xs k) (take_more live i n lt ∙ ap (λ x. take i live ++ x ∷ []) (sym is)) ∙ has-more (take i live) n k);
}

-- where it is not
pub TellLive-passed : (live : List ℕ) (size : ℕ) (table : List Bool) (i n : ℕ) → i < length live
    → n ≡ slice_index_or live i n
    → size ≤ n
    → TellLive (take i live) size table
    → TellLive (take (i + 1) live) size table
TellLive-passed live size table i n lt is beyond so = record {
  one_each = so.one_each;
  each = λ k below.
      so.each k below
      ∙ sym (ap (λ b. has (take i live) k || b) (ne_eqb k n (λ e. omega (arith, e, below, beyond))) ∙ or_false (has (take i live) k))
      ∙ sym (ap (λ xs. has xs k) (take_more live i n lt ∙ ap (λ x. take i live ++ x ∷ []) (sym is)) ∙ has-more (take i live) n k);
}

-- one number more
range_more : (k : ℕ) → range_with_len 0 (k + 1) ≡ range_with_len 0 k ++ k ∷ []
range_more k =
    sym (map-id (range_with_len 0 (k + 1)))
    ∙ map-range_with_len_more (λ (n : ℕ). n) 0 k k (omega arith)
    ∙ ap (λ xs. xs ++ k ∷ []) (map-id (range_with_len 0 k))

-- what passes of the numbers up to one more
filter-range_more : (p : ℕ → Bool) (k : ℕ)
    → filter p (range_with_len 0 (k + 1)) ≡ filter p (range_with_len 0 k) ++ filter p (k ∷ [])
filter-range_more p k = ap (filter p) (range_more k) ∙ filter-append p (range_with_len 0 k) (k ∷ [])

-- the first n of a list that has room for one more
take_room : (n : ℕ) (xs : List ℕ) (x : ℕ) → length (take n xs) < n → take n (xs ++ x ∷ []) ≡ take n xs ++ x ∷ []
take_room n xs x room = ⊎_elim
    (λ (l : length xs < n).
    take_all n (xs ++ x ∷ []) (omega (arith, l, length-append xs (x ∷ [])))
    ∙ ap (λ ys. ys ++ x ∷ []) (sym (take_all n xs (omega (arith, l)))))
    (λ (g : n ≤ length xs). absurd (omega (arith, room, length-take-le n xs g)))
    (cases_lt (length xs) n)

-- the first n of a list that has n
take_full : (n : ℕ) (xs ys : List ℕ) → n ≤ length (take n xs) → take n (xs ++ ys) ≡ take n xs
take_full n xs ys full = ⊎_elim
    (λ (l : length xs < n). absurd (omega (arith, full, l, ap length (take_all n xs (omega (arith, l))))))
    (λ (g : n ≤ length xs). take-append-le n xs ys g)
    (cases_lt (length xs) n)

-- the first n numbers that pass, up to one more number: it passes and there is room, it passes and there is none, or
-- it does not pass
module _ (p : ℕ → Bool) (n k : ℕ) (names : List ℕ) (so : names ≡ take n (filter p (range_with_len 0 k))) where
  -- one more that passes comes behind them where there is room
  pub first_passing-more : length names < n → p k ≡ true
      → names ++ k ∷ [] ≡ take n (filter p (range_with_len 0 (k + 1)))
  first_passing-more room t =
      ap (λ xs. xs ++ k ∷ []) so
      ∙ sym (take_room n (filter p (range_with_len 0 k)) k (omega (arith, room, ap length so)))
      ∙ ap (take n) (ap (λ zs. filter p (range_with_len 0 k) ++ zs) (sym (cond-true (p k) (k ∷ []) [] t)) ∙ sym (filter-range_more p k))

  -- where there is no room they stay the same
  pub first_passing-full : n ≤ length names → names ≡ take n (filter p (range_with_len 0 (k + 1)))
  first_passing-full full =
      so
      ∙ sym (take_full n (filter p (range_with_len 0 k)) (filter p (k ∷ [])) (omega (arith, full, ap length so)))
      ∙ ap (take n) (sym (filter-range_more p k))

  -- where one more does not pass they stay the same
  pub first_passing-skip : p k ≡ false → names ≡ take n (filter p (range_with_len 0 (k + 1)))
  first_passing-skip f =
      so
      ∙ ap (take n) (sym (append-nil (filter p (range_with_len 0 k)))
      ∙ ap (λ zs. filter p (range_with_len 0 k) ++ zs) (sym (cond-false (p k) (k ∷ []) [] f))
      ∙ sym (filter-range_more p k))

-- tests that agree on the numbers from a on keep the same of them
filter-range_agree : (p q : ℕ → Bool) (a n : ℕ) → ((k : ℕ) → a ≤ k → k < a + n → p k ≡ q k)
    → filter p (range_with_len a n) ≡ filter q (range_with_len a n)
filter-range_agree p q a zero agree = refl
filter-range_agree p q a (suc n) agree =
    ap (λ b. cond b (a ∷ filter p (range_with_len (a + 1) n)) (filter p (range_with_len (a + 1) n))) (agree a (omega arith) (omega arith))
    ∙ ap (λ zs. cond (q a) (a ∷ zs) zs) (filter-range_agree p q (a + 1) n (λ k le lt. agree k (omega (arith, le)) (omega (arith, lt))))

-- what the table does not tell as live is new
pub new_names-table : (live : List ℕ) (n size : ℕ) (table : List Bool) → size ≡ length live + n
    → TellLive live size table
    → take n (filter (is_free table) (range_with_len 0 (length table))) ≡ new_names live n
new_names-table live n size table is tells =
    ap (λ m. take n (filter (is_free table) (range_with_len 0 m))) (tells.one_each ∙ is)
    ∙ ap (take n) (filter-range_agree (is_free table) (λ k. not (has live k)) 0 (length live + n)
    (λ k le lt. ap not (tells.each k (omega (arith, lt, is)))))
