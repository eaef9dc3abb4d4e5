-- Words against a set.
use Rattle.std.proofs.Common.{◌≡◌, ℕ, Bool, true, false, cond, not, ◌&&◌, List, [], ◌∷◌, ◌++◌, reverse, refl, sym, ap, ◌∙◌, ⊎_elim}
use Rattle.std.specs.List.{list_all}
use Rattle.std.proofs.lemmas.Bool.{true≢false, false≢true, cases_Bool}
use Rattle.std.proofs.lemmas.List.{reverse-append}
use Rattle.std.proofs.lemmas.List.Sorted.{IsPermutation-reverse}
use Rattle.cp_pq.proofs.Permutations.{list_all-IsPermutation}
use Rattle.std.proofs.lemmas.List.Folds.{list_all-append}
use Rattle.cp_pq.specs.Words.{Opposite, sorted, together}

-- what is opposite is so in both directions
pub opposite_sym : (q p : ℕ → Bool) → Opposite q p → Opposite p q
opposite_sym q p opp x = elim (p x) as (λ b. q x ≡ not b → b ≡ not (q x)) [ true ↦ λ e. rw e refl | false ↦ λ e. rw e refl ] (opp x)

module _ (q p : ℕ → Bool) where
  -- a word with items of q before it is sorted where the word is
  pub sorted_front : (u v : List ℕ) → list_all q u ≡ true → sorted q p (u ++ v) ≡ sorted q p v
  sorted_front [] v = λ h. refl
  sorted_front (x ∷ u) v =
      elim (q x) as (λ b. (b && list_all q u) ≡ true → cond b (sorted q p (u ++ v)) (list_all p (u ++ v)) ≡ sorted q p v)
      [ true ↦ λ h. sorted_front u v h | false ↦ λ h. absurd (false≢true h) ]

  -- behind a word not of q alone, both are sorted where the word is and all behind it is of p
  pub sorted_cut : (u v : List ℕ) → list_all q u ≡ false → sorted q p (u ++ v) ≡ (sorted q p u && list_all p v)
  sorted_cut [] v = λ h. absurd (true≢false h)
  sorted_cut (x ∷ u) v =
      elim (q x) as (λ b. (b && list_all q u) ≡ false → cond b (sorted q p (u ++ v)) (list_all p (u ++ v)) ≡ (cond b (sorted q p u) (list_all p u) && list_all p v))
      [ true ↦ λ h. sorted_cut u v h | false ↦ λ h. list_all-append p u v ]

  -- a word of q alone is sorted
  pub sorted_all : (u : List ℕ) → list_all q u ≡ true → sorted q p u ≡ true
  sorted_all [] = λ h. refl
  sorted_all (x ∷ u) =
      elim (q x) as (λ b. (b && list_all q u) ≡ true → cond b (sorted q p u) (list_all p u) ≡ true)
      [ true ↦ λ h. sorted_all u h | false ↦ λ h. absurd (false≢true h) ]

  -- and so is a word of p alone
  pub sorted_last : Opposite q p → (u : List ℕ) → list_all p u ≡ true → sorted q p u ≡ true
  sorted_last opp [] = λ h. refl
  sorted_last opp (x ∷ u) =
      elim (q x) as (λ b. b ≡ not (p x) → (p x && list_all p u) ≡ true → cond b (sorted q p u) (list_all p u) ≡ true) [
        | true ↦ elim (p x) as (λ a. true ≡ not a → (a && list_all p u) ≡ true → sorted q p u ≡ true)
            [ true ↦ λ e h. absurd (true≢false e) | false ↦ λ e h. absurd (false≢true h) ]
        | false ↦ elim (p x) as (λ a. false ≡ not a → (a && list_all p u) ≡ true → list_all p u ≡ true)
            [ true ↦ λ e h. h | false ↦ λ e h. absurd (false≢true h) ]
      ]
      (opp x)

  -- a word with items of q before it has p together where the word does
  pub together_front : (u v : List ℕ) → list_all q u ≡ true → together q p (u ++ v) ≡ together q p v
  together_front [] v = λ h. refl
  together_front (x ∷ u) v =
      elim (q x) as (λ b. (b && list_all q u) ≡ true → cond b (together q p (u ++ v)) (sorted p q (u ++ v)) ≡ together q p v)
      [ true ↦ λ h. together_front u v h | false ↦ λ h. absurd (false≢true h) ]

module _ (q p : ℕ → Bool) where
  -- behind a sorted word not of q alone, both have p together where what is behind goes from p to q
  pub together_start : (u v : List ℕ) → list_all q u ≡ false → sorted q p u ≡ true
      → together q p (u ++ v) ≡ sorted p q v
  together_start [] v = λ h. absurd (true≢false h)
  together_start (x ∷ u) v =
      elim (q x) as (λ b. (b && list_all q u) ≡ false → cond b (sorted q p u) (list_all p u) ≡ true → cond b (together q p (u ++ v)) (sorted p q (u ++ v)) ≡ sorted p q v)
      [ true ↦ λ h s. together_start u v h s | false ↦ λ h s. sorted_front p q u v s ]

  -- behind a word that is not sorted, both have p together where the word does and all behind it is of q
  pub together_whole : (u v : List ℕ) → sorted q p u ≡ false → together q p (u ++ v) ≡ (together q p u && list_all q v)
  together_whole [] v = λ h. absurd (true≢false h)
  together_whole (x ∷ u) v =
      elim (q x) as (λ b. cond b (sorted q p u) (list_all p u) ≡ false → cond b (together q p (u ++ v)) (sorted p q (u ++ v)) ≡ (cond b (together q p u) (sorted p q u) && list_all q v))
      [ true ↦ λ s. together_whole u v s | false ↦ λ s. sorted_cut p q u v s ]

-- a bit with twice true is the bit
and_true : (a : Bool) → (a && (true && true)) ≡ a
and_true true = refl
and_true false = refl

-- a bit with false and true is false
and_false : (a : Bool) → (a && (false && true)) ≡ false
and_false true = refl
and_false false = refl

-- a word of one item is sorted
one_sorted : (q p : ℕ → Bool) (x : ℕ) → sorted q p (x ∷ []) ≡ true
one_sorted q p x = elim (q x) as (λ b. cond b true true ≡ true) [ true ↦ refl | false ↦ refl ]

-- and has p together
one_together : (q p : ℕ → Bool) (x : ℕ) → together q p (x ∷ []) ≡ true
one_together q p x = elim (q x) as (λ b. cond b true true ≡ true) [ true ↦ refl | false ↦ refl ]

-- a word of q alone has p together
pub together_all : (q p : ℕ → Bool) (u : List ℕ) → list_all q u ≡ true → together q p u ≡ true
together_all q p [] = λ h. refl
together_all q p (x ∷ u) =
    elim (q x) as (λ b. (b && list_all q u) ≡ true → cond b (together q p u) (sorted p q u) ≡ true)
    [ true ↦ λ h. together_all q p u h | false ↦ λ h. absurd (false≢true h) ]

-- a sorted word has p together
pub sorted_together : (q p : ℕ → Bool) → Opposite q p → (u : List ℕ) → sorted q p u ≡ true → together q p u ≡ true
sorted_together q p opp [] = λ h. refl
sorted_together q p opp (x ∷ u) =
    elim (q x) as (λ b. cond b (sorted q p u) (list_all p u) ≡ true → cond b (together q p u) (sorted p q u) ≡ true)
    [ true ↦ λ h. sorted_together q p opp u h | false ↦ λ h. sorted_all p q u h ]

-- the reverse of a word goes from p to q where the word goes from q to p
pub sorted_reverse : (q p : ℕ → Bool) → Opposite q p → (xs : List ℕ) → sorted p q (reverse xs) ≡ sorted q p xs
sorted_reverse q p opp [] = refl
sorted_reverse q p opp (x ∷ xs) = ap (sorted p q) (reverse-append (x ∷ []) xs) ∙ ⊎_elim full (cut (sorted_reverse q p opp xs)) (cases_Bool (list_all p (reverse xs)))
  where
    same : list_all p (reverse xs) ≡ list_all p xs
    same = sym (list_all-IsPermutation p xs (reverse xs) (IsPermutation-reverse xs))

    full : list_all p (reverse xs) ≡ true
        → sorted p q (reverse xs ++ x ∷ []) ≡ cond (q x) (sorted q p xs) (list_all p xs)
    full h = sorted_front p q (reverse xs) (x ∷ []) h ∙ one_sorted p q x ∙ sym (elim (q x) as (λ b. cond b (sorted q p xs) (list_all p xs) ≡ true) [ true ↦ sorted_last q p opp xs (sym same ∙ h) | false ↦ sym same ∙ h ])

    cut : sorted p q (reverse xs) ≡ sorted q p xs → list_all p (reverse xs) ≡ false
        → sorted p q (reverse xs ++ x ∷ []) ≡ cond (q x) (sorted q p xs) (list_all p xs)
    cut ih h = sorted_cut p q (reverse xs) (x ∷ []) h ∙ ap (λ b. b && (q x && true)) ih
        ∙ elim (q x) as (λ b. (sorted q p xs && (b && true)) ≡ cond b (sorted q p xs) (list_all p xs)) [ true ↦ and_true (sorted q p xs) | false ↦ and_false (sorted q p xs) ∙ sym h ∙ same ]

-- a word has p together where its reverse does
pub together_reverse : (q p : ℕ → Bool) → Opposite q p → (xs : List ℕ) → together q p (reverse xs) ≡ together q p xs
together_reverse q p opp [] = refl
together_reverse q p opp (x ∷ xs) = ap (together q p) (reverse-append (x ∷ []) xs) ∙ ⊎_elim empty (λ h. ⊎_elim (start (together_reverse q p opp xs) h) (whole (together_reverse q p opp xs)) (cases_Bool (sorted q p (reverse xs)))) (cases_Bool (list_all q (reverse xs)))
  where
    same : list_all q (reverse xs) ≡ list_all q xs
    same = sym (list_all-IsPermutation q xs (reverse xs) (IsPermutation-reverse xs))

    back : sorted q p (reverse xs) ≡ sorted p q xs
    back = sorted_reverse p q (opposite_sym q p opp) xs

    empty : list_all q (reverse xs) ≡ true
        → together q p (reverse xs ++ x ∷ []) ≡ cond (q x) (together q p xs) (sorted p q xs)
    empty h = together_front q p (reverse xs) (x ∷ []) h ∙ one_together q p x ∙ sym (elim (q x) as (λ b. cond b (together q p xs) (sorted p q xs) ≡ true) [ true ↦ together_all q p xs (sym same ∙ h) | false ↦ sorted_last p q (opposite_sym q p opp) xs (sym same ∙ h) ])

    start : together q p (reverse xs) ≡ together q p xs → list_all q (reverse xs) ≡ false
        → sorted q p (reverse xs) ≡ true
        → together q p (reverse xs ++ x ∷ []) ≡ cond (q x) (together q p xs) (sorted p q xs)
    start ih h s = together_start q p (reverse xs) (x ∷ []) h s ∙ one_sorted p q x ∙ sym (elim (q x) as (λ b. cond b (together q p xs) (sorted p q xs) ≡ true) [ true ↦ sym ih ∙ sorted_together q p opp (reverse xs) s | false ↦ sym back ∙ s ])

    whole : together q p (reverse xs) ≡ together q p xs → sorted q p (reverse xs) ≡ false
        → together q p (reverse xs ++ x ∷ []) ≡ cond (q x) (together q p xs) (sorted p q xs)
    whole ih s = together_whole q p (reverse xs) (x ∷ []) s ∙ ap (λ b. b && (q x && true)) ih
        ∙ elim (q x) as (λ b. (together q p xs && (b && true)) ≡ cond b (together q p xs) (sorted p q xs)) [ true ↦ and_true (together q p xs) | false ↦ and_false (together q p xs) ∙ sym s ∙ back ]

-- items outside at the end change nothing
back_front : (q p : ℕ → Bool) → Opposite q p → (u v : List ℕ) → list_all q v ≡ true
    → together q p (u ++ v) ≡ together q p u
back_front q p opp u v h =
    sym (together_reverse q p opp (u ++ v)) ∙ ap (together q p) (reverse-append u v)
    ∙ together_front q p (reverse v) (reverse u) (sym (list_all-IsPermutation q v (reverse v) (IsPermutation-reverse v)) ∙ h) ∙ together_reverse q p opp u

-- a word that has p together with items of q behind it has p together
pub together_end : (q p : ℕ → Bool) → Opposite q p → (u v : List ℕ) → list_all q v ≡ true → together q p (u ++ v) ≡ true
    → together q p u ≡ true
together_end q p opp u v h t = sym (back_front q p opp u v h) ∙ t

-- and the other way round
pub end_together : (q p : ℕ → Bool) → Opposite q p → (u v : List ℕ) → list_all q v ≡ true → together q p u ≡ true
    → together q p (u ++ v) ≡ true
end_together q p opp u v h t = back_front q p opp u v h ∙ t
