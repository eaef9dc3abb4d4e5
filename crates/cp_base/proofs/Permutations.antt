-- Which places of a list that is to be a permutation are wrong.
use Rattle.std.proofs.Common.{◌≡◌, ℕ, ◌+◌, ◌<◌, ◌≤◌, Bool, true, false, List, length, slice_index, get_or, set, replicate, sym, ap, ◌∙◌, subst, inl, inr, ⊎_elim, arith, get_or-set_same, get_or-set_other, length-set}
use Rattle.std.proofs.lemmas.Bool.{cases_eq, cases_lt, cases_order, false≢true}
use Rattle.std.proofs.lemmas.List.{get_or-replicate, get_or_past, length-replicate}
use Rattle.cp_base.specs.Permutations.{IsPerm, IsWrongAt}

-- the first i values are right, and exactly these are marked
pub record RightSoFar (to : List ℕ) (i : ℕ) (seen : List Bool) : Type 0 where
  pub size : length seen ≡ length to
  pub right : (j : ℕ) → j < i → ¬ IsWrongAt to j
  pub marked : (j : ℕ) → j < i → get_or seen (slice_index to j) false ≡ true
  pub met : (y : ℕ) → get_or seen y false ≡ true → (j : ℕ) × (j < i) × (slice_index to j ≡ y)

-- nothing is marked in a table without marks
unmarked : (n y : ℕ) → get_or (replicate n false) y false ≡ false
unmarked n y = ⊎_elim
    (λ (l : y < n). get_or-replicate n y false false l)
    (λ (g : n ≤ y). get_or_past (replicate n false) y false (omega (arith, length-replicate n false)))
    (cases_lt y n)

-- at the start
pub RightSoFar-none : (to : List ℕ) → RightSoFar to 0 (replicate (length to) false)
RightSoFar-none to = record {
  size = length-replicate (length to) false;
  right = λ j lt. absurd (omega arith);
  marked = λ j lt. absurd (omega arith);
  met = λ y h. absurd (false≢true (sym (unmarked (length to) y) ∙ h));
}

-- a value in range that is not marked is right
pub RightSoFar-right : (to : List ℕ) (i : ℕ) (seen : List Bool) → RightSoFar to i seen → slice_index to i < length to →
    get_or seen (slice_index to i) false ≡ false → ¬ IsWrongAt to i
RightSoFar-right to i seen so lt free wrong =
    ⊎_elim
    (λ (out : length to ≤ slice_index to i). omega arith)
    (λ twice. false≢true (sym free ∙ ap (λ y. get_or seen y false) (sym twice.2) ∙ so.marked twice.0 twice.1))
    wrong

-- with its mark it is the next
pub RightSoFar-more : (to : List ℕ) (i : ℕ) (seen : List Bool) → RightSoFar to i seen → slice_index to i < length to →
    get_or seen (slice_index to i) false ≡ false → RightSoFar to (i + 1) (set seen (slice_index to i) true)
RightSoFar-more to i seen so lt free = record {
  size = length-set seen (slice_index to i) true ∙ so.size;
  right = λ j ltj. ⊎_elim
      (λ (l : j < i). so.right j l)
      (λ (g : i ≤ j). let here : j ≡ i = omega arith in subst (λ k. ¬ IsWrongAt to k) (sym here) (RightSoFar-right to i seen so lt free))
      (cases_lt j i);
  marked = λ j ltj. ⊎_elim
      (λ e. ap (λ y. get_or (set seen (slice_index to i) true) y false) e ∙ same)
      (λ ne. get_or-set_other seen (slice_index to i) (slice_index to j) true false ne
      ∙ so.marked j (⊎_elim
      (λ (l : j < i). l)
      (λ (g : i ≤ j). let here : j ≡ i = omega arith in absurd (ne (ap (slice_index to) here)))
      (cases_lt j i)))
      (cases_eq (slice_index to j) (slice_index to i));
  met = λ y h. ⊎_elim
      (λ e. (i, omega arith, sym e))
      (λ ne. let w = so.met y (sym (get_or-set_other seen (slice_index to i) y true false ne) ∙ h) in (w.0, omega (arith, w.1), w.2))
      (cases_eq y (slice_index to i));
}
  where
    same : get_or (set seen (slice_index to i) true) (slice_index to i) false ≡ true
    same = get_or-set_same seen (slice_index to i) true false (omega (arith, so.size))

-- a marked value stands at an earlier place too
pub RightSoFar-twice : (to : List ℕ) (i : ℕ) (seen : List Bool) → RightSoFar to i seen →
    get_or seen (slice_index to i) false ≡ true → IsWrongAt to i
RightSoFar-twice to i seen so h = inr (so.met (slice_index to i) h)

-- a list without a wrong place is a permutation
pub IsPerm-from : (to : List ℕ) → ((i : ℕ) → i < length to → ¬ IsWrongAt to i) → IsPerm to
IsPerm-from to right = record {
  below = λ x lt. ⊎_elim (λ (l : slice_index to x < length to). l) (λ (g : length to ≤ slice_index to x). absurd (right x lt (inl g))) (cases_lt (slice_index to x) (length to));
  apart = λ x y ltx lty e. ⊎_elim
      (λ same. same)
      (λ h. absurd (⊎_elim (λ (l : x < y). right y lty (inr (x, l, e))) (λ (l : y < x). right x ltx (inr (y, l, sym e))) h))
      (cases_order x y);
}

-- a permutation has no wrong place
pub IsPerm-right : (to : List ℕ) → IsPerm to → (i : ℕ) → i < length to → ¬ IsWrongAt to i
IsPerm-right to perm i lt wrong =
    ⊎_elim
    (λ (out : length to ≤ slice_index to i). omega (arith, perm.below i lt))
    (λ twice. let same : twice.0 ≡ i = perm.apart twice.0 i (omega (arith, twice.1)) lt twice.2 in omega (arith, twice.1))
    wrong
