-- Walks along cycles, and maps of a list by the places of its items.
use Rattle.std.proofs.Common.{◌≡◌, ℕ, zero, suc, ◌<◌, Bool, true, false, List, length, get_or, set, replicate, slice_index, sym, refl, ap, ◌∙◌, subst, ⊎_elim, arith, get_or-set_other, length-set}
use Rattle.std.specs.Fn.{iterate}
use Rattle.std.proofs.lemmas.Bool.{cases_eq, cases_lt, false≢true}
use Rattle.std.proofs.lemmas.List.{get_or-replicate, get_or_past, length-replicate}
use Rattle.cp_lists.specs.CyclicLists.{Distinct}
use Rattle.cp_lists.proofs.DistinctLists.{Distinct-once}
use Rattle.cp_orbits.specs.Orbits.{CycleLength, Permutes}
use Rattle.cp_orbits.proofs.OrbitLaws.{iterate-after, iterate-below}
use Rattle.cp_poles.specs.Cycles.{AreMarked}

-- the cycle of the next number has the same length
pub CycleLength-next : (n : ℕ) (f : ℕ → ℕ) → Permutes n f → (x k : ℕ) → x < n → CycleLength f x k
    → CycleLength f (f x) k
CycleLength-next n f perm x k lt cycle = record {
  some = cycle.some;
  returns = iterate-after f k x ∙ ap f cycle.returns;
  first = λ i low less e. cycle.first i low less
      (perm.apart (iterate f i x) x (iterate-below n f perm i x lt) lt (sym (iterate-after f i x) ∙ e));
}

-- nothing is marked in a table without marks
pub unmarked : (n k : ℕ) → get_or (replicate n false) k false ≡ false
unmarked n k = ⊎_elim
    (λ l. get_or-replicate n k false false l)
    (λ g. get_or_past (replicate n false) k false (omega (arith, g, length-replicate n false)))
    (cases_lt k n)

-- before the first mark
pub AreMarked-none : (to : List ℕ) (size : ℕ) → AreMarked to size (replicate (length to) false)
AreMarked-none to size = record {
  one_each = length-replicate (length to) false;
  marked = λ k h. absurd (false≢true (sym (unmarked (length to) k) ∙ h));
}

-- one mark more
pub AreMarked-more : (to : List ℕ) (size : ℕ) (seen : List Bool) (at : ℕ) → AreMarked to size seen
    → CycleLength (slice_index to) at size → AreMarked to size (set seen at true)
AreMarked-more to size seen at so cycle = record {
  one_each = length-set seen at true ∙ so.one_each;
  marked = λ k h. ⊎_elim
      (λ e. subst (λ j. CycleLength (slice_index to) j size) (sym e) cycle)
      (λ other. so.marked k (sym (get_or-set_other seen at k true false other) ∙ h))
      (cases_eq k at);
}

-- f maps the places of a list as m maps its items
module _ (es : List ℕ) (once : Distinct es) (m f : ℕ → ℕ) (perm : Permutes (length es) f)
    (carry : (k : ℕ) → k < length es → slice_index es (f k) ≡ m (slice_index es k)) where
  -- so do their powers
  pub iterate-carry : (j k : ℕ) → k < length es → slice_index es (iterate f j k) ≡ iterate m j (slice_index es k)
  iterate-carry zero k lt = refl
  iterate-carry (suc j) k lt = iterate-carry j (f k) (perm.below k lt) ∙ ap (iterate m j) (carry k lt)

  -- the cycle of an item is as long as that of its place
  pub CycleLength-carry : (k size : ℕ) → k < length es → CycleLength f k size → CycleLength m (slice_index es k) size
  CycleLength-carry k size lt cycle = record {
    some = cycle.some;
    returns = sym (iterate-carry size k lt) ∙ ap (slice_index es) cycle.returns;
    first = λ i low less e. cycle.first i low less
        (Distinct-once es once (iterate f i k) k (iterate-below (length es) f perm i k lt) lt
        (iterate-carry i k lt ∙ e));
  }
