-- How a table of places grows from the last edge on.
use Rattle.std.proofs.Common.{◌≡◌, ◌≢◌, ℕ, ◌+◌, ◌-◌, ◌<◌, ◌≤◌, Bool, true, false, not, cond, ◌||◌, eqb, List, [], ◌∷◌, ◌++◌, length, take, drop, slice_index_or, sym, refl, ap, ◌∙◌, ⊎_elim, arith}
use Rattle.std.specs.Prelude.{unwrap_or, Some}
use Rattle.std.specs.BTreeMap.{BTreeMap, Updates, IsEmpty, is_at}
use Rattle.std.specs.Map.{lookup}
use Rattle.std.specs.Ordering.{nat_cmp, is_eq}
use Rattle.std.specs.Cmp.{nat_cmp_is}
use Rattle.std.specs.List.{position_or_len}
use Rattle.std.specs.declared.cmp.Ordering.TheVariants.{Less, Greater}
use Rattle.std.proofs.lemmas.Bool.{cases_eq, cases_order, eq-eqb, ne_eqb}
use Rattle.std.proofs.lemmas.List.{take_more, drop_more, at_drop_all}
use Rattle.cp_board.specs.Names.{has}
use Rattle.cp_join.specs.EdgePlaces.{place_in}

-- an empty table has no place
pub none_at_first : (places : BTreeMap ℕ ℕ) → IsEmpty places → (none e : ℕ) → place_in places none e ≡ none
none_at_first places empty none e = ap (λ es. unwrap_or (lookup (is_at (nat_cmp e)) es) none) empty

-- another number is not found
no_match : (k q : ℕ) → q ≢ k → is_eq (nat_cmp k q) ≡ false
no_match k q other =
    ⊎_elim
    (λ (e : k ≡ q). absurd (other (sym e)))
    (λ o. ⊎_elim
    (λ (lt : k < q). ap is_eq (sym (nat_cmp_is k q Less lt)))
    (λ (gt : q < k). ap is_eq (sym (nat_cmp_is k q Greater gt)))
    o)
    (cases_order k q)

module _ (before after : BTreeMap ℕ ℕ) (edge place : ℕ) (updates : Updates nat_cmp before after edge (Some place)) where
  -- one edge more has its place, and each other one what it had, by a test that tells them
  told_by : (none e : ℕ) (b : Bool) → (e ≡ edge → b ≡ true) → (e ≢ edge → b ≡ false)
      → place_in after none e ≡ cond b place (place_in before none e)
  told_by none e b within outside =
      ⊎_elim
      (λ (same : e ≡ edge).
      ap (place_in after none) same ∙ ap (λ o. unwrap_or o none) updates.1
      ∙ sym (ap (λ t. cond t place (place_in before none e)) (within same)))
      (λ (other : e ≢ edge).
      ap (λ o. unwrap_or o none) (updates.2 e (no_match edge e other))
      ∙ sym (ap (λ t. cond t place (place_in before none e)) (outside other)))
      (cases_eq e edge)

  -- one edge more has its place, and each other one what it had
  pub place_in-insert : (none e : ℕ) → place_in after none e ≡ cond (eqb e edge) place (place_in before none e)
  place_in-insert none e = told_by none e (eqb e edge) (eq-eqb e edge) (ne_eqb e edge)

  -- the same, with the edges of the test in the other order
  pub place_in-insert_turned : (none e : ℕ) → place_in after none e ≡ cond (eqb edge e) place (place_in before none e)
  place_in-insert_turned none e =
      told_by none e (eqb edge e) (λ same. eq-eqb edge e (sym same)) (λ other. ne_eqb edge e (λ same. other (sym same)))

-- the tests of one item more
has_behind : (xs : List ℕ) (x e : ℕ) → has (xs ++ x ∷ []) e ≡ (eqb e x || has xs e)
has_behind [] x e = refl
has_behind (y ∷ ys) x e = swap (eqb e y) (eqb e x) (has ys e) (has (ys ++ x ∷ []) e) (has_behind ys x e)
  where
    swap : (a b c d : Bool) → d ≡ (b || c) → (a || d) ≡ (b || (a || c))
    swap true true c d h = refl
    swap true false c d h = refl
    swap false b c d h = h

-- one edge of a part more
pub place_part-more : (part : List ℕ) (i : ℕ) (place : ℕ) (first before after : BTreeMap ℕ ℕ) (edge none e : ℕ)
    → i < length part → edge ≡ slice_index_or part i 0
    → place_in before none e ≡ cond (has (take i part) e) place (place_in first none e)
    → place_in after none e ≡ cond (eqb e edge) place (place_in before none e)
    → place_in after none e ≡ cond (has (take (i + 1) part) e) place (place_in first none e)
place_part-more part i place first before after edge none e lt is old new =
    new ∙ ap (cond (eqb e edge) place) old
    ∙ join (eqb e edge) (has (take i part) e)
    ∙ sym (ap (λ b. cond b place (place_in first none e))
    (ap (λ zs. has zs e) (take_more part i 0 lt ∙ ap (λ y. take i part ++ y ∷ []) (sym is))
    ∙ has_behind (take i part) edge e))
  where
    join : (a b : Bool) → cond a place (cond b place (place_in first none e)) ≡ cond (a || b) place (place_in first none e)
    join true b = refl
    join false b = refl

module _ {A : Type 0} (p : A → Bool) where
  -- the first item that passes, from place k on
  first_from : (xs : List A) (k : ℕ) (d : A) → k < length xs
      → k + position_or_len p (drop k xs)
      ≡ cond (p (slice_index_or xs k d)) k (k + 1 + position_or_len p (drop (k + 1) xs))
  first_from xs k d lt =
      ap (λ zs. k + position_or_len p zs) (drop_more xs k d lt)
      ∙ step (p (slice_index_or xs k d)) (position_or_len p (drop (k + 1) xs))
    where
      step : (b : Bool) (r : ℕ) → k + cond (not b) (1 + r) 0 ≡ cond b k (k + 1 + r)
      step true r = omega arith
      step false r = omega arith

  -- a place that was told from some place on is told from the one before it on
  pub told_before : (xs : List A) (left : ℕ) (d : A) (was is : ℕ) → 0 < left → left ≤ length xs
      → was ≡ left + position_or_len p (drop left xs)
      → is ≡ cond (p (slice_index_or xs (left - 1) d)) (left - 1) was
      → is ≡ left - 1 + position_or_len p (drop (left - 1) xs)
  told_before xs left d was is some le before now =
      let back : left ≡ left - 1 + 1 = omega (arith, some) in
      now
      ∙ ap (cond (p (slice_index_or xs (left - 1) d)) (left - 1))
      (before ∙ ap (λ m. m + position_or_len p (drop m xs)) back)
      ∙ sym (first_from xs (left - 1) d (omega (arith, some, le)))

  -- at the end nothing is told
  pub told_at_end : (xs : List A) → length xs ≡ length xs + position_or_len p (drop (length xs) xs)
  told_at_end xs = let none = at_drop_all (position_or_len p) xs (length xs) (omega arith) in omega (arith, none)

  -- from the first place on all is told
  pub told_all : (xs : List A) (left was : ℕ) → left ≡ 0 → was ≡ left + position_or_len p (drop left xs)
      → was ≡ position_or_len p xs
  told_all xs left was none told =
      let same = told ∙ ap (λ m. m + position_or_len p (drop m xs)) none in omega (arith, same)
