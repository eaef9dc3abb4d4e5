-- Lists that hold exactly the numbers that pass a test, and a loop that finds out whether a list does.
use Rattle.std.proofs.Common.{◌≢◌, ◌≡◌, ℕ, suc, ◌+◌, ◌-◌, ◌<◌, ◌≤◌, ◌⊎◌, Bool, true, false, List, ◌++◌, length, set, get_or, eqb, slice_index, sym, refl, ap, ◌∙◌, subst, inl, inr, ⊎_elim, arith, length-append, length-set}
use Rattle.std.specs.List.{Contains, position_or_len}
use Rattle.std.proofs.lemmas.Bool.{cases_eq, cases_lt, eqb-true, eqb-false, false≢true, false_from_ne_true, cases_Bool}
use Rattle.std.proofs.lemmas.List.{get_or_default, get_or_append_left, get_or-append_right, get_or-set_same, get_or-set_other, ext_get_or}
use Rattle.std.proofs.lemmas.List.Sums.{position_or_len_is}
use Rattle.std.proofs.lemmas.List.Elements.{Contains-append_cases, Contains-append_left, Contains-append_right}
use Rattle.cp_lists.specs.Count.{count, without, Exactly}
use Rattle.cp_lists.proofs.Counting.{count_all, count_inject, count_without, without_other, first_below}

-- equal items stand at one place
abbrev pub EachOnce : List ℕ → Type 0
EachOnce xs = (i j : ℕ) → i < length xs → j < length xs → slice_index xs i ≡ slice_index xs j → i ≡ j

-- an item at a place is contained
pub contains_at : (xs : List ℕ) (i x : ℕ) → i < length xs → slice_index xs i ≡ x → Contains xs x
contains_at xs i x lt e = (i, lt, get_or_default xs i x 0 lt ∙ e)

-- what is contained stands at some place
pub place_of : (xs : List ℕ) (x : ℕ) → Contains xs x → (i : ℕ) × (i < length xs) × (slice_index xs i ≡ x)
place_of xs x c = (c.0, c.1, get_or_default xs c.0 0 x c.1 ∙ c.2)

-- a list of distinct numbers that pass has at most as many items as numbers pass
pub distinct-le : (n : ℕ) (p : ℕ → Bool) (xs : List ℕ)
    → ((i : ℕ) → i < length xs → (slice_index xs i < n) × (p (slice_index xs i) ≡ true)) → EachOnce xs
    → length xs ≤ count n p
distinct-le n p xs passes once =
    omega (arith, count_all (length xs) (λ i. true) (λ i lt. refl), count_inject (length xs) n (λ i. true) p (slice_index xs) (λ i lt t. passes i lt) (λ i j lti ltj t u e. once i j lti ltj e))

-- distinct numbers that pass, as many as numbers pass, are all of them
pub Exactly-full : (n : ℕ) (p : ℕ → Bool) (xs : List ℕ)
    → ((i : ℕ) → i < length xs → (slice_index xs i < n) × (p (slice_index xs i) ≡ true)) → EachOnce xs
    → count n p ≤ length xs → Exactly n p xs
Exactly-full n p xs passes once enough = record {
  each_passes = passes;
  each_once = once;
  all = λ x lt px.
      ⊎_elim
      (λ found. contains_at xs found.0 x found.1 (eqb-true (slice_index xs found.0) x found.2))
      (λ none.
      let fewer : count n p ≡ suc (count n (without p x)) = count_without n p x lt px in
      let fits : length xs ≤ count n (without p x) = distinct-le n (without p x) xs
      (λ i lti. ((passes i lti).0, without_other p x (slice_index xs i) (eqb-false (slice_index xs i) x (none i lti)) ∙ (passes i lti).1)) once in
      absurd (omega arith))
      (first_below (length xs) (λ i. eqb (slice_index xs i) x));
}

-- the first place of x in the list, or its length
abbrev pub place : List ℕ → ℕ → ℕ
place xs x = position_or_len (λ y. eqb y x) xs

-- what is contained has its place within the list, and stands there
pub place_at : (xs : List ℕ) (x : ℕ) → Contains xs x → (place xs x < length xs) × (slice_index xs (place xs x) ≡ x)
place_at xs x c =
    let at = place_of xs x c in
    ⊎_elim
    (λ found.
    let here : place xs x ≡ found.0 = position_or_len_is (λ y. eqb y x) xs found.0 0 (omega (arith, found.1)) found.3 (λ lt. found.2) in
    (omega (arith, found.1), ap (slice_index xs) here ∙ eqb-true (slice_index xs found.0) x found.2))
    (λ none. absurd (eqb-false (slice_index xs at.0) x (none at.0 at.1) at.2))
    (first_below (length xs) (λ i. eqb (slice_index xs i) x))

-- in a list of distinct items the place of an item is where it stands
pub place_is : (xs : List ℕ) (i x : ℕ) → EachOnce xs → i < length xs → slice_index xs i ≡ x → place xs x ≡ i
place_is xs i x once lt e =
    let at : (place xs x < length xs) × (slice_index xs (place xs x) ≡ x) = place_at xs x (contains_at xs i x lt e) in
    once (place xs x) i at.0 lt (at.1 ∙ sym e)

-- an exact list has as many items as numbers pass
pub Exactly-length : (n : ℕ) (p : ℕ → Bool) (xs : List ℕ) → Exactly n p xs → length xs ≡ count n p
Exactly-length n p xs ex =
    let least : length xs ≤ count n p = distinct-le n p xs ex.each_passes ex.each_once in
    let most : count n p ≤ count (length xs) (λ i. true) = count_inject n (length xs) p (λ i. true) (place xs)
    (λ x lt px. ((place_at xs x (ex.all x lt px)).0, refl))
    (λ x y ltx lty px py e. sym (place_at xs x (ex.all x ltx px)).1 ∙ ap (slice_index xs) e ∙ (place_at xs y (ex.all y lty py)).1) in
    omega (arith, count_all (length xs) (λ i. true) (λ i lt. refl))

-- an exact list is exact for each test that agrees below n
pub Exactly-agree : (n : ℕ) (p q : ℕ → Bool) (xs : List ℕ) → ((x : ℕ) → x < n → p x ≡ q x) → Exactly n p xs
    → Exactly n q xs
Exactly-agree n p q xs same ex = record {
  each_passes = λ i lt. let h : (slice_index xs i < n) × (p (slice_index xs i) ≡ true) = ex.each_passes i lt in (h.0, sym (same (slice_index xs i) h.0) ∙ h.1);
  each_once = ex.each_once;
  all = λ x lt qx. ex.all x lt (same x lt ∙ qx);
}

-- what an exact list contains passes
pub Exactly-contains : (n : ℕ) (p : ℕ → Bool) (xs : List ℕ) (x : ℕ) → Exactly n p xs → Contains xs x
    → (x < n) × (p x ≡ true)
Exactly-contains n p xs x ex c =
    let h : (i : ℕ) × (i < length xs) × (slice_index xs i ≡ x) = place_of xs x c in
    subst (λ y. (y < n) × (p y ≡ true)) h.2 (ex.each_passes h.0 h.1)

-- where item i of the turned list stood before
turned_place : (ps qs : List ℕ) (i : ℕ) → i < length (qs ++ ps)
    → (j : ℕ) × (j < length (ps ++ qs)) × (slice_index (qs ++ ps) i ≡ slice_index (ps ++ qs) j)
    × (((i < length qs) × (j ≡ length ps + i)) ⊎ ((length qs ≤ i) × (j < length ps) × (j + length qs ≡ i)))
turned_place ps qs i lt =
    ⊎_elim
    (λ l. (length ps + i, omega (arith, length-append ps qs), get_or_append_left qs ps 0 i l ∙ sym (get_or-append_right ps qs (length ps) (length ps + i) 0 refl (omega arith) ∙ ap (slice_index qs) (omega arith)), inl (l, refl)))
    (λ g. (i - length qs, omega (arith, length-append ps qs, length-append qs ps), get_or-append_right qs ps (length qs) i 0 refl g ∙ sym (get_or_append_left ps qs 0 (i - length qs) (omega (arith, length-append qs ps))), inr (g, omega (arith, length-append qs ps), omega arith)))
    (cases_lt i (length qs))

-- a turn of a list keeps its items apart
pub EachOnce-turn : (ps qs : List ℕ) → EachOnce (ps ++ qs) → EachOnce (qs ++ ps)
EachOnce-turn ps qs once i j lti ltj e =
    let h = turned_place ps qs i lti in
    let k = turned_place ps qs j ltj in
    let same : h.0 ≡ k.0 = once h.0 k.0 h.1 k.1 (sym h.2 ∙ e ∙ k.2) in
    omega (arith, h.3, k.3)

-- a turn of an exact list is exact
pub Exactly-turn : (n : ℕ) (p : ℕ → Bool) (ps qs : List ℕ) → Exactly n p (ps ++ qs) → Exactly n p (qs ++ ps)
Exactly-turn n p ps qs ex = record {
  each_passes = λ i lt. let h = turned_place ps qs i lt in subst (λ y. (y < n) × (p y ≡ true)) (sym h.2) (ex.each_passes h.0 h.1);
  each_once = EachOnce-turn ps qs ex.each_once;
  all = λ x lt px. ⊎_elim (Contains-append_right qs ps x) (Contains-append_left qs ps x) (Contains-append_cases ps qs x (ex.all x lt px));
}

-- after i items of xs: each of them passes, no two are equal, and of the numbers that pass seen marks these alone;
-- elsewhere it is as it was before
pub record SoFar (n : ℕ) (p : ℕ → Bool) (xs : List ℕ) (i : ℕ) (before seen : List Bool) : Type 0 where
  pub passes : (k : ℕ) → k < i → (slice_index xs k < n) × (p (slice_index xs k) ≡ true)
  pub once : (j k : ℕ) → j < i → k < i → slice_index xs j ≡ slice_index xs k → j ≡ k
  pub marked : (k : ℕ) → k < i → get_or seen (slice_index xs k) false ≡ true
  pub met : (x : ℕ) → p x ≡ true → get_or seen x false ≡ true → (k : ℕ) × (k < i) × (slice_index xs k ≡ x)
  pub others : (x : ℕ) → p x ≡ false → get_or seen x false ≡ get_or before x false
  pub size : length seen ≡ length before

-- at the start nothing that passes is marked
pub SoFar-none : (n : ℕ) (p : ℕ → Bool) (xs : List ℕ) (before : List Bool)
    → ((x : ℕ) → p x ≡ true → get_or before x false ≡ false) → SoFar n p xs 0 before before
SoFar-none n p xs before clear = record {
  passes = λ k lt. absurd (omega arith);
  once = λ j k lt. absurd (omega arith);
  marked = λ k lt. absurd (omega arith);
  met = λ x px t. absurd (false≢true (sym (clear x px) ∙ t));
  others = λ x px. refl;
  size = refl;
}

-- the next item, if it passes and is not marked, is marked
pub SoFar-more : (n : ℕ) (p : ℕ → Bool) (xs : List ℕ) (i : ℕ) (before seen : List Bool) (d : ℕ)
    → SoFar n p xs i before seen → slice_index xs i ≡ d → d < n → p d ≡ true → d < length seen
    → get_or seen d false ≡ false → SoFar n p xs (i + 1) before (set seen d true)
SoFar-more n p xs i before seen d so item lt pd within new = record {
  passes = λ k l. ⊎_elim (λ e. subst (λ y. (y < n) × (p y ≡ true)) (sym (ap (slice_index xs) e ∙ item)) (lt, pd)) (λ ne. so.passes k (omega arith)) (cases_eq k i);
  once = λ j k lj lk e.
      ⊎_elim
      (λ f. ⊎_elim (λ g. f ∙ sym g) (λ ng. absurd (differs k (omega arith) (sym e ∙ ap (slice_index xs) f ∙ item))) (cases_eq k i))
      (λ nf. ⊎_elim (λ g. absurd (differs j (omega arith) (e ∙ ap (slice_index xs) g ∙ item))) (λ ng. so.once j k (omega arith) (omega arith) e) (cases_eq k i))
      (cases_eq j i);
  marked = λ k l.
      ⊎_elim
      (λ e. ap (λ y. get_or (set seen d true) y false) (ap (slice_index xs) e ∙ item) ∙ get_or-set_same seen d true false within)
      (λ ne. get_or-set_other seen d (slice_index xs k) true false (differs k (omega arith)) ∙ so.marked k (omega arith))
      (cases_eq k i);
  met = λ x px t.
      ⊎_elim
      (λ e. (i, omega arith, item ∙ sym e))
      (λ ne. let h : (k : ℕ) × (k < i) × (slice_index xs k ≡ x) = so.met x px (sym (get_or-set_other seen d x true false ne) ∙ t) in (h.0, omega (arith, h.1), h.2))
      (cases_eq x d);
  others = λ x px. get_or-set_other seen d x true false (λ e. false≢true (sym px ∙ ap p e ∙ pd)) ∙ so.others x px;
  size = length-set seen d true ∙ so.size;
}
  where
    differs : (k : ℕ) → k < i → slice_index xs k ≡ d → ⊥
    differs k l e = false≢true (sym new ∙ ap (λ y. get_or seen y false) (sym e) ∙ so.marked k l)

-- at the end, a list as long as numbers pass is exact
pub SoFar-all : (n : ℕ) (p : ℕ → Bool) (xs : List ℕ) (before seen : List Bool) → SoFar n p xs (length xs) before seen
    → count n p ≤ length xs → Exactly n p xs
SoFar-all n p xs before seen so enough = Exactly-full n p xs so.passes so.once enough

-- a list with an item that is not below n is not exact
pub stopped_outside : (n : ℕ) (p : ℕ → Bool) (xs : List ℕ) (i : ℕ) → i < length xs → n ≤ slice_index xs i
    → Exactly n p xs → ⊥
stopped_outside n p xs i lt out ex = omega (arith, (ex.each_passes i lt).0)

-- a list with an item that fails the test is not exact
pub stopped_failing : (n : ℕ) (p : ℕ → Bool) (xs : List ℕ) (i : ℕ) → i < length xs → p (slice_index xs i) ≡ false
    → Exactly n p xs → ⊥
stopped_failing n p xs i lt fails ex = false≢true (sym fails ∙ (ex.each_passes i lt).1)

-- a list with an item that is marked already is not exact
pub stopped_twice : (n : ℕ) (p : ℕ → Bool) (xs : List ℕ) (i : ℕ) (before seen : List Bool) → SoFar n p xs i before seen
    → i < length xs → get_or seen (slice_index xs i) false ≡ true → Exactly n p xs → ⊥
stopped_twice n p xs i before seen so lt old ex =
    let h : (k : ℕ) × (k < i) × (slice_index xs k ≡ slice_index xs i) = so.met (slice_index xs i) (ex.each_passes i lt).1 old in
    let same : h.0 ≡ i = ex.each_once h.0 i (omega (arith, h.1)) lt h.2 in
    omega (arith, h.1)

-- a list of another length than numbers pass is not exact
pub stopped_length : (n : ℕ) (p : ℕ → Bool) (xs : List ℕ) → (length xs ≡ count n p → ⊥) → Exactly n p xs → ⊥
stopped_length n p xs ne ex = ne (Exactly-length n p xs ex)

-- a second pass takes the marks of the first m items away: after i of them only items behind are still marked
pub record Cleared (p : ℕ → Bool) (xs : List ℕ) (m i : ℕ) (before seen : List Bool) : Type 0 where
  pub left : (x : ℕ) → p x ≡ true → get_or seen x false ≡ true → (k : ℕ) × (i ≤ k) × (k < m) × (slice_index xs k ≡ x)
  pub others : (x : ℕ) → p x ≡ false → get_or seen x false ≡ get_or before x false
  pub size : length seen ≡ length before

-- at the start the marked numbers that pass are the items
pub Cleared-none : (n : ℕ) (p : ℕ → Bool) (xs : List ℕ) (m : ℕ) (before seen : List Bool) → SoFar n p xs m before seen
    → Cleared p xs m 0 before seen
Cleared-none n p xs m before seen so = record {
  left = λ x px t. let h : (k : ℕ) × (k < m) × (slice_index xs k ≡ x) = so.met x px t in (h.0, omega arith, h.1, h.2);
  others = so.others;
  size = so.size;
}

-- the mark of the next item is taken away
pub Cleared-more : (p : ℕ → Bool) (xs : List ℕ) (m i : ℕ) (before seen : List Bool) (d : ℕ)
    → Cleared p xs m i before seen → slice_index xs i ≡ d → p d ≡ true → d < length seen
    → Cleared p xs m (i + 1) before (set seen d false)
Cleared-more p xs m i before seen d so item pd within = record {
  left = λ x px t.
      ⊎_elim
      (λ e. absurd (false≢true (sym (ap (λ y. get_or (set seen d false) y false) e ∙ get_or-set_same seen d false false within) ∙ t)))
      (λ ne.
      let h : (k : ℕ) × (i ≤ k) × (k < m) × (slice_index xs k ≡ x) = so.left x px (sym (get_or-set_other seen d x false false ne) ∙ t) in
      let apart : h.0 ≢ i = λ e. ne (sym h.3 ∙ ap (slice_index xs) e ∙ item) in
      (h.0, omega (arith, h.1, apart), h.2, h.3))
      (cases_eq x d);
  others = λ x px. get_or-set_other seen d x false false (λ e. false≢true (sym px ∙ ap p e ∙ pd)) ∙ so.others x px;
  size = length-set seen d false ∙ so.size;
}

-- at the end nothing that passes is marked
pub Cleared-all : (p : ℕ → Bool) (xs : List ℕ) (m : ℕ) (before seen : List Bool) → Cleared p xs m m before seen
    → (x : ℕ) → p x ≡ true → get_or seen x false ≡ false
Cleared-all p xs m before seen so x px = false_from_ne_true (get_or seen x false) (λ t. let h : (k : ℕ) × (m ≤ k) × (k < m) × (slice_index xs k ≡ x) = so.left x px t in omega (arith, h.1, h.2))

-- where nothing that passes was marked before, the marks are as before
pub Cleared-restored : (p : ℕ → Bool) (xs : List ℕ) (m : ℕ) (before seen : List Bool) → Cleared p xs m m before seen
    → ((x : ℕ) → p x ≡ true → get_or before x false ≡ false) → seen ≡ before
Cleared-restored p xs m before seen so clear = ext_get_or false seen before so.size (λ x lt. ⊎_elim (λ px. Cleared-all p xs m before seen so x px ∙ sym (clear x px)) (λ px. so.others x px) (cases_Bool (p x)))
