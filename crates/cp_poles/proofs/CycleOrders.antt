-- The rows of the cycles of a permutation that is stored as a list, where all its cycles have one length.
use Rattle.std.proofs.Common.{◌≡◌, ◌⊎◌, ℕ, zero, suc, ◌+◌, ◌-◌, ◌<◌, ◌≤◌, Bool, true, false, cond, List, [], ◌∷◌, ◌++◌, length, map, take, get_or, replicate, set, slice_index, sym, refl, ap, ◌∙◌, subst, inl, inr, ⊎_elim, arith, get_or-set_other, length-set}
use Rattle.std.specs.Fn.{iterate}
use Rattle.std.specs.List.{Contains, filter, range_with_len}
use Rattle.std.specs.List.Sorted.{IsPermutation, IsStrictlyIncreasing}
use Rattle.std.proofs.lemmas.Bool.{cases_Bool, cases_eq, cases_lt, false≢true, both_ways}
use Rattle.std.proofs.lemmas.List.{get_or-append-add, get_or_append_left, get_or-map, get_or-set_same, get_or-take, get_or_default, length-append, length-map, length-replicate, length-take-le, take_more}
use Rattle.std.proofs.Math.Seq.{take-append_seam}
use Rattle.std.proofs.lemmas.List.Elements.{Contains-get_or}
use Rattle.std.proofs.lemmas.List.FromFn.{filter_of_map_range_with_len_more, get_or-range_with_len, length-range_with_len}
use Rattle.std.proofs.lemmas.List.Sorted.{length_permutation}
use Rattle.cp_base.specs.Permutations.{IsPerm}
use Rattle.cp_lists.specs.CyclicLists.{Distinct, Has}
use Rattle.cp_lists.proofs.DistinctLists.{Has-Contains}
use Rattle.cp_lists.proofs.PermutedLists.{IsPermutation-from}
use Rattle.cp_orbits.specs.Orbits.{CycleLength, Reaches}
use Rattle.cp_orbits.proofs.CycleLengths.{CycleLength-unique}
use Rattle.cp_orbits.proofs.OrbitLaws.{Reaches-sym, Reaches-trans, iterate-after}
use Rattle.cp_board.proofs.NamedLists.{rises_from}
use Rattle.cp_board.proofs.NumberOfNewNames.{Distinct-from_rises}
use Rattle.cp_poles.specs.Cycles.{HaveLength}
use Rattle.cp_poles.specs.Kept.{AddsCycle, AreMet, IsKeptBy}
use Rattle.cp_poles.specs.Layers.{layers, leaders, lowest}
use Rattle.cp_poles.proofs.CycleWalks.{unmarked}
use Rattle.cp_poles.proofs.CycleRows.{layers-Has, layers-last, layers-map, lowest-at, lowest-from, rows-Distinct, rows-all, rows-items, rows-turn}

-- a number of steps is one below the length of the cycle
pub within_cycle : (m : ℕ → ℕ) (n x : ℕ) → CycleLength m x n → (k : ℕ)
    → (r : ℕ) × (r < n) × (iterate m r x ≡ iterate m k x)
within_cycle m n x cycle zero = (0, (let some = cycle.some in omega (arith, some)), refl)
within_cycle m n x cycle (suc k) =
    let r = within_cycle m n x cycle k in
    let step : iterate m (suc r.0) x ≡ iterate m (suc k) x =
    iterate-after m r.0 x ∙ ap m r.2 ∙ sym (iterate-after m k x) in
    ⊎_elim
    (λ (less : suc r.0 < n). (suc r.0, less, step))
    (λ (end : n ≤ suc r.0).
    let whole : n ≡ suc r.0 = omega (arith, end, r.1) in
    let some = cycle.some in (
      0,
      omega (arith, some),
      sym cycle.returns ∙ ap (λ c. iterate m c x) whole ∙ step,
    ))
    (cases_lt (suc r.0) n)

-- the items of the rows come again one row later, as what the map makes of them
layers-next : (m : ℕ → ℕ) (c : ℕ) (row : List ℕ) (k : ℕ) → length row + k < length (layers m c row)
    → get_or (layers m c row) (length row + k) 0 ≡ m (get_or (layers m c row) k 0)
layers-next m zero row k lt = absurd (omega (arith, lt))
layers-next m (suc c) row k lt =
    let all : List ℕ = layers m c row in
    let size : length (layers m (suc c) row) ≡ length row + length all =
    length-append row (layers m c (map m row))
    ∙ ap (λ xs. length row + length xs) (sym (layers-map m c row))
    ∙ ap (λ l. length row + l) (length-map all m) in
    let low : k < length all = omega (arith, lt, size) in
    get_or-append-add row (layers m c (map m row)) k 0
    ∙ ap (λ xs. get_or xs k 0) (sym (layers-map m c row))
    ∙ get_or-map m all k 0 0 low
    ∙ ap m (sym (get_or_append_left all (map (iterate m c) row) 0 k low)
    ∙ ap (λ xs. get_or xs k 0) (sym (layers-last m c row)))

-- a permutation, all cycles of which have one length
module _ (to : List ℕ) (perm : IsPerm to) (size : ℕ) (one : HaveLength to size) where
  -- as a map
  abbrev m : ℕ → ℕ
  m = slice_index to

  -- its places
  abbrev pub places : List ℕ
  places = range_with_len 0 (length to)

  -- the places that are least on their cycles
  abbrev pub row : List ℕ
  row = leaders m size places

  -- all rows, one behind the other
  abbrev pub rows : List ℕ
  rows = layers m size row

  -- each number below how many places there are is one of them
  place_at : (x : ℕ) → x < length to → Has x places
  place_at x lt =
      let at : get_or places x 0 ≡ x = omega (arith, get_or-range_with_len 0 (length to) x 0 lt) in
      (Has-Contains x places).1
      (subst (Contains places) at
      (Contains-get_or places x 0 (omega (arith, lt, length-range_with_len 0 (length to)))))

  -- and each of them is one
  place_low : (x : ℕ) → Has x places → x < length to
  place_low x h =
      let c = (Has-Contains x places).0 h in
      let low : c.0 < length to = omega (arith, c.1, length-range_with_len 0 (length to)) in
      let at = get_or-range_with_len 0 (length to) c.0 x low in
      omega (arith, c.2, at, low)

  -- none stands twice
  places_once : Distinct places
  places_once = Distinct-from_rises places (rises_from places up)
    where
      up : IsStrictlyIncreasing places
      up k lt =
          omega (
            arith,
            get_or-range_with_len 0 (length to) k 0 (omega (arith, lt, length-range_with_len 0 (length to))),
            get_or-range_with_len 0 (length to) (k + 1) 0 (omega (arith, lt, length-range_with_len 0 (length to))),
          )

  -- the permutation stays among them
  inside : (x : ℕ) → Has x places → Has (m x) places
  inside x h = place_at (m x) (perm.below x (place_low x h))

  -- the cycle of each has the one length
  cycles : (x : ℕ) → Has x places → CycleLength m x size
  cycles x h = one x (place_low x h)

  -- the rows have each place once
  pub rows_permuted : IsPermutation places rows
  rows_permuted = IsPermutation-from places rows places_once (rows-Distinct m size places places_once inside cycles)
      (rows-all m size places places_once inside cycles) (rows-items m size places places_once inside cycles)

  -- the permutation takes them to a turn of themselves
  pub rows-IsKeptBy : IsKeptBy to rows
  rows-IsKeptBy = record { all = rows_permuted; kept = rows-turn m size places places_once inside cycles }

  -- there are as many
  pub rows_size : length rows ≡ length to
  rows_size = length_permutation places rows rows_permuted ∙ length-range_with_len 0 (length to)

  -- each is a place
  pub rows_low : (k : ℕ) → k < length to → get_or rows k 0 < length to
  rows_low k lt =
      let low : k < length rows = omega (arith, lt, rows_size) in
      place_low (get_or rows k 0)
      (rows-items m size places places_once inside cycles (get_or rows k 0)
      ((Has-Contains (get_or rows k 0) rows).1 (Contains-get_or rows k 0 low)))

  -- there is a least place, where there is a place
  pub row_some : 0 < length to → 0 < length row
  row_some lt =
      let w = layers-Has m size row 0 (rows-all m size places places_once inside cycles 0 (place_at 0 lt)) in
      some row w.2.0 w.2.1
    where
      some : (xs : List ℕ) (x : ℕ) → Has x xs → 0 < length xs
      some [] x h = absurd h
      some (y ∷ xs) x h = omega arith

  -- the first row stands first
  pub rows_start : 0 < length to → take (length row) rows ≡ row
  rows_start lt = begin size refl
    where
      none : size ≡ 0 → ⊥
      none e = let some = (one 0 lt).some in omega (arith, some, e)

      begin : (c : ℕ) → c ≡ size → take (length row) (layers m c row) ≡ row
      begin zero e = absurd (none (sym e))
      begin (suc c) e = take-append_seam row (layers m c (map m row))

  -- and each item goes one row later to where the permutation takes it
  pub rows_next : (k : ℕ) → length row + k < length to → get_or rows (length row + k) 0 ≡ m (get_or rows k 0)
  rows_next k lt = layers-next m size row k (omega (arith, lt, rows_size))

  -- so the rows are found item by item: the next one behind the first k
  module _ (k : ℕ) (lt : k < length to) (had : length row ≤ k) (xs : List ℕ) (so : xs ≡ take k rows) where
    -- there are k
    found_size : length xs ≡ k
    found_size = ap length so ∙ length-take-le k rows (omega (arith, lt, rows_size))

    -- the place one row before
    pub before_within : k - length row < length xs
    before_within = omega (arith, found_size, had, row_some (omega (arith, lt)))

    -- it has the item of the rows at that place
    before_item : get_or xs (k - length row) 0 ≡ get_or rows (k - length row) 0
    before_item =
        ap (λ ys. get_or ys (k - length row) 0) so
        ∙ get_or-take k rows (k - length row) 0 (omega (arith, had, row_some (omega (arith, lt))))

    -- which is a place
    before_low : get_or xs (k - length row) 0 < length to
    before_low = subst (λ x. x < length to) (sym before_item) (rows_low (k - length row) (omega (arith, lt)))

    -- goes to the next item
    found_more : xs ++ m (get_or xs (k - length row) 0) ∷ [] ≡ take (k + 1) rows
    found_more =
        let whole : length row + (k - length row) ≡ k = omega (arith, had) in
        let next : get_or rows k 0 ≡ m (get_or xs (k - length row) 0) =
        subst (λ j. get_or rows j 0 ≡ m (get_or rows (k - length row) 0)) whole
        (rows_next (k - length row) (omega (arith, had, lt)))
        ∙ ap m (sym before_item) in
        ap (λ ys. ys ++ m (get_or xs (k - length row) 0) ∷ []) so
        ∙ ap (λ x. take k rows ++ x ∷ []) (sym next)
        ∙ sym (take_more rows k 0 (omega (arith, lt, rows_size)))

    -- what stands there by a count of the first row
    pub before_read : (count x : ℕ) → count ≡ length row → x ≡ get_or xs (k - count) x
        → (x < length to) × (xs ++ m x ∷ [] ≡ take (k + 1) rows)
    before_read count x e read =
        let at : x ≡ get_or xs (k - length row) 0 =
        subst (λ n. x ≡ get_or xs (k - n) x) e read ∙ get_or_default xs (k - length row) x 0 before_within in (
          subst (λ y. y < length to) (sym at) before_low,
          ap (λ y. xs ++ m y ∷ []) at ∙ found_more,
        )

  -- one place more
  pub row_more : (at : ℕ) → leaders m size (range_with_len 0 (at + 1))
      ≡ leaders m size (range_with_len 0 at) ++ cond (lowest m size at at) (at ∷ []) []
  row_more at =
      let t : ℕ → Bool = λ x. lowest m size x x in
      ap (filter t) (sym (map_same (range_with_len 0 (at + 1))))
      ∙ filter_of_map_range_with_len_more t (λ x. x) 0 at at (omega arith)
      ∙ ap (λ xs. filter t xs ++ cond (t at) (at ∷ []) []) (map_same (range_with_len 0 at))
    where
      map_same : (xs : List ℕ) → map (λ x. x) xs ≡ xs
      map_same [] = refl
      map_same (x ∷ xs) = ap (λ ys. x ∷ ys) (map_same xs)

  -- which places are met by cycles of the places before one
  module _ (at : ℕ) (lt : at < length to) (seen : List Bool) (met : AreMet to at seen) where
    -- a place that is met is not the least of its cycle
    pub met-lowest : get_or seen at false ≡ true → lowest m size at at ≡ false
    met-lowest h =
        let w = (met.met at).0 h in
        let back : Reaches m at w.0 =
        Reaches-sym (length to) m perm w.0 at (omega (arith, w.1, lt)) w.2 in
        let r = within_cycle m size at (one at lt) back.0 in
        ⊎_elim
        (λ yes. let low = lowest-at m size at at yes r.0 r.1 in
        absurd (omega (arith, low, r.2, back.1, w.1)))
        (λ no. no)
        (cases_Bool (lowest m size at at))

    -- one that is not met is
    pub unmet-lowest : get_or seen at false ≡ false → lowest m size at at ≡ true
    unmet-lowest h = lowest-from m size at at
        (λ k less. ⊎_elim
        (λ (lower : iterate m k at < at).
        absurd (both_ways (get_or seen at false) h
        ((met.met at).1 (
          iterate m k at,
          lower,
          Reaches-sym (length to) m perm at (iterate m k at) lt (k, refl),
        ))))
        (λ not. not)
        (cases_lt (iterate m k at) at))

    -- where it is met nothing has to be marked
    pub met-more : get_or seen at false ≡ true → AreMet to (at + 1) seen
    met-more h = record {
      one_each = met.one_each;
      met = λ k. (
        λ t. let w = (met.met k).0 t in (w.0, omega (arith, w.1), w.2),
        λ w. ⊎_elim
            (λ (e : w.0 ≡ at).
            let z = (met.met at).0 h in
            (met.met k).1 (z.0, z.1, Reaches-trans m z.0 at k z.2 (subst (λ x. Reaches m x k) e w.2)))
            (λ ne. (met.met k).1 (w.0, omega (arith, w.1, ne), w.2))
            (cases_eq w.0 at),
      );
    }

    -- else its cycle
    pub added-more : (new : List Bool) → AddsCycle to at seen new → AreMet to (at + 1) new
    added-more new adds = record {
      one_each = adds.one_each ∙ met.one_each;
      met = λ k. (
        λ t. ⊎_elim
            (λ old. let w = (met.met k).0 old in (w.0, omega (arith, w.1), w.2))
            (λ r. (at, omega arith, r))
            ((adds.added k).0 t),
        λ w. (adds.added k).1 (⊎_elim
            (λ (e : w.0 ≡ at). inr (subst (λ x. Reaches m x k) e w.2))
            (λ ne. inl ((met.met k).1 (w.0, omega (arith, w.1, ne), w.2)))
            (cases_eq w.0 at)),
      );
    }

-- before the first place none is met
pub AreMet-none : (to : List ℕ) → AreMet to 0 (replicate (length to) false)
AreMet-none to = record {
  one_each = length-replicate (length to) false;
  met = λ k. (λ t. absurd (false≢true (sym (unmarked (length to) k) ∙ t)), λ w. absurd (omega (arith, w.1)));
}

-- marked are, beside what was, the places of the first steps of a walk
pub record IsWalked (to : List ℕ) (start step at : ℕ) (old new : List Bool) : Type 0 where
  pub one_each : length new ≡ length old
  pub here : at ≡ iterate (slice_index to) step start
  pub kept : (k : ℕ) → get_or old k false ≡ true → get_or new k false ≡ true
  pub walked : (j : ℕ) → j < step → get_or new (iterate (slice_index to) j start) false ≡ true
  pub only : (k : ℕ) → get_or new k false ≡ true
      → (get_or old k false ≡ true) ⊎ Reaches (slice_index to) start k

-- before the first step
pub IsWalked-start : (to : List ℕ) (start : ℕ) (old : List Bool) → IsWalked to start 0 start old old
IsWalked-start to start old = record {
  one_each = refl;
  here = refl;
  kept = λ k t. t;
  walked = λ j lt. absurd (omega (arith, lt));
  only = λ k t. inl t;
}

-- one step more
IsWalked-suc : (to : List ℕ) (start step at : ℕ) (old new : List Bool) → at < length new
    → IsWalked to start step at old new → IsWalked to start (suc step) (slice_index to at) old (set new at true)
IsWalked-suc to start step at old new lt w = record {
  one_each = length-set new at true ∙ w.one_each;
  here = ap (slice_index to) w.here ∙ sym (iterate-after (slice_index to) step start);
  kept = λ k t. stays k (w.kept k t);
  walked = λ j less. ⊎_elim
      (λ (e : j ≡ step).
      subst (λ k. get_or (set new at true) k false ≡ true)
      (w.here ∙ ap (λ c. iterate (slice_index to) c start) (sym e)) (get_or-set_same new at true false lt))
      (λ ne. stays (iterate (slice_index to) j start) (w.walked j (omega (arith, less, ne))))
      (cases_eq j step);
  only = λ k t. ⊎_elim
      (λ (e : k ≡ at). inr (step, sym w.here ∙ sym e))
      (λ ne. w.only k (sym (get_or-set_other new at k true false ne) ∙ t))
      (cases_eq k at);
}
  where
    stays : (k : ℕ) → get_or new k false ≡ true → get_or (set new at true) k false ≡ true
    stays k t = ⊎_elim
        (λ (e : k ≡ at). subst (λ j. get_or (set new at true) j false ≡ true) (sym e)
        (get_or-set_same new at true false lt))
        (λ ne. get_or-set_other new at k true false ne ∙ t)
        (cases_eq k at)

-- the same with the number of steps written as a sum
pub IsWalked-more : (to : List ℕ) (start step at : ℕ) (old new : List Bool) → at < length new
    → IsWalked to start step at old new → IsWalked to start (step + 1) (slice_index to at) old (set new at true)
IsWalked-more to start step at old new lt w =
    let e : suc step ≡ step + 1 = omega arith in
    subst (λ n. IsWalked to start n (slice_index to at) old (set new at true)) e
    (IsWalked-suc to start step at old new lt w)

-- after a whole cycle its places are marked
pub AddsCycle-walked : (to : List ℕ) (start size at : ℕ) (old new : List Bool)
    → CycleLength (slice_index to) start size → IsWalked to start size at old new → AddsCycle to start old new
AddsCycle-walked to start size at old new cycle w = record {
  one_each = w.one_each;
  added = λ k. (
    w.only k,
    λ c. ⊎_elim (w.kept k)
        (λ r. let q = within_cycle (slice_index to) size start cycle r.0 in
        subst (λ x. get_or new x false ≡ true) (q.2 ∙ r.1) (w.walked q.0 q.1)) c,
  );
}

-- the cycles have the length of the first one
pub HaveLength-first : (to perm : List ℕ) → perm ≡ to → 0 < length to → (size : ℕ) × HaveLength to size → (size : ℕ)
    → CycleLength (slice_index perm) 0 size → HaveLength to size
HaveLength-first to perm same lt some size first k less =
    subst (CycleLength (slice_index to) k)
    (CycleLength-unique (slice_index to) 0 some.0 size (some.1 0 lt)
    (subst (λ xs. CycleLength (slice_index xs) 0 size) same first))
    (some.1 k less)
