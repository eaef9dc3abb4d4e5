-- An order of the edges of a pipe's end that the map of the pipe takes to a turn of itself.
use Rattle.std.proofs.Common.{◌≡◌, ℕ, zero, suc, ◌<◌, slice_index_or, List, [], ◌∷◌, length, map, get_or, slice_index, sym, refl, ap, ◌∙◌, subst, inl, inr, arith}
use Rattle.std.specs.Prelude.{Some}
use Rattle.std.specs.Fn.{iterate}
use Rattle.std.specs.Option.{option_map_or}
use Rattle.std.specs.List.{All, Contains, range_with_len}
use Rattle.std.specs.List.Sorted.{IsPermutation}
use Rattle.std.proofs.lemmas.List.{get_or-map, get_or_default, length-map, same_lists}
use Rattle.std.proofs.lemmas.List.Elements.{Contains-get_or}
use Rattle.std.proofs.lemmas.List.FromFn.{get_or-range_with_len, length-range_with_len}
use Rattle.std.proofs.lemmas.List.Sorted.{Contains-permutation, IsPermutation-map, IsPermutation-sym}
use Rattle.cp_lists.specs.CyclicLists.{Distinct, Has}
use Rattle.cp_lists.specs.Turns.{IsTurn}
use Rattle.cp_lists.proofs.DistinctLists.{Distinct-once, Has-Contains}
use Rattle.cp_lists.proofs.FilteredLists.{filter-Distinct}
use Rattle.cp_lists.proofs.TurnedLists.{turn-map}
use Rattle.cp_orbits.specs.Orbits.{CycleLength, Permutes}
use Rattle.cp_orbits.proofs.OrbitLaws.{iterate-below}
use Rattle.cp_conn.specs.NamedGraphs.{edges_at, ends_at}
use Rattle.cp_conn.proofs.EqualBonds.{along_back}
use Rattle.cp_board.specs.declared.parts.Pipe.{Pipe}
use Rattle.cp_board.specs.Instances.{Synchronized, IsSynchronized, edges_of, graph, pipe_ends_of, pipe_named}
use Rattle.cp_board.specs.Steps.{Allowed, IsToroidal}
use Rattle.cp_board.specs.declared.steps.Step.TheVariants.{Toroidal}
use Rattle.cp_poles.specs.Cycles.{HaveLength}
use Rattle.cp_poles.specs.Kept.{IsKeptBy, IsKeptOrder}
use Rattle.cp_poles.specs.Turned.{IsTurningByPlace}
use Rattle.cp_poles.proofs.CycleWalks.{iterate-carry}
use Rattle.cp_poles.proofs.FoundItems.{Some-same}
use Rattle.cp_synclaw.proofs.InstanceDarts.{edges_once}
use Rattle.cp_poles.proofs.TorusTurns.{along, along_turned, back, equal_ends, is_along, is_back}

-- a list by its places
by_places : (es : List ℕ) → map (slice_index es) (range_with_len 0 (length es)) ≡ es
by_places es =
    same_lists (map (slice_index es) (range_with_len 0 (length es))) es
    (length-map (range_with_len 0 (length es)) (slice_index es) ∙ length-range_with_len 0 (length es))
    (λ k z lt.
    let low : k < length es = omega (
      arith,
      lt,
      length-map (range_with_len 0 (length es)) (slice_index es),
      length-range_with_len 0 (length es),
    ) in
    let at : get_or (range_with_len 0 (length es)) k 0 ≡ k =
    omega (arith, get_or-range_with_len 0 (length es) k 0 low) in
    get_or-map (slice_index es) (range_with_len 0 (length es)) k 0 z
    (omega (arith, low, length-range_with_len 0 (length es)))
    ∙ ap (slice_index es) at ∙ get_or_default es k 0 z low)

-- where f goes over into m along e, so do the images of a list
carried : (e f m : ℕ → ℕ) (xs : List ℕ) → ((x : ℕ) → Has x xs → e (f x) ≡ m (e x))
    → map e (map f xs) ≡ map m (map e xs)
carried e f m [] each = refl
carried e f m (x ∷ xs) each =
    ap (λ y. y ∷ map e (map f xs)) (each x (inl refl))
    ∙ ap (λ ys. m (e x) ∷ ys) (carried e f m xs (λ y h. each y (inr h)))

-- each number of an order of places is one of them
pub kept_low : (to rows : List ℕ) → IsKeptBy to rows → (x : ℕ) → Contains rows x → x < length to
kept_low to rows kept x c =
    let in_range = Contains-permutation rows (range_with_len 0 (length to)) x
    (IsPermutation-sym (range_with_len 0 (length to)) rows kept.all) c in
    let low : in_range.0 < length to = omega (arith, in_range.1, length-range_with_len 0 (length to)) in
    let at = get_or-range_with_len 0 (length to) in_range.0 x low in
    omega (arith, in_range.2, at, low)

-- the edges at places that are kept are an order that is kept
pub IsKeptOrder-places : (i : Synchronized) (p : Pipe) (to rows : List ℕ) → IsTurningByPlace i p to
    → IsKeptBy to rows → IsKeptOrder i p (map (slice_index (edges_of i p.a)) rows)
IsKeptOrder-places i p to rows tells kept =
    let es : List ℕ = edges_of i p.a in
    let e : ℕ → ℕ = slice_index es in
    record {
      turning = tells.turning;
      is_turning = tells.is_turning;
      arranged = subst (λ xs. IsPermutation xs (map e rows)) (by_places es)
          (IsPermutation-map e (range_with_len 0 (length es)) rows
          (subst (λ n. IsPermutation (range_with_len 0 n) rows) tells.one_each kept.all));
      kept = subst (IsTurn (map e rows))
          (carried e (slice_index to) tells.turning rows
          (λ x h. tells.carried x (kept_low to rows kept x ((Has-Contains x rows).0 h))))
          (turn-map e rows (map (slice_index to) rows) kept.kept);
    }

-- a pipe between the poles of a bond, all cycles of whose map have one length, and the map by places
module _ (i : Synchronized) (pipe : ℕ) (p : Pipe) (is : IsSynchronized i) (live : pipe_named i pipe ≡ Some p)
    (torus : IsToroidal i p) (to : List ℕ) (tells : IsTurningByPlace i p to) where
  -- the edges of its first end
  abbrev es : List ℕ
  es = edges_at (graph i) p.a

  -- along the bond and back
  along_back_at : (x : ℕ) → Contains es x
      → back i pipe p is live torus.bond (along i pipe p is live torus.bond x) ≡ x
  along_back_at x c =
      along_back (graph i) p.a p.b torus.bond (edges_once i is) (equal_ends i pipe p is live torus.bond)
      (along i pipe p is live torus.bond) (back i pipe p is live torus.bond) (is_along i pipe p is live torus.bond)
      (is_back i pipe p is live torus.bond) x c

  -- two maps of the pipe agree
  one_map : (x : ℕ) → Contains es x → tells.turning x ≡ torus.turning x
  one_map x c =
      sym (along_back_at (tells.turning x) (tells.is_turning x c).0)
      ∙ ap (back i pipe p is live torus.bond)
      (along_turned i pipe p is live torus.bond tells.turning tells.is_turning x c
      ∙ sym (along_turned i pipe p is live torus.bond torus.turning torus.is_turning x c))
      ∙ along_back_at (torus.turning x) (torus.is_turning x c).0

  -- and their powers
  one_power : (j x : ℕ) → Contains es x → iterate tells.turning j x ≡ iterate torus.turning j x
  one_power zero x c = refl
  one_power (suc j) x c =
      one_power j (tells.turning x) (tells.is_turning x c).0 ∙ ap (iterate torus.turning j) (one_map x c)

  -- as a permutation of as many numbers as there are edges
  sized : Permutes (length es) (slice_index to)
  sized = subst (λ n. Permutes n (slice_index to)) tells.one_each tells.permutes

  -- no edge stands twice
  once : Distinct es
  once = filter-Distinct (ends_at (graph i) p.a) (graph i).edges (edges_once i is)

  -- a power of a place is that of the edge
  power_at : (j k : ℕ) → k < length es
      → slice_index es (iterate (slice_index to) j k) ≡ iterate torus.turning j (slice_index es k)
  power_at j k lt =
      iterate-carry es once tells.turning (slice_index to) sized
      (λ l less. tells.carried l (omega (arith, less, tells.one_each))) j k lt
      ∙ one_power j (slice_index es k) (Contains-get_or es k 0 lt)

  -- the cycles of the places have this length
  pub places-HaveLength : HaveLength to torus.size
  places-HaveLength k lt =
      let low : k < length es = omega (arith, lt, tells.one_each) in
      let cycle : CycleLength torus.turning (slice_index es k) torus.size =
      torus.one_length (slice_index es k) (Contains-get_or es k 0 low) in
      record {
        some = cycle.some;
        returns = Distinct-once es once (iterate (slice_index to) torus.size k) k
            (iterate-below (length es) (slice_index to) sized torus.size k low) low
            (power_at torus.size k low ∙ cycle.returns);
        first = λ j least less e. cycle.first j least less (sym (power_at j k low) ∙ ap (slice_index es) e);
      }

-- so it is of the map that is told
pub HaveLength-told : (i : Synchronized) (pipe : ℕ) → IsSynchronized i → Allowed i (Toroidal pipe) → (to : List ℕ)
    → (p : Pipe) × (pipe_named i pipe ≡ Some p) × IsTurningByPlace i p to → (size : ℕ) × HaveLength to size
HaveLength-told i pipe is allowed to told =
    let same : told.0 ≡ allowed.0 = Some-same told.0 allowed.0 (sym told.1 ∙ allowed.1) in (
      allowed.2.size,
      places-HaveLength i pipe allowed.0 is allowed.1 allowed.2 to
          (subst (λ q. IsTurningByPlace i q to) same told.2),
    )

-- what a board tells of the ends
pub ends_told : (i : Synchronized) (pipe : ℕ) (p : Pipe) → pipe_named i pipe ≡ Some p → (ends : ℕ × ℕ)
    → ends ≡ pipe_ends_of i pipe → ends ≡ (p.a, p.b)
ends_told i pipe p live ends asked = asked ∙ ap (λ o. option_map_or (λ x. (x.a, x.b)) o (0, 0)) live

-- the edges and the rows as they are told
module _ (i : Synchronized) (pipe : ℕ) (p : Pipe) (live : pipe_named i pipe ≡ Some p) (to rows : List ℕ)
    (tells : IsTurningByPlace i p to) (kept : IsKeptBy to rows) (ends : ℕ × ℕ) (asked : ends ≡ pipe_ends_of i pipe)
    (names places : List ℕ) (named : names ≡ edges_of i ends.0) (placed : places ≡ rows) where
  -- the names are the edges of the first end
  edges_told : names ≡ edges_of i p.a
  edges_told = named ∙ ap (λ (x : ℕ × ℕ). edges_of i x.0) (ends_told i pipe p live ends asked)

  -- the rows are places of them
  pub places_within : All (λ k. k < length names) places
  places_within k d lt =
      let x : ℕ = slice_index_or places k d in
      let c : Contains rows x = subst (λ xs. Contains xs x) placed (Contains-get_or places k d lt) in
      let low : x < length to = kept_low to rows kept x c in
      let size : length names ≡ length to = ap length edges_told ∙ sym tells.one_each in
      omega (arith, low, size)

  -- they tell an order that is kept
  pub IsKeptOrder-told : (order : List ℕ) → order ≡ map (slice_index names) places → IsKeptOrder i p order
  IsKeptOrder-told order told =
      subst (IsKeptOrder i p)
      (sym (told ∙ ap (λ xs. map (slice_index xs) places) edges_told
      ∙ ap (map (slice_index (edges_of i p.a))) placed))
      (IsKeptOrder-places i p to rows tells kept)
