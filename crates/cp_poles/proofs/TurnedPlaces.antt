-- The map of a pipe between the poles of a bond, as it is found by places.
use Rattle.std.proofs.Common.{◌≡◌, ℕ, ◌<◌, List, [], length, map, slice_index, slice_index_or, sym, refl, ap, ◌∙◌, subst, arith}
use Rattle.std.specs.Prelude.{Some}
use Rattle.std.specs.List.{All, Contains}
use Rattle.std.specs.List.Sorted.{IsStrictlyIncreasing}
use Rattle.std.specs.Option.{option_map_or}
use Rattle.std.proofs.lemmas.List.{get_or-map, get_or_default, length-map}
use Rattle.std.proofs.lemmas.List.Elements.{Contains-get_or}
use Rattle.std.proofs.lemmas.List.Kept.{IsStrictlyIncreasing-filter}
use Rattle.std.proofs.lemmas.List.Sorted.{Contains-permutation, IsPermutation-sym}
use Rattle.cp_base.specs.Permutations.{IsPerm}
use Rattle.cp_lists.specs.CyclicLists.{Distinct}
use Rattle.cp_lists.proofs.DistinctLists.{Distinct-once}
use Rattle.cp_orbits.specs.Orbits.{CycleLength, Permutes}
use Rattle.cp_conn.specs.Bonds.{GoesOn, IsBond}
use Rattle.cp_conn.specs.NamedGraphs.{NamedGraph, edges_at, ends_at, rank}
use Rattle.cp_conn.proofs.Bonds.{GoesOn-back, GoesOn-within}
use Rattle.cp_conn.proofs.EqualBonds.{bond_back}
use Rattle.cp_conn.proofs.NamedGraphs.{rank_at}
use Rattle.cp_board.specs.declared.parts.Pipe.{Pipe}
use Rattle.cp_board.specs.declared.steps.Step.TheVariants.{Toroidal}
use Rattle.cp_board.specs.Instances.{Synchronized, IsSynchronized, edges_of, graph, pairs_of, pipe_ends_of, pipe_named, vert_names}
use Rattle.cp_board.specs.Reductions.{Performs}
use Rattle.cp_board.specs.Rewrites.{dropping, rewritten}
use Rattle.cp_board.specs.Reasons.{HaveUnequalCycles}
use Rattle.cp_board.specs.Solutions.{first_of, second_of}
use Rattle.cp_board.specs.Steps.{Allowed, IsToroidal, IsTurning}
use Rattle.cp_board.proofs.DroppedPipes.{IsRewriteOf-dropping, IsWithoutPipe-dropping}
use Rattle.cp_poles.specs.declared.torus_fault.TorusFault.TheVariants.{CyclesDiffer}
use Rattle.cp_poles.specs.Between.{IsAlongBond}
use Rattle.cp_poles.specs.Cycles.{HaveLength, IsOtherLength}
use Rattle.cp_poles.specs.TorusFaults.{IsTorusFaultOf}
use Rattle.cp_poles.specs.Turned.{AreEndLists, AreOnward, IsTurningByPlace, place_back}
use Rattle.cp_poles.proofs.CycleWalks.{CycleLength-carry}
use Rattle.cp_synclaw.proofs.InstanceDarts.{edges_once}
use Rattle.cp_poles.proofs.PipePartners.{edges_at-Distinct, first_second, seconds_are}
use Rattle.cp_poles.proofs.SmallPipes.{live_a, live_b, right_ends, right_pairs}
use Rattle.cp_poles.proofs.SmallRewrites.{live_pipe}
use Rattle.cp_poles.proofs.TorusTurns.{along, along_turned, equal_ends}

-- the second edges of what is told along a bond
pub AreOnward-along : (g : NamedGraph) (u v : ℕ) (along : List (ℕ × ℕ)) → IsAlongBond g u v along
    → AreOnward g u v (map (λ x. x.1) along)
AreOnward-along g u v along is = record {
  one_each = length-map along (λ (x : ℕ × ℕ). x.1) ∙ sym (length-map along (λ (x : ℕ × ℕ). x.0)) ∙ ap length is.edges;
  onward = λ k lt.
      let within : k < length along = omega (arith, lt, length-map along (λ (x : ℕ × ℕ). x.1)) in
      let first : (slice_index_or along k (0, 0)).0 ≡ slice_index (edges_at g u) k =
      sym (get_or-map (λ (x : ℕ × ℕ). x.0) along k (0, 0) 0 within) ∙ ap (λ xs. slice_index xs k) is.edges in
      let second : (slice_index_or along k (0, 0)).1 ≡ slice_index (map (λ x. x.1) along) k =
      sym (get_or-map (λ (x : ℕ × ℕ). x.1) along k (0, 0) 0 within) in
      subst (λ e. GoesOn g u v e (slice_index (map (λ x. x.1) along) k)) first
      (subst (GoesOn g u v (slice_index_or along k (0, 0)).0) second (is.onward k (0, 0) within));
}

-- the edges onward are edges of the other pole
pub AreOnward-within : (g : NamedGraph) (u v : ℕ) (fs : List ℕ) → AreOnward g u v fs → All (Contains (edges_at g v)) fs
AreOnward-within g u v fs are k d lt =
    let within : k < length (edges_at g u) = omega (arith, lt, are.one_each) in
    subst (Contains (edges_at g v)) (get_or_default fs k 0 d lt)
    (GoesOn-within g u v (slice_index (edges_at g u) k) (slice_index fs k)
    (Contains-get_or (edges_at g u) k 0 within) (are.onward k lt))

-- the edges of a vertex rise
pub edges_at-rise : (i : Synchronized) → IsSynchronized i → (v : ℕ) → IsStrictlyIncreasing (edges_of i v)
edges_at-rise i is v = IsStrictlyIncreasing-filter (ends_at (graph i) v) (graph i).edges is.edges_named.rise

-- a live pipe between the poles of a bond
module _ (i : Synchronized) (pipe : ℕ) (p : Pipe) (is : IsSynchronized i) (live : pipe_named i pipe ≡ Some p)
    (bond : IsBond (graph i) p.a p.b) where
  -- the graph
  abbrev g : NamedGraph
  g = graph i

  -- the edges of the first end
  abbrev es : List ℕ
  es = edges_at g p.a

  -- those of the second end
  abbrev fs : List ℕ
  fs = edges_at g p.b

  -- the partners of the first edges
  abbrev partners : List ℕ
  partners = map (λ x. x.1) p.pairs

  -- no edge at the one end stands twice
  es_once : Distinct es
  es_once = edges_at-Distinct i is p (right_ends i pipe p is live).differ (right_pairs i pipe p is live) p.a

  -- the bond from the other side
  pub back_bond : IsBond g p.b p.a
  back_bond = bond_back g p.a p.b bond (edges_once i is) (equal_ends i pipe p is live bond)

  -- each partner is an edge of the second end
  pub partners_live : All (Contains fs) partners
  partners_live k d lt =
      subst (Contains fs) (get_or_default partners k 0 d lt)
      (Contains-permutation partners fs (slice_index partners k)
      (IsPermutation-sym fs partners (right_pairs i pipe p is live).second)
      (Contains-get_or partners k 0 lt))

  -- there are as many as edges of the first end
  partners_size : length partners ≡ length es
  partners_size =
      length-map p.pairs (λ (x : ℕ × ℕ). x.1) ∙ sym (length-map p.pairs (λ (x : ℕ × ℕ). x.0))
      ∙ ap length (right_pairs i pipe p is live).first

  -- in the order of these
  partner_at : (k : ℕ) → k < length es → slice_index partners k ≡ second_of p (slice_index es k)
  partner_at k lt =
      ap (λ xs. slice_index xs k)
      (sym (seconds_are i is p (right_ends i pipe p is live).differ (right_pairs i pipe p is live))
      ∙ ap (map (second_of p)) (right_pairs i pipe p is live).first)
      ∙ get_or-map (second_of p) es k 0 0 lt

  -- the partner of a first edge is an edge of the second end
  second_live : (k : ℕ) → k < length es → Contains fs (second_of p (slice_index es k))
  second_live k lt =
      subst (Contains fs) (partner_at k lt)
      (partners_live k 0 (omega (arith, lt, partners_size)))

  -- the edges as which those of the second end go back
  module _ (back : List ℕ) (are : AreOnward g p.b p.a back) where
    -- the map of the pipe
    abbrev turned : ℕ → ℕ
    turned x = slice_index back (rank fs (second_of p x))

    -- what an edge of the second end goes back as
    goes_back : (y : ℕ) → Contains fs y → GoesOn g p.b p.a y (slice_index back (rank fs y))
    goes_back y c =
        let at = rank_at fs y c in
        subst (λ z. GoesOn g p.b p.a z (slice_index back (rank fs y))) at.1
        (are.onward (rank fs y) (omega (arith, at.0, are.one_each)))

    -- it is the map of the pipe
    is_turned : IsTurning i p turned
    is_turned x c =
        let at = rank_at es x c in
        let y : ℕ = second_of p x in
        let cy : Contains fs y =
        subst (λ z. Contains fs (second_of p z)) at.1 (second_live (rank es x) at.0) in (
          GoesOn-within g p.b p.a y (turned x) cy (goes_back y cy),
          GoesOn-back g p.b p.a back_bond y (turned x) cy (goes_back y cy),
        )

    -- the places of what it makes of the edges
    abbrev places : List ℕ
    places = map (place_back es back fs) partners

    -- there are as many as edges
    places_size : length places ≡ length es
    places_size = length-map partners (place_back es back fs) ∙ partners_size

    -- each is the place of what the map makes of the edge
    place_at : (k : ℕ) → k < length es → slice_index places k ≡ rank es (turned (slice_index es k))
    place_at k lt =
        get_or-map (place_back es back fs) partners k 0 0 (omega (arith, lt, partners_size))
        ∙ ap (place_back es back fs) (partner_at k lt)

    -- which is an edge of the first end
    turned_live : (k : ℕ) → k < length es → Contains es (turned (slice_index es k))
    turned_live k lt = (is_turned (slice_index es k) (Contains-get_or es k 0 lt)).0

    -- so the place is one of an edge
    place_below : (k : ℕ) → k < length es → slice_index places k < length es
    place_below k lt =
        subst (λ z. z < length es) (sym (place_at k lt)) (rank_at es (turned (slice_index es k)) (turned_live k lt)).0

    -- and the edge there is what the map makes of the edge
    carried_at : (k : ℕ) → k < length es → slice_index es (slice_index places k) ≡ turned (slice_index es k)
    carried_at k lt =
        ap (slice_index es) (place_at k lt) ∙ (rank_at es (turned (slice_index es k)) (turned_live k lt)).1

    -- different edges are turned to different ones
    turned_apart : (x y : ℕ) → Contains es x → Contains es y → turned x ≡ turned y → x ≡ y
    turned_apart x y cx cy e =
        let turn = along_turned i pipe p is live bond turned is_turned in
        let differ = (right_ends i pipe p is live).differ in
        let right = right_pairs i pipe p is live in
        sym (first_second i is p differ right x cx)
        ∙ ap (first_of p)
        (sym (turn x cx) ∙ ap (along i pipe p is live bond) e ∙ turn y cy)
        ∙ first_second i is p differ right y cy

    -- so the places are a permutation
    places-IsPerm : IsPerm places
    places-IsPerm = record {
      below = λ x lt.
          let l : x < length es = omega (arith, lt, places_size) in omega (arith, place_below x l, places_size);
      apart = λ x y ltx lty e.
          let lx : x < length es = omega (arith, ltx, places_size) in
          let ly : y < length es = omega (arith, lty, places_size) in
          Distinct-once es es_once x y lx ly
          (turned_apart (slice_index es x) (slice_index es y) (Contains-get_or es x 0 lx) (Contains-get_or es y 0 ly)
          (sym (carried_at x lx) ∙ ap (slice_index es) e ∙ carried_at y ly));
    }

    -- and tell the map
    pub places-IsTurningByPlace : IsTurningByPlace i p places
    places-IsTurningByPlace = record {
      bond = bond;
      turning = turned;
      is_turning = is_turned;
      permutes = places-IsPerm;
      one_each = places_size;
      carried = λ k lt. carried_at k (omega (arith, lt, places_size));
    }

  -- a permutation of the places that tells the map
  module _ (to : List ℕ) (tells : IsTurningByPlace i p to) where
    -- as a permutation of as many numbers as there are edges
    sized : Permutes (length es) (slice_index to)
    sized = subst (λ n. Permutes n (slice_index to)) tells.one_each tells.permutes

    -- the cycle of an edge is as long as that of its place
    carried_length : (k size : ℕ) → k < length es → CycleLength (slice_index to) k size
        → CycleLength tells.turning (slice_index es k) size
    carried_length k size lt cycle =
        CycleLength-carry es es_once tells.turning (slice_index to) sized
        (λ j l. tells.carried j (omega (arith, l, tells.one_each))) k size lt cycle

    -- where all lengths are equal the step is allowed
    pub places-IsToroidal : (size : ℕ) → HaveLength to size → IsToroidal i p
    places-IsToroidal size all = record {
      bond = bond;
      turning = tells.turning;
      is_turning = tells.is_turning;
      size = size;
      one_length = λ x c.
          let at = rank_at es x c in
          subst (λ z. CycleLength tells.turning z size) at.1
          (carried_length (rank es x) size at.0 (all (rank es x) (omega (arith, at.0, tells.one_each))));
    }

    -- where two differ the cycles of the edges do
    pub places-unequal : (a b : ℕ) → CycleLength (slice_index to) 0 a → IsOtherLength to a b → HaveUnequalCycles i p a b
    places-unequal a b first other =
        let within : other.place < length es = omega (arith, other.within, tells.one_each) in
        record {
          turning = tells.turning;
          is_turning = tells.is_turning;
          place = other.place;
          within = within;
          first = carried_length 0 a (omega (arith, within)) first;
          before = λ k lt. carried_length k a (omega (arith, lt, within)) (other.before k lt);
          other = carried_length other.place b within other.other;
          differ = other.differ;
        }

  -- a board tells the two ends of the pipe
  ends_told : pipe_ends_of i pipe ≡ (p.a, p.b)
  ends_told = ap (λ o. option_map_or (λ x. (x.a, x.b)) o (0, 0)) live

  -- what a board tells of the pairs
  pairs_told : pairs_of i pipe ≡ p.pairs
  pairs_told = ap (λ o. option_map_or (λ x. x.pairs) o []) live

  -- the lists as a board tells them
  module _ (ends : ℕ × ℕ) (asked : ends ≡ pipe_ends_of i pipe) where
    -- the first end is that of the pipe
    a_told : ends.0 ≡ p.a
    a_told = ap (λ (x : ℕ × ℕ). x.0) (asked ∙ ends_told)

    -- and so is the second
    b_told : ends.1 ≡ p.b
    b_told = ap (λ (x : ℕ × ℕ). x.1) (asked ∙ ends_told)

    -- the first end that a board tells is a vertex of the instance
    pub live_first : Contains (vert_names i) ends.0
    live_first = subst (Contains (vert_names i)) (sym a_told) (live_a i pipe p is live)

    -- the second end is live
    pub live_second : Contains (vert_names i) ends.1
    live_second = subst (Contains (vert_names i)) (sym b_told) (live_b i pipe p is live)

    -- and a bond from the other side
    pub bond_told : IsBond g ends.1 ends.0
    bond_told = subst (λ z. IsBond g z ends.0) (sym b_told) (subst (IsBond g p.b) (sym a_told) back_bond)

    module _ (firsts back seconds partnered : List ℕ) (first : firsts ≡ edges_of i ends.0)
        (second : seconds ≡ edges_of i ends.1) (are : AreOnward g ends.1 ends.0 back)
        (paired : partnered ≡ map (λ x. x.1) (pairs_of i pipe)) where
      -- the lists of the ends are as the search for places needs them
      pub told-AreEndLists : AreEndLists firsts back seconds
      told-AreEndLists = record {
        firsts_rise = subst IsStrictlyIncreasing (sym first) (edges_at-rise i is ends.0);
        seconds_rise = subst IsStrictlyIncreasing (sym second) (edges_at-rise i is ends.1);
        one_each = are.one_each ∙ ap length (sym second);
        back_live = subst (λ xs. All (Contains xs) back) (sym first) (AreOnward-within g ends.1 ends.0 back are);
      }

      -- the partners that a board tells are those of the pipe
      are_partners : partnered ≡ partners
      are_partners = paired ∙ ap (map (λ x. x.1)) pairs_told

      -- each partner is an edge of the second end
      pub told_live : All (Contains seconds) partnered
      told_live =
          subst (λ xs. All (Contains xs) partnered) (sym (second ∙ ap (edges_of i) b_told))
          (subst (All (Contains fs)) (sym are_partners) partners_live)

      -- what is found by them tells the map
      pub told-IsTurningByPlace : (to : List ℕ) → to ≡ map (place_back firsts back seconds) partnered
          → IsTurningByPlace i p to
      told-IsTurningByPlace to found =
          subst (IsTurningByPlace i p)
          (sym (found ∙ ap (λ xs. map (place_back xs back seconds) partnered) (first ∙ ap (edges_of i) a_told)
          ∙ ap (λ xs. map (place_back es back xs) partnered) (second ∙ ap (edges_of i) b_told)
          ∙ ap (map (place_back es back fs)) are_partners))
          (places-IsTurningByPlace back
          (subst (λ z. AreOnward g p.b z back) a_told (subst (λ z. AreOnward g z ends.0 back) b_told are)))

-- a list that tells the map of a pipe: where all its cycles have one length the step is allowed
pub Allowed-from_places : (i : Synchronized) (pipe : ℕ) → IsSynchronized i → (to : List ℕ)
    → (p : Pipe) × (pipe_named i pipe ≡ Some p) × IsTurningByPlace i p to
    → (size : ℕ) × HaveLength to size → Allowed i (Toroidal pipe)
Allowed-from_places i pipe is to told all =
    (told.0, told.1, places-IsToroidal i pipe told.0 is told.1 told.2.bond to told.2 all.0 all.1)

-- where two differ that is the fault
pub IsTorusFaultOf-places : (i : Synchronized) (pipe : ℕ) → IsSynchronized i → (to : List ℕ)
    → (p : Pipe) × (pipe_named i pipe ≡ Some p) × IsTurningByPlace i p to
    → (a b : ℕ) → CycleLength (slice_index to) 0 a → IsOtherLength to a b
    → IsTorusFaultOf i pipe (CyclesDiffer a b)
IsTorusFaultOf-places i pipe is to told a b first other =
    (told.0, told.1, places-unequal i pipe told.0 is told.1 told.2.bond to told.2 a b first other)

-- the rewrite that drops the pipe performs the step
pub Performs-toroidal : (i : Synchronized) (pipe : ℕ) → IsSynchronized i → Allowed i (Toroidal pipe)
    → Performs i (Toroidal pipe) (dropping pipe)
Performs-toroidal i pipe is allowed = (
  IsRewriteOf-dropping i pipe is (live_pipe i pipe allowed.0 allowed.1),
  (allowed.0, allowed.1, IsWithoutPipe-dropping i (rewritten (dropping pipe) i) pipe is refl),
)
