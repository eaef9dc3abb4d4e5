-- The edges of a vertex to those before it, and its others, as the darts of a sweep.
use Rattle.std.proofs.Common.{◌≡◌, ℕ, zero, suc, ◌+◌, ◌*◌, ◌/◌, ◌%◌, ◌<◌, ◌⊎◌, ◌↔◌, Bool, true, false, not, ◌||◌, cond, eqb, List, [], ◌∷◌, length, map, slice_index, slice_index_or, take, sym, refl, ap, ◌∙◌, subst, inl, inr, ⊎_elim, arith}
use Rattle.std.specs.List.{range_with_len}
use Rattle.std.proofs.lemmas.Bool.{cases_eq, cases_Bool, eq-eqb, eqb-true, ne_eqb, false≢true, or_cases}
use Rattle.cp_lists.specs.CyclicLists.{Has}
use Rattle.cp_lists.proofs.DistinctLists.{Lacks-from, has_lacks}
use Rattle.cp_lists.proofs.FilteredLists.{Has-filter, filter-Has}
use Rattle.cp_lists.proofs.MappedLists.{Has-map_on, map_on-Has}
use Rattle.cp_lists.proofs.ReversedLists.{Has-reverse, reverse-Has}
use Rattle.cp_faces.specs.Twins.{twin}
use Rattle.cp_conn.specs.Blocks.{HaveNoLoop}
use Rattle.cp_conn.specs.Darts.{start}
use Rattle.cp_conn.proofs.BlockSteps.{start_twin}
use Rattle.cp_conn.proofs.DartChains.{start_even, start_odd, finish_even, finish_odd}
use Rattle.cp_embed.specs.Directions.{edge_of}
use Rattle.cp_embed.specs.ListedBlocks.{touches, edges_at, other_end}
use Rattle.cp_embed.specs.Sweeps.{ins_of, outs_of}
use Rattle.cp_embed.specs.VertexOrders.{StandsBefore, AreLaterEnds, enters, edges_in, edges_out, taken_at, dart_at}
use Rattle.cp_embed.proofs.BipolarSweeps.{Has-take}
use Rattle.cp_embed.proofs.DartLists.{range-Has, ins_of-Has, outs_of-Has}

-- an end of an edge is its first or its second
pub touches-cases : (ends : List (ℕ × ℕ)) (v k : ℕ) → touches ends v k ≡ true
    → ((slice_index_or ends k (0, 0)).0 ≡ v) ⊎ ((slice_index_or ends k (0, 0)).1 ≡ v)
touches-cases ends v k t = ⊎_elim
    (λ f. inl (eqb-true (slice_index_or ends k (0, 0)).0 v f))
    (λ g. inr (eqb-true (slice_index_or ends k (0, 0)).1 v g))
    (or_cases (eqb (slice_index_or ends k (0, 0)).0 v) (eqb (slice_index_or ends k (0, 0)).1 v) t)

-- the first is one
pub first-touches : (ends : List (ℕ × ℕ)) (v k : ℕ) → (slice_index_or ends k (0, 0)).0 ≡ v → touches ends v k ≡ true
first-touches ends v k e = ap (λ t. t || eqb (slice_index_or ends k (0, 0)).1 v)
    (eq-eqb (slice_index_or ends k (0, 0)).0 v e)

-- the second is one
pub second-touches : (ends : List (ℕ × ℕ)) (v k : ℕ) → (slice_index_or ends k (0, 0)).1 ≡ v → touches ends v k ≡ true
second-touches ends v k e = ap (λ t. eqb (slice_index_or ends k (0, 0)).0 v || t)
    (eq-eqb (slice_index_or ends k (0, 0)).1 v e) ∙ or_true (eqb (slice_index_or ends k (0, 0)).0 v)
  where
    or_true : (t : Bool) → (t || true) ≡ true
    or_true true = refl
    or_true false = refl

-- the edges of a vertex are those of which it is an end
pub edges_at-Has : (ends : List (ℕ × ℕ)) (v k : ℕ) → Has k (edges_at ends v)
    ↔ ((k < length ends) × (touches ends v k ≡ true))
edges_at-Has ends v k = (
  λ h. let w = filter-Has (touches ends v) k (range_with_len 0 (length ends)) h in
      (omega (arith, ((range-Has k 0 (length ends)).0 w.0).1), w.1),
  λ h. Has-filter (touches ends v) k (range_with_len 0 (length ends))
      ((range-Has k 0 (length ends)).1 (omega arith, omega (arith, h.0))) h.1,
)

-- an item in front of a place stands at a lower one
take_place : (xs : List ℕ) (n a : ℕ) → Has a (take n xs) → (j : ℕ) × (j < n) × (slice_index xs j ≡ a)
take_place xs zero a h = absurd h
take_place [] (suc n) a h = absurd h
take_place (x ∷ xs) (suc n) a h = ⊎_elim
    (λ e. (0, omega arith, e))
    (λ k. let w = take_place xs n a k in (suc w.0, omega (arith, w.1), w.2))
    h

-- a graph without loops
module _ (ends : List (ℕ × ℕ)) (none : HaveNoLoop ends) where
  -- the dart of an edge at an end of it
  pub dart_at-start : (v k : ℕ) → k < length ends → touches ends v k ≡ true → (start ends (dart_at ends v k) ≡ v)
      × (dart_at ends v k < 2 * length ends) × (edge_of (dart_at ends v k) ≡ k)
      × (start ends (twin (dart_at ends v k)) ≡ other_end ends v k)
  dart_at-start v k lt t = by_first (eqb (slice_index_or ends k (0, 0)).0 v) refl
    where
      by_first : (b : Bool) → eqb (slice_index_or ends k (0, 0)).0 v ≡ b
          → (start ends (cond b (2 * k) (2 * k + 1)) ≡ v)
          × (cond b (2 * k) (2 * k + 1) < 2 * length ends) × (edge_of (cond b (2 * k) (2 * k + 1)) ≡ k)
          × (start ends (twin (cond b (2 * k) (2 * k + 1)))
          ≡ cond b (slice_index_or ends k (0, 0)).1 (slice_index_or ends k (0, 0)).0)
      by_first true e =
          let half : 2 * k / 2 ≡ k = omega arith in (
            start_even ends (2 * k) (omega arith) ∙ ap (λ i. (slice_index_or ends i (0, 0)).0) half
                ∙ eqb-true (slice_index_or ends k (0, 0)).0 v e,
            omega (arith, lt),
            half,
            start_twin ends (2 * k) ∙ finish_even ends (2 * k) (omega arith)
                ∙ ap (λ i. (slice_index_or ends i (0, 0)).1) half,
          )
      by_first false e =
          let half : (2 * k + 1) / 2 ≡ k = omega arith in (
            start_odd ends (2 * k + 1) (λ f. omega (arith, f)) ∙ ap (λ i. (slice_index_or ends i (0, 0)).1) half
                ∙ ⊎_elim
                (λ f. absurd (false≢true (sym e ∙ eq-eqb (slice_index_or ends k (0, 0)).0 v f)))
                (λ g. g)
                (touches-cases ends v k t),
            omega (arith, lt),
            half,
            start_twin ends (2 * k + 1) ∙ finish_odd ends (2 * k + 1) (λ f. omega (arith, f))
                ∙ ap (λ i. (slice_index_or ends i (0, 0)).0) half,
          )

  -- a dart at a vertex is of one of its edges, and its twin stands at the other end
  pub dart-touches : (d v : ℕ) → d < 2 * length ends → start ends d ≡ v → (edge_of d < length ends)
      × (touches ends v (edge_of d) ≡ true) × (start ends (twin d) ≡ other_end ends v (edge_of d))
  dart-touches d v lt e = ⊎_elim
      (λ even.
      let first : (slice_index_or ends (d / 2) (0, 0)).0 ≡ v = sym (start_even ends d even) ∙ e in (
        omega (arith, lt),
        first-touches ends v (d / 2) first,
        start_twin ends d ∙ finish_even ends d even
            ∙ ap (λ b. cond b (slice_index_or ends (d / 2) (0, 0)).1 (slice_index_or ends (d / 2) (0, 0)).0)
            (sym (eq-eqb (slice_index_or ends (d / 2) (0, 0)).0 v first)),
      ))
      (λ odd.
      let second : (slice_index_or ends (d / 2) (0, 0)).1 ≡ v = sym (start_odd ends d odd) ∙ e in
      let half : d / 2 < length ends = omega (arith, lt) in (
        half,
        second-touches ends v (d / 2) second,
        start_twin ends d ∙ finish_odd ends d odd
            ∙ ap (λ b. cond b (slice_index_or ends (d / 2) (0, 0)).1 (slice_index_or ends (d / 2) (0, 0)).0)
            (sym (ne_eqb (slice_index_or ends (d / 2) (0, 0)).0 v (λ f. none (d / 2) half (f ∙ sym second)))),
      ))
      (cases_eq (d % 2) 0)

  -- an end of an edge that is not v is the other one
  pub other_end-is : (v u k : ℕ) → touches ends u k ≡ true → touches ends v k ≡ true → (u ≡ v → ⊥)
      → other_end ends v k ≡ u
  other_end-is v u k tu tv apart = by_first (eqb (slice_index_or ends k (0, 0)).0 v) refl
    where
      by_first : (b : Bool) → eqb (slice_index_or ends k (0, 0)).0 v ≡ b
          → cond b (slice_index_or ends k (0, 0)).1 (slice_index_or ends k (0, 0)).0 ≡ u
      by_first true e = ⊎_elim
          (λ f. absurd (apart (sym f ∙ eqb-true (slice_index_or ends k (0, 0)).0 v e)))
          (λ g. g)
          (touches-cases ends u k tu)
      by_first false e = ⊎_elim
          (λ f. f)
          (λ g. ⊎_elim
          (λ f. absurd (false≢true (sym e ∙ eq-eqb (slice_index_or ends k (0, 0)).0 v f)))
          (λ h. absurd (apart (sym g ∙ h)))
          (touches-cases ends v k tv))
          (touches-cases ends u k tu)

  -- an order of distinct vertices, with the later ends of the edges
  module _ (order later : List ℕ) (once : (i j : ℕ) → i < length order → j < length order
      → slice_index order i ≡ slice_index order j → i ≡ j) (ends_are : AreLaterEnds ends order later) (i : ℕ)
      (lt_i : i < length order) where
    -- the vertex at the place
    abbrev x : ℕ
    x = slice_index order i

    -- what stands before the vertex at a place stands in front of the place
    before-Has : (a : ℕ) → StandsBefore order a x → Has a (taken_at order i)
    before-Has a s =
        let same : s.second ≡ i = once s.second i s.within lt_i s.second_is in
        Has-reverse a (take i order) (subst (λ v. Has v (take i order)) s.first_is
        (Has-take order s.first i (omega (arith, s.before, same)) (omega (arith, s.before, s.within))))

    -- what stands in front of the place stands not behind the vertex at it
    Has-not_behind : (a : ℕ) → Has a (taken_at order i) → StandsBefore order x a → ⊥
    Has-not_behind a h s =
        let w = take_place order i a (reverse-Has a (take i order) h) in
        let first : s.first ≡ i = once s.first i (omega (arith, s.before, s.within)) lt_i s.first_is in
        let second : s.second ≡ w.0 = once s.second w.0 s.within (omega (arith, w.1, lt_i)) (s.second_is ∙ sym w.2) in
        omega (arith, s.before, first, second, w.1)

    -- the edges of which x is the later end are its edges to what is taken
    pub edges_in-ins : (k : ℕ) → Has k (edges_in ends later x)
        ↔ Has k (map edge_of (ins_of (start ends) (length ends) (taken_at order i) x))
    edges_in-ins k = (
      λ h.
          let w = filter-Has (enters later x) k (edges_at ends x) h in
          let at_x = (edges_at-Has ends x k).0 w.0 in
          let same : slice_index later k ≡ x = eqb-true (slice_index later k) x w.1 in
          let d = dart_at-start x k at_x.0 at_x.1 in
          let l = ends_are.later_of k at_x.0 in
          subst (λ z. Has z (map edge_of (ins_of (start ends) (length ends) (taken_at order i) x))) d.2
          (Has-map_on edge_of (dart_at ends x k) (ins_of (start ends) (length ends) (taken_at order i) x)
          ((ins_of-Has (start ends) (length ends) (taken_at order i) x (dart_at ends x k)).1 (
            d.1,
            d.0,
            subst (λ a. Has a (taken_at order i)) (sym d.3) (before-Has (other_end ends x k)
                (subst (λ v. StandsBefore order (other_end ends v k) v) same l.other_before)),
          ))),
      λ h.
          let c = map_on-Has edge_of k (ins_of (start ends) (length ends) (taken_at order i) x) h in
          let w = (ins_of-Has (start ends) (length ends) (taken_at order i) x c.0).0 c.1 in
          let t = dart-touches c.0 x w.0 w.1 in
          subst (λ z. Has z (edges_in ends later x)) c.2
          (Has-filter (enters later x) (edge_of c.0) (edges_at ends x) ((edges_at-Has ends x (edge_of c.0)).1 (t.0, t.1))
          (eq-eqb (slice_index later (edge_of c.0)) x (later_is (edge_of c.0) t.0 t.1
          (subst (λ a. Has a (taken_at order i)) t.2 w.2)))),
    )
      where
        -- x is the later end of an edge to what is taken
        later_is : (j : ℕ) → j < length ends → touches ends x j ≡ true → Has (other_end ends x j) (taken_at order i)
            → slice_index later j ≡ x
        later_is j lt t h = ⊎_elim
            (λ e. e)
            (λ ne.
            let l = ends_are.later_of j lt in
            let v : ℕ = slice_index later j in
            let far : other_end ends x j ≡ v = other_end-is x v j l.is_end t ne in
            let near : other_end ends v j ≡ x = other_end-is v x j t l.is_end (λ e. ne (sym e)) in
            absurd (Has-not_behind v (subst (λ a. Has a (taken_at order i)) far h)
            (subst (λ a. StandsBefore order a v) near l.other_before)))
            (cases_eq (slice_index later j) x)

    -- its other edges are those that lead to what is not taken
    pub edges_out-outs : (k : ℕ) → Has k (edges_out ends later x)
        ↔ Has k (map edge_of (outs_of (start ends) (length ends) (taken_at order i) x))
    edges_out-outs k = (
      λ h.
          let w = filter-Has (λ j. not (enters later x j)) k (edges_at ends x) h in
          let at_x = (edges_at-Has ends x k).0 w.0 in
          let d = dart_at-start x k at_x.0 at_x.1 in
          subst (λ z. Has z (map edge_of (outs_of (start ends) (length ends) (taken_at order i) x))) d.2
          (Has-map_on edge_of (dart_at ends x k) (outs_of (start ends) (length ends) (taken_at order i) x)
          ((outs_of-Has (start ends) (length ends) (taken_at order i) x (dart_at ends x k)).1 (
            d.1,
            d.0,
            Lacks-from (start ends (twin (dart_at ends x k))) (taken_at order i) (λ there.
                not_both (enters later x k) w.1 ((filter-Has (enters later x) k (edges_at ends x)
                ((edges_in-ins k).1 (subst (λ z. Has z (map edge_of
                (ins_of (start ends) (length ends) (taken_at order i) x))) d.2
                (Has-map_on edge_of (dart_at ends x k) (ins_of (start ends) (length ends) (taken_at order i) x)
                ((ins_of-Has (start ends) (length ends) (taken_at order i) x (dart_at ends x k)).1
                (d.1, d.0, there))))))).1),
          ))),
      λ h.
          let c = map_on-Has edge_of k (outs_of (start ends) (length ends) (taken_at order i) x) h in
          let w = (outs_of-Has (start ends) (length ends) (taken_at order i) x c.0).0 c.1 in
          let t = dart-touches c.0 x w.0 w.1 in
          subst (λ z. Has z (edges_out ends later x)) c.2
          (Has-filter (λ j. not (enters later x j)) (edge_of c.0) (edges_at ends x)
          ((edges_at-Has ends x (edge_of c.0)).1 (t.0, t.1))
          (⊎_elim
          (λ yes_enters.
          let l = ends_are.later_of (edge_of c.0) t.0 in
          let same : slice_index later (edge_of c.0) ≡ x = eqb-true (slice_index later (edge_of c.0)) x yes_enters in
          absurd (has_lacks (start ends (twin c.0)) (taken_at order i)
          (subst (λ a. Has a (taken_at order i)) (sym t.2) (before-Has (other_end ends x (edge_of c.0))
          (subst (λ v. StandsBefore order (other_end ends v (edge_of c.0)) v) same l.other_before)))
          w.2))
          (λ apart. ap not apart)
          (cases_Bool (enters later x (edge_of c.0))))),
    )
      where
        not_both : (b : Bool) → not b ≡ true → b ≡ true → ⊥
        not_both true e f = absurd cc
        not_both false e f = absurd cc
