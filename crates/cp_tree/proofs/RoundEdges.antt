-- The edges round a vertex of a rotation system of a graph.
use Rattle.std.proofs.Common.{◌≡◌, ◌≢◌, ℕ, zero, suc, ◌+◌, ◌*◌, ◌/◌, ◌%◌, ◌<◌, ◌≤◌, ◌↔◌, true, eqb, List, length, slice_index, slice_index_or, sym, ap, ◌∙◌, subst, inl, inr, ⊎_elim, arith}
use Rattle.std.specs.List.{range_with_len}
use Rattle.std.proofs.lemmas.Bool.{cases_eq, eq-eqb, eqb-true, or_cases, or_left, or_right}
use Rattle.cp_lists.specs.CyclicLists.{Has}
use Rattle.cp_lists.proofs.DistinctLists.{Exactly-Distinct, Exactly-Has}
use Rattle.cp_lists.proofs.FilteredLists.{Has-filter, filter-Has}
use Rattle.cp_lists.proofs.MappedLists.{Distinct-map_on, Has-map_on, map_on-Has}
use Rattle.cp_base.specs.Graphs.{PlainGraph}
use Rattle.cp_conn.specs.Blocks.{HaveNoLoop}
use Rattle.cp_conn.specs.Darts.{start}
use Rattle.cp_conn.proofs.DartChains.{start_even, start_odd}
use Rattle.cp_rot.specs.Systems.{System, darts, list_of, vertex_of}
use Rattle.cp_embed.specs.Arrangements.{IsArrangementOf}
use Rattle.cp_embed.specs.Directions.{edge_of}
use Rattle.cp_embed.specs.ListedBlocks.{edges_at, touches}
use Rattle.cp_embed.specs.Realisations.{IsRotationOfGraph, edges_round}

-- the items of a range
pub range-Has : (d a n : ℕ) → Has d (range_with_len a n) ↔ ((a ≤ d) × (d < a + n))
range-Has d a zero = ((λ h. absurd h), (λ h. absurd (omega (arith, h.0, h.1))))
range-Has d a (suc n) = (
  λ h. ⊎_elim (λ e. (omega arith, omega arith))
      (λ k. let w = (range-Has d (a + 1) n).0 k in (omega (arith, w.0), omega (arith, w.1))) h,
  λ h. ⊎_elim (λ e. inl e) (λ ne. inr ((range-Has d (a + 1) n).1 (omega (arith, h.0), omega (arith, h.1))))
      (cases_eq a d),
)

-- the edges of a vertex are those of which it is an end
pub edges_at-Has : (ends : List (ℕ × ℕ)) (v k : ℕ) → Has k (edges_at ends v)
    ↔ ((k < length ends) × (touches ends v k ≡ true))
edges_at-Has ends v k = (
  λ h. let w = filter-Has (touches ends v) k (range_with_len 0 (length ends)) h in
      (omega (arith, ((range-Has k 0 (length ends)).0 w.0).1), w.1),
  λ h. Has-filter (touches ends v) k (range_with_len 0 (length ends))
      ((range-Has k 0 (length ends)).1 (omega arith, omega (arith, h.0))) h.1,
)

-- a dart that starts at a vertex is of an edge of which this is an end
start-touches : (ends : List (ℕ × ℕ)) (v d : ℕ) → start ends d ≡ v → touches ends v (edge_of d) ≡ true
start-touches ends v d e = ⊎_elim
    (λ even. or_left (eqb (slice_index_or ends (d / 2) (0, 0)).0 v) (eqb (slice_index_or ends (d / 2) (0, 0)).1 v)
    (eq-eqb (slice_index_or ends (d / 2) (0, 0)).0 v (sym (start_even ends d even) ∙ e)))
    (λ odd. or_right (eqb (slice_index_or ends (d / 2) (0, 0)).0 v) (eqb (slice_index_or ends (d / 2) (0, 0)).1 v)
    (eq-eqb (slice_index_or ends (d / 2) (0, 0)).1 v (sym (start_odd ends d odd) ∙ e)))
    (cases_eq (d % 2) 0)

-- an edge has a dart at each of its ends
touches-start : (ends : List (ℕ × ℕ)) (v k : ℕ) → touches ends v k ≡ true
    → (d : ℕ) × (edge_of d ≡ k) × (start ends d ≡ v)
touches-start ends v k t = ⊎_elim
    (λ f.
    let half : 2 * k / 2 ≡ k = omega arith in
    let even : 2 * k % 2 ≡ 0 = omega arith in (
      2 * k,
      half,
      start_even ends (2 * k) even ∙ ap (λ j. (slice_index_or ends j (0, 0)).0) half
          ∙ eqb-true (slice_index_or ends k (0, 0)).0 v f,
    ))
    (λ g.
    let half : (2 * k + 1) / 2 ≡ k = omega arith in
    let odd : (2 * k + 1) % 2 ≢ 0 = λ e. omega (arith, e) in (
      2 * k + 1,
      half,
      start_odd ends (2 * k + 1) odd ∙ ap (λ j. (slice_index_or ends j (0, 0)).1) half
          ∙ eqb-true (slice_index_or ends k (0, 0)).1 v g,
    ))
    (or_cases (eqb (slice_index_or ends k (0, 0)).0 v) (eqb (slice_index_or ends k (0, 0)).1 v) t)

-- a rotation system of a graph without loops
module _ (g : PlainGraph) (none : HaveNoLoop g.ends) (r : System) (of : IsRotationOfGraph g r) where
  -- it has two darts for each edge
  pub darts_are : darts r ≡ 2 * length g.ends
  darts_are = omega (arith, of.rotation.paired, of.edges_are)

  -- a dart of the list of a vertex starts there
  pub listed-start : (v d : ℕ) → v < g.vertices → Has d (list_of r v) → (d < 2 * length g.ends) × (start g.ends d ≡ v)
  listed-start v d lt h =
      let w = (Exactly-Has (darts r) (λ x. eqb (slice_index r.at x) v) (list_of r v)
      (of.rotation.arranged v (omega (arith, lt, of.vertices))) d).0 h in (
        omega (arith, w.0, darts_are),
        sym (of.at_ends d w.0) ∙ eqb-true (vertex_of r d) v w.1,
      )

  -- and back
  pub start-listed : (v d : ℕ) → v < g.vertices → d < 2 * length g.ends → start g.ends d ≡ v → Has d (list_of r v)
  start-listed v d lt ltd e =
      let within : d < darts r = omega (arith, ltd, darts_are) in
      (Exactly-Has (darts r) (λ x. eqb (slice_index r.at x) v) (list_of r v)
      (of.rotation.arranged v (omega (arith, lt, of.vertices))) d).1
      (within, eq-eqb (vertex_of r d) v (of.at_ends d within ∙ e))

  -- two darts of one edge do not start at one vertex
  one_start : (v c d : ℕ) → c < 2 * length g.ends → start g.ends c ≡ v → start g.ends d ≡ v → edge_of c ≡ edge_of d
      → c ≡ d
  one_start v c d ltc ec ed same =
      let below : c / 2 < length g.ends = omega (arith, ltc) in
      let here = ap (λ k. slice_index_or g.ends k (0, 0)) same in
      ⊎_elim
      (λ even. ⊎_elim
      (λ also. omega (arith, same, even, also))
      (λ odd. absurd (none (c / 2) below (sym (start_even g.ends c even) ∙ ec ∙ sym ed ∙ start_odd g.ends d odd
      ∙ ap (λ p. p.1) (sym here))))
      (cases_eq (d % 2) 0))
      (λ odd. ⊎_elim
      (λ even. absurd (none (c / 2) below (ap (λ p. p.0) here ∙ sym (start_even g.ends d even) ∙ ed ∙ sym ec
      ∙ start_odd g.ends c odd)))
      (λ also. omega (arith, same, odd, also))
      (cases_eq (d % 2) 0))
      (cases_eq (c % 2) 0)

  -- the edges round a vertex are its edges, each once
  pub round-IsArrangementOf : (v : ℕ) → v < g.vertices → IsArrangementOf (edges_round r v) (edges_at g.ends v)
  round-IsArrangementOf v lt = record {
    distinct = Distinct-map_on edge_of (list_of r v)
        (λ c d hc hd same. let sc = listed-start v c lt hc in
        one_start v c d sc.0 sc.1 (listed-start v d lt hd).1 same)
        (Exactly-Distinct (darts r) (λ x. eqb (slice_index r.at x) v) (list_of r v)
        (of.rotation.arranged v (omega (arith, lt, of.vertices))));
    items = λ k. (
      λ h.
          let w = map_on-Has edge_of k (list_of r v) h in
          let s = listed-start v w.0 lt w.1 in
          (edges_at-Has g.ends v k).1 (
            omega (arith, s.0, w.2),
            subst (λ j. touches g.ends v j ≡ true) w.2
                (start-touches g.ends v w.0 s.1),
          ),
      λ h.
          let w = (edges_at-Has g.ends v k).0 h in
          let d = touches-start g.ends v k w.1 in
          subst (λ j. Has j (edges_round r v)) d.1
          (Has-map_on edge_of d.0 (list_of r v) (start-listed v d.0 lt (omega (arith, w.0, d.1)) d.2)),
    );
  }
