-- A vertex that is split into parts leaves the blocks as they are.
use Rattle.std.proofs.Common.{◌≡◌, ℕ, suc, ◌+◌, ◌-◌, ◌*◌, ◌/◌, ◌%◌, ◌<◌, List, length, slice_index, slice_index_or, sym, refl, ap, ◌∙◌, subst₂, inl, inr, ⊎_elim, arith}
use Rattle.std.proofs.lemmas.Bool.{cases_eq}
use Rattle.cp_orbits.specs.Connected.{Joins}
use Rattle.cp_orbits.proofs.ClassLabels.{connected_labels}
use Rattle.cp_conn.specs.CutVertex.{without_vertex}
use Rattle.cp_conn.specs.Darts.{start, finish}
use Rattle.cp_conn.specs.Blocks.{IsSimpleCycle, AreInOneBlock}
use Rattle.cp_conn.proofs.DartChains.{start_even, start_odd, finish_even, finish_odd, dart_joins, Joins-sym}
use Rattle.cp_conn.proofs.OneBlock.{flat, connected_of}
use Rattle.cp_rot.specs.Systems.{System, darts, vertex_of, IsRotation}
use Rattle.cp_faces.specs.Twins.{twin}
use Rattle.cp_rot.specs.Genus.{end_pairs}
use Rattle.cp_faces.proofs.Twins.{half_twin, twin_even, twin_odd, twin-twin}
use Rattle.cp_rot.proofs.Searches.{pair_of_edge}
use Rattle.cp_rotlaw.specs.Stars.{star_vertex, HaveSameBlocks}
use Rattle.cp_rotlaw.specs.StarParts.{far_key, AreEntered, part_of, star_at}
use Rattle.cp_rotlaw.proofs.StarCode.{far_within, length-end_pairs}
use Rattle.cp_rotlaw.proofs.StarSystems.{star_vertex-old, star_at_part, star_at_other, edge_part, edge_part_far, one_part, split_system, split-size, split_at}

-- a dart of the pairs of ends starts where it stands, and ends where its twin stands
pub pair_ends : (at : List ℕ) (d : ℕ) → length at ≡ 2 * (length at / 2) → d < length at
    → (start (end_pairs at) d ≡ slice_index at d) × (finish (end_pairs at) d ≡ slice_index at (twin d))
pair_ends at d paired lt =
    ⊎_elim
    (λ even.
    let first : 2 * (d / 2) ≡ d = omega arith in
    let second : 2 * (d / 2) + 1 ≡ twin d = omega (arith, twin_even d even) in
    (start_even (end_pairs at) d even ∙ ap (λ (p : ℕ × ℕ). p.0) pair ∙ ap (slice_index at) first, finish_even (end_pairs at) d even ∙ ap (λ (p : ℕ × ℕ). p.1) pair ∙ ap (slice_index at) second))
    (λ odd.
    let first : 2 * (d / 2) ≡ twin d = omega (arith, twin_odd d odd) in
    let second : 2 * (d / 2) + 1 ≡ d = omega arith in
    (start_odd (end_pairs at) d odd ∙ ap (λ (p : ℕ × ℕ). p.1) pair ∙ ap (slice_index at) second, finish_odd (end_pairs at) d odd ∙ ap (λ (p : ℕ × ℕ). p.0) pair ∙ ap (slice_index at) first))
    (cases_eq (d % 2) 0)
  where
    pair : slice_index_or (end_pairs at) (d / 2)
        (0, 0) ≡ (slice_index at (2 * (d / 2)), slice_index at (2 * (d / 2) + 1))
    pair = (pair_of_edge at (d / 2) (omega arith)).1 (0, 0)

module _ (r : System) (is : IsRotation r) (u : ℕ) (ltu : u < r.vertices) (parts : ℕ) (entered : List ℕ)
    (a : AreEntered r u parts entered) (more : ℕ) where
  -- the edges before
  abbrev es : List (ℕ × ℕ)
  es = end_pairs r.at

  -- the edges after
  abbrev fs : List (ℕ × ℕ)
  fs = end_pairs (split_system r is u ltu parts entered a more).at

  -- where dart d stands then
  abbrev at : ℕ → ℕ
  at = star_at r u (part_of r entered)

  -- there are as many darts after the split as before
  size : darts (split_system r is u ltu parts entered a more) ≡ darts r
  size = split-size r is u ltu parts entered a more

  -- there are as many edges
  as_many : length fs ≡ length es
  as_many = omega (arith, length-end_pairs r.at, length-end_pairs (split_system r is u ltu parts entered a more).at, size)

  -- a dart of the edges before is a dart of the system
  within_es : (d : ℕ) → d < 2 * length es → d < darts r
  within_es d lt = omega (arith, length-end_pairs r.at)

  -- a dart of the edges before starts at its vertex
  start_es : (d : ℕ) → d < darts r → start es d ≡ vertex_of r d
  start_es d lt = (pair_ends r.at d is.paired lt).0

  -- and ends at the vertex of its twin
  finish_es : (d : ℕ) → d < darts r → finish es d ≡ vertex_of r (twin d)
  finish_es d lt = (pair_ends r.at d is.paired lt).1

  -- a dart of the edges after starts where it stands then
  start_fs : (d : ℕ) → d < darts r → start fs d ≡ at d
  start_fs d lt = (pair_ends (split_system r is u ltu parts entered a more).at d (omega (arith, size, is.paired)) (omega (arith, size))).0 ∙ split_at r is u ltu parts entered a more d lt

  -- and ends where its twin stands then
  finish_fs : (d : ℕ) → d < darts r → finish fs d ≡ at (twin d)
  finish_fs d lt = (pair_ends (split_system r is u ltu parts entered a more).at d (omega (arith, size, is.paired)) (omega (arith, size))).1 ∙ split_at r is u ltu parts entered a more (twin d) (far_within r is d lt).0

  -- darts that stand at one vertex then stood at one before
  joined_back : (c d : ℕ) → c < darts r → d < darts r → at c ≡ at d → vertex_of r c ≡ vertex_of r d
  joined_back c d ltc ltd e =
      ⊎_elim
      (λ c_at. ⊎_elim
      (λ d_at. c_at ∙ sym d_at)
      (λ d_off. absurd (star_vertex-old r u (part_of r entered c) (vertex_of r d) (is.placed d ltd) d_off (sym (star_at_part r u (part_of r entered) c c_at) ∙ e ∙ star_at_other r u (part_of r entered) d d_off)))
      (cases_eq (vertex_of r d) u))
      (λ c_off. ⊎_elim
      (λ d_at. absurd (star_vertex-old r u (part_of r entered d) (vertex_of r c) (is.placed c ltc) c_off (sym (star_at_part r u (part_of r entered) d d_at) ∙ sym e ∙ star_at_other r u (part_of r entered) c c_off)))
      (λ d_off. sym (star_at_other r u (part_of r entered) c c_off) ∙ e ∙ star_at_other r u (part_of r entered) d d_off)
      (cases_eq (vertex_of r d) u))
      (cases_eq (vertex_of r c) u)

  -- darts of edges of one part stand together then if they did before
  joined_there : (c d : ℕ) → vertex_of r c ≡ vertex_of r d
      → (vertex_of r d ≡ u → far_key r entered c ≡ far_key r entered d) → at c ≡ at d
  joined_there c d e same =
      ⊎_elim
      (λ d_at. star_at_part r u (part_of r entered) c (e ∙ d_at) ∙ ap (λ (k : ℕ). star_vertex r u (k - 1)) (same d_at) ∙ sym (star_at_part r u (part_of r entered) d d_at))
      (λ d_off. star_at_other r u (part_of r entered) c (λ c_at. d_off (sym e ∙ c_at)) ∙ e ∙ sym (star_at_other r u (part_of r entered) d d_off))
      (cases_eq (vertex_of r d) u)

  -- two edges of one block that meet at u are of one part
  turn_there : (c d : ℕ) → c < darts r → d < darts r → vertex_of r (twin c) ≡ vertex_of r d → (c / 2 ≡ d / 2 → ⊥)
      → AreInOneBlock es (c / 2) (d / 2) → at (twin c) ≡ at d
  turn_there c d ltc ltd e differ block = joined_there (twin c) d e one
    where
      one : vertex_of r d ≡ u → far_key r entered (twin c) ≡ far_key r entered d
      one d_at =
          let c_joins : Joins (slice_index_or es (c / 2) (0, 0)) u (vertex_of r c) = Joins-sym (slice_index_or es (c / 2) (0, 0)) (vertex_of r c) u
          (subst₂ (Joins (slice_index_or es (c / 2) (0, 0))) (start_es c ltc) (finish_es c ltc ∙ e ∙ d_at) (dart_joins es c (omega (arith, length-end_pairs r.at, is.paired)))) in
          let d_joins : Joins (slice_index_or es (d / 2) (0, 0)) u (vertex_of r (twin d)) =
          subst₂ (Joins (slice_index_or es (d / 2) (0, 0))) (start_es d ltd ∙ d_at) (finish_es d ltd) (dart_joins es d (omega (arith, length-end_pairs r.at, is.paired))) in
          ap (λ (k : ℕ). slice_index entered (vertex_of r k)) (twin-twin c)
          ∙ a.kept (vertex_of r c) (vertex_of r (twin d)) (is.placed c ltc) (far_within r is d ltd).1
          (connected_labels (without_vertex u es) (vertex_of r c) (vertex_of r (twin d)) (connected_of es u (c / 2) (d / 2) (vertex_of r c) (vertex_of r (twin d)) differ c_joins d_joins block))

  -- a simple cycle stays one
  cycle_there : (ds : List ℕ) → IsSimpleCycle es ds → IsSimpleCycle fs ds
  cycle_there ds cy = record {
    at_least_two = cy.at_least_two;
    within = λ i lt. omega (arith, cy.within i lt, as_many);
    linked = λ i lt. finish_fs (slice_index ds i) (low i (omega arith)) ∙ turn i (i + 1) (omega arith) lt (cy.linked i lt) (λ e. omega (arith, cy.edges_differ i (i + 1) (omega arith) lt e)) ∙ sym (start_fs (slice_index ds (i + 1)) (low (i + 1) lt));
    closed = finish_fs (slice_index ds (length ds - 1)) (low (length ds - 1) (omega (arith, cy.at_least_two))) ∙ turn (length ds - 1) 0 (omega (arith, cy.at_least_two)) (omega (arith, cy.at_least_two)) cy.closed (λ e. omega (arith, cy.at_least_two, cy.edges_differ (length ds - 1) 0 (omega (arith, cy.at_least_two)) (omega (arith, cy.at_least_two)) e)) ∙ sym (start_fs (slice_index ds 0) (low 0 (omega (arith, cy.at_least_two))));
    vertices_differ = λ i j lti ltj e. cy.vertices_differ i j lti ltj
        (start_es (slice_index ds i) (low i lti) ∙ joined_back (slice_index ds i) (slice_index ds j) (low i lti) (low j ltj) (sym (start_fs (slice_index ds i) (low i lti)) ∙ e ∙ start_fs (slice_index ds j) (low j ltj)) ∙ sym (start_es (slice_index ds j) (low j ltj)));
    edges_differ = cy.edges_differ;
  }
    where
      low : (i : ℕ) → i < length ds → slice_index ds i < darts r
      low i lt = within_es (slice_index ds i) (cy.within i lt)

      turn : (i j : ℕ) → i < length ds → j < length ds → finish es (slice_index ds i) ≡ start es (slice_index ds j)
          → (slice_index ds i / 2 ≡ slice_index ds j / 2 → ⊥) → at (twin (slice_index ds i)) ≡ at (slice_index ds j)
      turn i j lti ltj e differ = turn_there (slice_index ds i) (slice_index ds j) (low i lti) (low j ltj) (sym (finish_es (slice_index ds i) (low i lti)) ∙ e ∙ start_es (slice_index ds j) (low j ltj)) differ (inr (ds, cy, (i, lti, refl), (j, ltj, refl)))

  -- a simple cycle of the result was one
  cycle_back : (ds : List ℕ) → IsSimpleCycle fs ds → IsSimpleCycle es ds
  cycle_back ds cy = record {
    at_least_two = cy.at_least_two;
    within = λ i lt. omega (arith, cy.within i lt, as_many);
    linked = λ i lt. finish_es (slice_index ds i) (low i (omega arith)) ∙ back i (i + 1) (omega arith) lt (cy.linked i lt) ∙ sym (start_es (slice_index ds (i + 1)) (low (i + 1) lt));
    closed = finish_es (slice_index ds (length ds - 1)) (low (length ds - 1) (omega (arith, cy.at_least_two))) ∙ back (length ds - 1) 0 (omega (arith, cy.at_least_two)) (omega (arith, cy.at_least_two)) cy.closed ∙ sym (start_es (slice_index ds 0) (low 0 (omega (arith, cy.at_least_two))));
    vertices_differ = λ i j lti ltj e. cy.vertices_differ i j lti ltj
        (start_fs (slice_index ds i) (low i lti) ∙ together i j lti ltj (sym (start_es (slice_index ds i) (low i lti)) ∙ e ∙ start_es (slice_index ds j) (low j ltj)) ∙ sym (start_fs (slice_index ds j) (low j ltj)));
    edges_differ = cy.edges_differ;
  }
    where
      low : (i : ℕ) → i < length ds → slice_index ds i < darts r
      low i lt = within_es (slice_index ds i) (omega (arith, cy.within i lt, as_many))

      meets : (i j : ℕ) → i < length ds → j < length ds → finish fs (slice_index ds i) ≡ start fs (slice_index ds j)
          → at (twin (slice_index ds i)) ≡ at (slice_index ds j)
      meets i j lti ltj e = sym (finish_fs (slice_index ds i) (low i lti)) ∙ e ∙ start_fs (slice_index ds j) (low j ltj)

      back : (i j : ℕ) → i < length ds → j < length ds → finish fs (slice_index ds i) ≡ start fs (slice_index ds j)
          → vertex_of r (twin (slice_index ds i)) ≡ vertex_of r (slice_index ds j)
      back i j lti ltj e = joined_back (twin (slice_index ds i)) (slice_index ds j) (far_within r is (slice_index ds i) (low i lti)).0 (low j ltj) (meets i j lti ltj e)

      part_at : ℕ → ℕ
      part_at i = edge_part r entered (slice_index ds i / 2)

      step : (i : ℕ) → suc i < length ds → part_at i ≡ part_at (suc i)
      step i lt =
          let more : i + 1 ≡ suc i = omega arith in
          ap (edge_part r entered) (sym (half_twin (slice_index ds i)))
          ∙ one_part r is u ltu parts entered a (twin (slice_index ds i)) (slice_index ds (suc i)) (far_within r is (slice_index ds i) (low i (omega arith))).0 (low (suc i) lt)
          (meets i (suc i) (omega arith) lt (cy.linked i (omega arith) ∙ ap (λ (k : ℕ). start fs (slice_index ds k)) more))

      first : (i : ℕ) → i < length ds → part_at 0 ≡ part_at i
      first i lt = flat part_at 0 i (omega arith) (λ j le ltj. step j (omega arith))

      together : (i j : ℕ) → i < length ds → j < length ds
          → vertex_of r (slice_index ds i) ≡ vertex_of r (slice_index ds j)
          → at (slice_index ds i) ≡ at (slice_index ds j)
      together i j lti ltj e = joined_there (slice_index ds i) (slice_index ds j) e
          (λ j_at. sym (edge_part_far r u parts entered a (slice_index ds i) (e ∙ j_at)) ∙ sym (first i lti) ∙ first j ltj ∙ edge_part_far r u parts entered a (slice_index ds j) j_at)

  -- the blocks are the same
  pub same_blocks : HaveSameBlocks r (split_system r is u ltu parts entered a more)
  same_blocks e f lte ltf = (
    λ b. ⊎_elim (λ same. inl same) (λ q. inr (q.0, cycle_there q.0 q.1, q.2, q.3)) b,
    λ b. ⊎_elim (λ same. inl same) (λ q. inr (q.0, cycle_back q.0 q.1, q.2, q.3)) b,
  )
