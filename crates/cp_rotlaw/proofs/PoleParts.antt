-- The parts between the poles of a bond, as the program numbers them.
use Rattle.std.proofs.Common.{◌≡◌, ◌≢◌, ℕ, ◌+◌, ◌*◌, ◌/◌, ◌%◌, ◌<◌, ◌⊎◌, ◌||◌, Bool, true, false, eqb, List, set, slice_index, sym, refl, ap, ◌∙◌, subst, inl, inr, ⊎_elim, arith}
use Rattle.std.specs.Prelude.{replicate}
use Rattle.std.proofs.lemmas.Bool.{cases_eq, cond-false, cond-true, eq-eqb, ne_eqb}
use Rattle.std.proofs.lemmas.List.{get_or-map, length-map, length-replicate, length-set, same_lists}
use Rattle.std.specs.List.{Contains}
use Rattle.cp_lists.proofs.DistinctLists.{Has-Contains}
use Rattle.cp_orbits.specs.Connected.{Connected, Joins, here, step}
use Rattle.cp_faces.specs.Twins.{twin}
use Rattle.cp_faces.proofs.Twins.{twin-twin, twin_even, twin_odd}
use Rattle.cp_conn.specs.Bonds.{IsBond}
use Rattle.cp_conn.specs.CutVertex.{avoids, without_vertex}
use Rattle.cp_conn.specs.NamedGraphs.{NamedGraph, edges_at, far, pairs}
use Rattle.cp_conn.specs.Numbering.{AreNumbered}
use Rattle.cp_conn.specs.Removed.{without_removed}
use Rattle.cp_conn.proofs.Bonds.{ConnectedWithout-first, ConnectedWithout-second}
use Rattle.cp_conn.proofs.CutVertices.{avoids_of, kept_of}
use Rattle.cp_conn.proofs.NamedGraphs.{Contains-edges_at, edges_at-Contains, far_joins, joins_ends, joins_far}
use Rattle.cp_conn.proofs.NumberedClasses.{connected_by_number, number-below, number_of_connected}
use Rattle.cp_conn.proofs.Removed.{one_removed, removed_more}
use Rattle.cp_rot.specs.Genus.{end_pairs}
use Rattle.cp_rot.specs.Rewrites.{values}
use Rattle.cp_rot.specs.Systems.{IsRotation, System, darts, edges, vertex_of}
use Rattle.cp_rot.proofs.ListEdits.{length-values, values_at}
use Rattle.cp_rot.proofs.Searches.{pair_of_edge}
use Rattle.cp_rotlaw.specs.PoleClasses.{ArePoleParts, LeadsBetween, dart_part, is_pole, pairs_between, pole_part}
use Rattle.cp_rotlaw.specs.Poles.{graph_of}
use Rattle.cp_rotlaw.specs.StarParts.{far_key}
use Rattle.cp_rotlaw.specs.Stars.{IsDartOf}
use Rattle.cp_rotlaw.proofs.NamedMaps.{Has-numbers, numbers-below}
use Rattle.cp_faces.proofs.Twins.{half_twin}
use Rattle.cp_rotlaw.proofs.StarCode.{far_within, length-end_pairs}

-- two vertices are removed
pub two_removed : (n u v : ℕ) (es : List (ℕ × ℕ)) → u < n → v < n
    → without_removed (set (set (replicate n false) v true) u true) es ≡ without_vertex u (without_vertex v es)
two_removed n u v es ltu ltv =
    removed_more (set (replicate n false) v true) u es
    (omega (arith, ltu, length-set (replicate n false) v true, length-replicate n false))
    ∙ ap (without_vertex u) (one_removed n v es ltv)

-- a dart and its twin are of one edge, and two darts of one edge are equal or twins
pub half_cases : (d f : ℕ) → d / 2 ≡ f / 2 → (f ≡ d) ⊎ (f ≡ twin d)
half_cases d f same = ⊎_elim
    (λ even. ⊎_elim (λ e. inl (omega (arith, e, even, same)))
    (λ o. inr (omega (arith, o, even, same, twin_even d even)))
    (cases_eq (f % 2) 0))
    (λ odd. ⊎_elim (λ e. inr (omega (arith, e, odd, same, twin_odd d odd))) (λ o. inl (omega (arith, o, odd, same)))
    (cases_eq (f % 2) 0))
    (cases_eq (d % 2) 0)

-- a vertex is a pole or is none
pole_cases : (u v w : ℕ) → ((w ≡ u) ⊎ (w ≡ v)) ⊎ ((w ≢ u) × (w ≢ v))
pole_cases u v w =
    ⊎_elim (λ e. inl (inl e)) (λ nu. ⊎_elim (λ e. inl (inr e)) (λ nv. inr (nu, nv)) (cases_eq w v)) (cases_eq w u)

-- a pole passes the test
pole_yes : (u v w : ℕ) → (w ≡ u) ⊎ (w ≡ v) → is_pole u v w ≡ true
pole_yes u v w h = ⊎_elim (λ e. rw (eq-eqb w u e) refl) (λ e. rw (eq-eqb w v e) (or_true (eqb w u))) h
  where
    or_true : (b : Bool) → (b || true) ≡ true
    or_true true = refl
    or_true false = refl

-- another vertex does not
pole_no : (u v w : ℕ) → w ≢ u → w ≢ v → is_pole u v w ≡ false
pole_no u v w nu nv = rw (ne_eqb w u nu, ne_eqb w v nv) refl

-- a pair avoids what is neither of the vertices that it joins
avoids_joined : (w : ℕ) (p : ℕ × ℕ) (x y : ℕ) → Joins p x y → x ≢ w → y ≢ w → avoids w p ≡ true
avoids_joined w p x y joins nx ny = ⊎_elim
    (λ j. avoids_of w p (λ e. nx (sym j.0 ∙ e)) (λ e. ny (sym j.1 ∙ e)))
    (λ j. avoids_of w p (λ e. ny (sym j.0 ∙ e)) (λ e. nx (sym j.1 ∙ e)))
    joins

-- a rotation system as a graph
module _ (r : System) (is : IsRotation r) where
  -- its graph
  abbrev g : NamedGraph
  g = graph_of r

  -- the edge of a dart is one
  edge_below : (d : ℕ) → d < darts r → d / 2 < edges r
  edge_below d lt = omega (arith, is.paired)

  -- its pairs of ends are those of the darts
  pairs-end_pairs : pairs g ≡ end_pairs r.at
  pairs-end_pairs = same_lists (pairs g) (end_pairs r.at)
      (length-map g.edges g.ends ∙ length-values (edges r) (λ e. e) ∙ sym (length-end_pairs r.at))
      (λ k z lt.
      let within : k < edges r = omega (arith, lt, length-map g.edges g.ends, length-values (edges r) (λ e. e)) in
      get_or-map g.ends g.edges k 0 z (omega (arith, length-values (edges r) (λ e. e)))
      ∙ ap g.ends (values_at (edges r) (λ e. e) k 0 within)
      ∙ sym ((pair_of_edge r.at k (omega (arith, is.paired))).1 z))

  -- the edge of a dart joins the vertices of the dart and its twin
  dart_joins : (d : ℕ) → d < darts r → Joins (g.ends (d / 2)) (vertex_of r d) (vertex_of r (twin d))
  dart_joins d lt = ⊎_elim
      (λ even. let first : 2 * (d / 2) ≡ d = omega (arith, even) in
      let second : 2 * (d / 2) + 1 ≡ twin d = omega (arith, even, twin_even d even) in
      inl (ap (vertex_of r) first, ap (vertex_of r) second))
      (λ odd. let first : 2 * (d / 2) ≡ twin d = omega (arith, odd, twin_odd d odd) in
      let second : 2 * (d / 2) + 1 ≡ d = omega (arith, odd) in
      inr (ap (vertex_of r) first, ap (vertex_of r) second))
      (cases_eq (d % 2) 0)

  -- the edge of a dart is an edge of its vertex
  dart_edge : (d : ℕ) → d < darts r → Contains (edges_at g (vertex_of r d)) (d / 2)
  dart_edge d lt = Contains-edges_at g (vertex_of r d) (d / 2)
      ((Has-Contains (d / 2) g.edges).0 (Has-numbers (edges r) (d / 2) (edge_below d lt)))
      (joins_ends g (vertex_of r d) (vertex_of r (twin d)) (d / 2) (dart_joins d lt))

  -- which leads to the vertex of its twin
  dart_far : (d : ℕ) → d < darts r → far g (vertex_of r d) (d / 2) ≡ vertex_of r (twin d)
  dart_far d lt = joins_far g (vertex_of r d) (vertex_of r (twin d)) (d / 2) (dart_joins d lt)

  -- an edge of a vertex has a dart there
  edge_dart : (w e : ℕ) → Contains (edges_at g w) e → (d : ℕ) × IsDartOf r w d × (d / 2 ≡ e)
  edge_dart w e c =
      let k = edges_at-Contains g w e c in
      let lt : e < edges r = numbers-below (edges r) e ((Has-Contains e g.edges).1 k.0) in
      ⊎_elim
      (λ j. (2 * e, record { within = omega (arith, is.paired); stands = j.0 }, omega arith))
      (λ j. (2 * e + 1, record { within = omega (arith, is.paired); stands = j.1 }, omega arith))
      (far_joins g w e k.1)

  -- an edge between connects its ends
  edge_connected : (u v d : ℕ) → d < darts r → vertex_of r d ≢ u → vertex_of r d ≢ v → vertex_of r (twin d) ≢ u
      → vertex_of r (twin d) ≢ v → Connected (pairs_between r u v) (vertex_of r d) (vertex_of r (twin d))
  edge_connected u v d lt nu nv mu mv =
      let p : ℕ × ℕ = g.ends (d / 2) in
      let joins : Joins p (vertex_of r d) (vertex_of r (twin d)) = dart_joins d lt in
      let at = pair_of_edge r.at (d / 2) (omega (arith, is.paired)) in
      step here p (kept_of (avoids u) (without_vertex v (end_pairs r.at)) p
      (kept_of (avoids v) (end_pairs r.at) p (d / 2, at.0, at.1 p)
      (avoids_joined v p (vertex_of r d) (vertex_of r (twin d)) joins nv mv))
      (avoids_joined u p (vertex_of r d) (vertex_of r (twin d)) joins nu mu)) joins

  -- two poles, and the numbers of the components between
  module _ (u v : ℕ) (ltu : u < r.vertices) (ltv : v < r.vertices) (numbers : List ℕ)
      (are : AreNumbered (Connected (pairs_between r u v)) r.vertices numbers) where
    -- the part of a dart
    abbrev part : ℕ → ℕ
    part = dart_part r u v numbers

    -- of a dart between the poles
    part_between : (d : ℕ) → vertex_of r d ≢ u → vertex_of r d ≢ v → part d ≡ slice_index numbers (vertex_of r d)
    part_between d nu nv =
        cond-false (is_pole u v (vertex_of r d)) (pole_part r u v numbers d) (slice_index numbers (vertex_of r d))
        (pole_no u v (vertex_of r d) nu nv)

    -- of a dart of a pole
    part_pole : (d : ℕ) → (vertex_of r d ≡ u) ⊎ (vertex_of r d ≡ v) → part d ≡ pole_part r u v numbers d
    part_pole d at =
        cond-true (is_pole u v (vertex_of r d)) (pole_part r u v numbers d) (slice_index numbers (vertex_of r d))
        (pole_yes u v (vertex_of r d) at)

    -- that leads between the poles
    part_leading : (d : ℕ) → (vertex_of r d ≡ u) ⊎ (vertex_of r d ≡ v) → LeadsBetween r u v d
        → part d ≡ slice_index numbers (vertex_of r (twin d))
    part_leading d at off = part_pole d at
        ∙ cond-false (is_pole u v (vertex_of r (twin d))) (r.vertices + d / 2) (far_key r numbers d)
        (pole_no u v (vertex_of r (twin d)) off.0 off.1)

    -- that leads to a pole
    part_straight : (d : ℕ) → (vertex_of r d ≡ u) ⊎ (vertex_of r d ≡ v)
        → (vertex_of r (twin d) ≡ u) ⊎ (vertex_of r (twin d) ≡ v) → part d ≡ r.vertices + d / 2
    part_straight d at to = part_pole d at
        ∙ cond-true (is_pole u v (vertex_of r (twin d))) (r.vertices + d / 2) (far_key r numbers d)
        (pole_yes u v (vertex_of r (twin d)) to)

    -- the number of a vertex
    number_low : (w : ℕ) → w < r.vertices → slice_index numbers w < r.vertices
    number_low w lt = number-below (pairs_between r u v) r.vertices numbers are w lt

    -- each part has a number below those of vertices and edges
    pub part_low : (d : ℕ) → d < darts r → part d < r.vertices + edges r
    part_low d lt = ⊎_elim
        (λ at. ⊎_elim
        (λ to. omega (arith, part_straight d at to, edge_below d lt))
        (λ off. omega (arith, part_leading d at off, number_low (vertex_of r (twin d)) (far_within r is d lt).1))
        (pole_cases u v (vertex_of r (twin d))))
        (λ off. omega (arith, part_between d off.0 off.1, number_low (vertex_of r d) (is.placed d lt)))
        (pole_cases u v (vertex_of r d))

    -- both darts of an edge are of one part
    part_twins : (d : ℕ) → d < darts r → part (twin d) ≡ part d
    part_twins d lt = ⊎_elim
        (λ at. ⊎_elim
        (λ to. part_straight (twin d) to (back at) ∙ ap (λ k. r.vertices + k) (half_twin d)
        ∙ sym (part_straight d at to))
        (λ off. part_between (twin d) off.0 off.1 ∙ sym (part_leading d at off))
        (pole_cases u v (vertex_of r (twin d))))
        (λ off. ⊎_elim
        (λ to. part_leading (twin d) to
        ((λ e. off.0 (sym twice ∙ e)), (λ e. off.1 (sym twice ∙ e)))
        ∙ ap (slice_index numbers) twice ∙ sym (part_between d off.0 off.1))
        (λ far_off. part_between (twin d) far_off.0 far_off.1
        ∙ sym (number_of_connected (pairs_between r u v) r.vertices numbers are (vertex_of r d) (vertex_of r (twin d))
        (is.placed d lt) (far_within r is d lt).1
        (edge_connected u v d lt off.0 off.1 far_off.0 far_off.1)) ∙ sym (part_between d off.0 off.1))
        (pole_cases u v (vertex_of r (twin d))))
        (pole_cases u v (vertex_of r d))
      where
        twice : vertex_of r (twin (twin d)) ≡ vertex_of r d
        twice = ap (vertex_of r) (twin-twin d)

        back : (vertex_of r d ≡ u) ⊎ (vertex_of r d ≡ v)
            → (vertex_of r (twin (twin d)) ≡ u) ⊎ (vertex_of r (twin (twin d)) ≡ v)
        back at = ⊎_elim (λ e. inl (twice ∙ e)) (λ e. inr (twice ∙ e)) at

    -- two darts at poles of one part: both are of one edge between the poles, or both lead to one component
    one_part : (d f : ℕ) → d < darts r → f < darts r → (vertex_of r d ≡ u) ⊎ (vertex_of r d ≡ v)
        → (vertex_of r f ≡ u) ⊎ (vertex_of r f ≡ v) → part f ≡ part d
        → (((vertex_of r (twin d) ≡ u) ⊎ (vertex_of r (twin d) ≡ v)) × (d / 2 ≡ f / 2))
        ⊎ (LeadsBetween r u v d × LeadsBetween r u v f
        × Connected (pairs_between r u v) (vertex_of r (twin d)) (vertex_of r (twin f)))
    one_part d f ltd ltf at_d at_f same =
        let far_d = far_within r is d ltd in
        let far_f = far_within r is f ltf in
        ⊎_elim
        (λ to_d. ⊎_elim
        (λ to_f. inl (to_d, omega (arith, part_straight d at_d to_d, part_straight f at_f to_f, same)))
        (λ off_f. absurd (omega (
          arith,
          part_straight d at_d to_d,
          part_leading f at_f off_f,
          same,
          number_low (vertex_of r (twin f)) far_f.1,
        )))
        (pole_cases u v (vertex_of r (twin f))))
        (λ off_d. ⊎_elim
        (λ to_f. absurd (omega (
          arith,
          part_leading d at_d off_d,
          part_straight f at_f to_f,
          same,
          number_low (vertex_of r (twin d)) far_d.1,
        )))
        (λ off_f. inr (
          off_d,
          off_f,
          connected_by_number (pairs_between r u v) r.vertices numbers are (vertex_of r (twin d)) (vertex_of r (twin f))
              far_d.1 far_f.1 (sym (part_leading d at_d off_d) ∙ sym same ∙ part_leading f at_f off_f),
        ))
        (pole_cases u v (vertex_of r (twin f))))
        (pole_cases u v (vertex_of r (twin d)))

    -- where they are poles of a bond
    module _ (bond : IsBond (graph_of r) u v) where
      -- no dart of u leads back to u
      no_loop : (d : ℕ) → IsDartOf r u d → vertex_of r (twin d) ≢ u
      no_loop d at e = bond.no_loop (d / 2)
          (subst (λ w. Contains (edges_at g w) (d / 2)) at.stands (dart_edge d at.within))
          (subst (λ w. far g w (d / 2) ≡ vertex_of r (twin d)) at.stands (dart_far d at.within) ∙ e)

      -- what an edge of a pole leads to
      far_at : (w d : ℕ) → IsDartOf r w d → far g w (d / 2) ≡ vertex_of r (twin d)
      far_at w d at = subst (λ x. far g x (d / 2) ≡ vertex_of r (twin d)) at.stands (dart_far d at.within)

      -- the edge of a dart of a pole
      edge_of : (w d : ℕ) → IsDartOf r w d → Contains (edges_at g w) (d / 2)
      edge_of w d at = subst (λ x. Contains (edges_at g x) (d / 2)) at.stands (dart_edge d at.within)

      -- connection between the poles
      between_is : (x y : ℕ) → Connected (pairs_between r u v) x y
          → Connected (without_vertex u (without_vertex v (pairs g))) x y
      between_is x y c =
          subst (λ es. Connected (without_vertex u (without_vertex v es)) x y) (sym pairs-end_pairs) c

      -- two darts of u of one edge are one
      one_edge : (d f : ℕ) → IsDartOf r u d → IsDartOf r u f → d / 2 ≡ f / 2 → d ≡ f
      one_edge d f at_d at_f same = ⊎_elim
          (λ e. sym e)
          (λ e. absurd (no_loop d at_d (ap (vertex_of r) (sym e) ∙ at_f.stands)))
          (half_cases d f same)

      -- no two darts of u are of one part
      part_once : (d f : ℕ) → IsDartOf r u d → IsDartOf r u f → part d ≡ part f → d ≡ f
      part_once d f at_d at_f same = ⊎_elim
          (λ k. one_edge d f at_d at_f k.1)
          (λ k. one_edge d f at_d at_f (bond.one_each (d / 2) (f / 2) (edge_of u d at_d) (edge_of u f at_f)
          (λ e. k.0.1 (sym (far_at u d at_d) ∙ e))
          (subst (λ x. Connected (without_vertex u (without_vertex v (pairs g))) x (far g u (f / 2)))
          (sym (far_at u d at_d))
          (subst (Connected (without_vertex u (without_vertex v (pairs g))) (vertex_of r (twin d)))
          (sym (far_at u f at_f)) (between_is (vertex_of r (twin d)) (vertex_of r (twin f)) k.2)))))
          (one_part d f at_d.within at_f.within (inl at_d.stands) (inl at_f.stands) (sym same))

      -- each part that a dart of u enters has a dart of v
      part_reach : (d : ℕ) → IsDartOf r u d → (f : ℕ) × IsDartOf r v f × (part f ≡ part d)
      part_reach d at = ⊎_elim
          (λ e. (
            twin d,
            record { within = (far_within r is d at.within).0; stands = e },
            part_twins d at.within,
          ))
          (λ ne.
          let on = bond.reach (d / 2) (edge_of u d at) (λ e. ne (sym (far_at u d at) ∙ e)) in
          let k : (f : ℕ) × IsDartOf r v f × (f / 2 ≡ on.0) = edge_dart v on.0 on.1 in
          let there : far g v on.0 ≡ vertex_of r (twin k.0) =
          ap (far g v) (sym k.2) ∙ far_at v k.0 k.1 in
          let walk : Connected (without_vertex u (without_vertex v (pairs g))) (vertex_of r (twin d))
          (vertex_of r (twin k.0)) =
          subst (λ x. Connected (without_vertex u (without_vertex v (pairs g))) x (vertex_of r (twin k.0)))
          (far_at u d at)
          (subst (Connected (without_vertex u (without_vertex v (pairs g))) (far g u (d / 2))) there on.2) in
          let nu : vertex_of r (twin k.0) ≢ u = λ e. no_loop d at
          (ConnectedWithout-first g u v (vertex_of r (twin d))
          (subst (Connected (without_vertex u (without_vertex v (pairs g))) (vertex_of r (twin d))) e walk)) in
          let nv : vertex_of r (twin k.0) ≢ v = λ e. ne
          (ConnectedWithout-second g u v (vertex_of r (twin d))
          (subst (Connected (without_vertex u (without_vertex v (pairs g))) (vertex_of r (twin d))) e walk)) in
          let one : slice_index numbers (vertex_of r (twin d)) ≡ slice_index numbers (vertex_of r (twin k.0)) =
          number_of_connected (pairs_between r u v) r.vertices numbers are (vertex_of r (twin d))
          (vertex_of r (twin k.0)) (far_within r is d at.within).1 (far_within r is k.0 k.1.within).1
          (subst (λ es. Connected (without_vertex u (without_vertex v es)) (vertex_of r (twin d))
          (vertex_of r (twin k.0))) pairs-end_pairs walk) in (
            k.0,
            k.1,
            part_leading k.0 (inr k.1.stands) (nu, nv) ∙ sym one
                ∙ sym (part_leading d (inl at.stands) (no_loop d at, ne)),
          ))
          (cases_eq (vertex_of r (twin d)) v)

      -- the numbers and parts are those of the poles
      pub ArePoleParts-numbers : ArePoleParts r u v (slice_index numbers) part
      ArePoleParts-numbers = record {
        inner = λ d lt nu nv. part_between d nu nv;
        twins = part_twins;
        linked = λ d f at_d at_f same. ⊎_elim
            (λ k. ⊎_elim
            (λ e. absurd (bond.differ (sym at_d.stands ∙ ap (vertex_of r) (sym e) ∙ at_f.stands)))
            (λ e. inl e)
            (half_cases d f k.1))
            inr
            (one_part d f at_d.within at_f.within (inl at_d.stands) (inr at_f.stands) same);
        one_each = part_once;
        reach = part_reach;
      }

-- parts that agree on the darts
pub ArePoleParts-agree : (r : System) → IsRotation r → (u v : ℕ) (number part same : ℕ → ℕ)
    → ((d : ℕ) → d < darts r → same d ≡ part d) → ArePoleParts r u v number part → ArePoleParts r u v number same
ArePoleParts-agree r is u v number part same agree p = record {
  inner = λ d lt nu nv. agree d lt ∙ p.inner d lt nu nv;
  twins = λ d lt. agree (twin d) (far_within r is d lt).0 ∙ p.twins d lt ∙ sym (agree d lt);
  linked = λ d f at_d at_f e. p.linked d f at_d at_f (sym (agree f at_f.within) ∙ e ∙ agree d at_d.within);
  one_each = λ d f at_d at_f e. p.one_each d f at_d at_f (sym (agree d at_d.within) ∙ e ∙ agree f at_f.within);
  reach = λ d at. let k = p.reach d at in (k.0, k.1, agree k.0 k.1.within ∙ k.2 ∙ sym (agree d at.within));
}

-- what a table of the values of a function tells
values_told : (n : ℕ) (f : ℕ → ℕ) (xs : List ℕ) → xs ≡ values n f → (d : ℕ) → d < n → slice_index xs d ≡ f d
values_told n f xs e d lt = ap (λ ys. slice_index ys d) e ∙ values_at n f d 0 lt

-- the table of parts has low numbers
pub table_low : (r : System) → IsRotation r → (u v : ℕ) (numbers parts : List ℕ)
    → AreNumbered (Connected (pairs_between r u v)) r.vertices numbers → u < r.vertices → v < r.vertices
    → parts ≡ values (darts r) (dart_part r u v numbers) → (d : ℕ) → d < darts r
    → slice_index parts d < r.vertices + edges r
table_low r is u v numbers parts are ltu ltv made d lt =
    subst (λ p. p < r.vertices + edges r) (sym (values_told (darts r) (dart_part r u v numbers) parts made d lt))
    (part_low r is u v ltu ltv numbers are d lt)

-- and tells the parts between the poles
pub table-ArePoleParts : (r : System) → IsRotation r → (u v : ℕ) (numbers parts : List ℕ)
    → AreNumbered (Connected (pairs_between r u v)) r.vertices numbers → u < r.vertices → v < r.vertices
    → IsBond (graph_of r) u v → parts ≡ values (darts r) (dart_part r u v numbers)
    → (number : ℕ → ℕ) × ArePoleParts r u v number (slice_index parts)
table-ArePoleParts r is u v numbers parts are ltu ltv bond made = (
  slice_index numbers,
  ArePoleParts-agree r is u v (slice_index numbers) (dart_part r u v numbers) (slice_index parts)
      (values_told (darts r) (dart_part r u v numbers) parts made)
      (ArePoleParts-numbers r is u v ltu ltv numbers are bond),
)

-- where all edges of u end at v, these are the poles of a bond
pub straight-IsBond : (r : System) → IsRotation r → (u v : ℕ) → u ≢ v
    → ((d : ℕ) → d < darts r → vertex_of r d ≡ u → vertex_of r (twin d) ≡ v) → IsBond (graph_of r) u v
straight-IsBond r is u v differ straight = record {
  differ = differ;
  no_loop = λ e c same. differ (sym same ∙ to e c);
  one_each = λ e f ce cf ne joined. absurd (ne (to e ce));
  reach = λ e c ne. absurd (ne (to e c));
}
  where
    to : (e : ℕ) → Contains (edges_at (graph_of r) u) e → far (graph_of r) u e ≡ v
    to e c =
        let k : (d : ℕ) × IsDartOf r u d × (d / 2 ≡ e) = edge_dart r is u e c in
        ap (far (graph_of r) u) (sym k.2)
        ∙ subst (λ x. far (graph_of r) x (k.0 / 2) ≡ vertex_of r (twin k.0)) k.1.stands (dart_far r is k.0 k.1.within)
        ∙ straight k.0 k.1.within k.1.stands
