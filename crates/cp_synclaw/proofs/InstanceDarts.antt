-- The graph of an instance: its edges end at two different vertices, and each edge has two darts.
use Rattle.std.proofs.Common.{◌≡◌, ◌≢◌, ◌⊎◌, ℕ, zero, suc, ◌+◌, ◌*◌, ◌/◌, ◌%◌, ◌<◌, eqb, List, [], ◌∷◌, length, get_or, slice_index, slice_index_or, sym, refl, ap, ◌∙◌, subst, inl, inr, ⊎_elim, arith}
use Rattle.std.specs.List.{Contains, flat_map}
use Rattle.std.specs.Option.{option_map_or}
use Rattle.std.proofs.lemmas.Bool.{cases_eq, cond-false, cond-true, eq-eqb, ne_eqb}
use Rattle.std.proofs.lemmas.List.{get_or_default, get_or-map, length-map}
use Rattle.std.proofs.lemmas.List.Elements.{Contains-get_or}
use Rattle.cp_lists.specs.CyclicLists.{Distinct}
use Rattle.cp_orbits.specs.Connected.{Joins}
use Rattle.cp_faces.proofs.Twins.{twin_even, twin_odd}
use Rattle.cp_conn.specs.NamedGraphs.{NamedGraph, edges_at, far, rank}
use Rattle.cp_conn.proofs.DartChains.{Joins-sym}
use Rattle.cp_conn.proofs.NamedGraphs.{Contains-edges_at, edges_at-Contains, far_edges_at, far_joins, joins_ends, rank_at, rank_is}
use Rattle.cp_maplaw.specs.NamedDarts.{AreDartsOf}
use Rattle.cp_board.specs.declared.parts.EdgeRow.{EdgeRow}
use Rattle.cp_board.specs.Instances.{Synchronized, IsSynchronized, edge_names, graph, vert_names}
use Rattle.cp_board.specs.Rotations.{dart}
use Rattle.cp_board.proofs.NamedLists.{found_at, rises_from}
use Rattle.cp_board.proofs.NumberOfNewNames.{Distinct-from_rises}
use Rattle.cp_sync.specs.Numbering.{numbered_ends}

-- two numbers for each edge
abbrev pub two_each : (ℕ → ℕ × ℕ) → List ℕ → List ℕ
two_each f es = flat_map (λ e. (f e).0 ∷ (f e).1 ∷ []) es

-- there are twice as many numbers as edges
pub length-two_each : (f : ℕ → ℕ × ℕ) (es : List ℕ) → length (two_each f es) ≡ 2 * length es
length-two_each f [] = refl
length-two_each f (e ∷ es) = omega (arith, length-two_each f es)

-- the first number of the edge at a place
pub two_each-first : (f : ℕ → ℕ × ℕ) (es : List ℕ) (k : ℕ) → k < length es
    → slice_index (two_each f es) (2 * k) ≡ (f (slice_index es k)).0
two_each-first f [] k lt = absurd (omega (arith, lt))
two_each-first f (e ∷ es) zero lt = refl
two_each-first f (e ∷ es) (suc k) lt =
    ap (slice_index (two_each f (e ∷ es))) (let h : 2 * suc k ≡ suc (suc (2 * k)) = omega arith in h)
    ∙ two_each-first f es k (omega (arith, lt))

-- and the second
pub two_each-second : (f : ℕ → ℕ × ℕ) (es : List ℕ) (k : ℕ) → k < length es
    → slice_index (two_each f es) (2 * k + 1) ≡ (f (slice_index es k)).1
two_each-second f [] k lt = absurd (omega (arith, lt))
two_each-second f (e ∷ es) zero lt = refl
two_each-second f (e ∷ es) (suc k) lt =
    ap (slice_index (two_each f (e ∷ es))) (let h : 2 * suc k + 1 ≡ suc (suc (2 * k + 1)) = omega arith in h)
    ∙ two_each-second f es k (omega (arith, lt))

-- an instance that keeps the rules
module _ (i : Synchronized) (is : IsSynchronized i) where
  -- its graph
  abbrev g : NamedGraph
  g = graph i

  -- no name of a vertex stands twice
  pub verts_once : Distinct g.verts
  verts_once = Distinct-from_rises (vert_names i) (rises_from (vert_names i) is.verts_named.rise)

  -- no name of an edge stands twice
  pub edges_once : Distinct g.edges
  edges_once = Distinct-from_rises (edge_names i) (rises_from (edge_names i) is.edges_named.rise)

  -- the ends of a live edge are two different live vertices
  pub live_ends : (e : ℕ) → Contains g.edges e
      → Contains g.verts (g.ends e).0 × Contains g.verts (g.ends e).1 × ((g.ends e).0 ≢ (g.ends e).1)
  live_ends e c =
      let z : EdgeRow = record { name = 0; a = 0; b = 0 } in
      let row : EdgeRow = slice_index_or i.edges c.0 z in
      let within : c.0 < length i.edges = omega (arith, c.1, length-map i.edges (λ (x : EdgeRow). x.name)) in
      let named : row.name ≡ e =
      sym (get_or-map (λ (x : EdgeRow). x.name) i.edges c.0 z 0 within) ∙ get_or_default (edge_names i) c.0 0 e c.1
      ∙ c.2 in
      let found = found_at (λ (x : EdgeRow). x.name) i.edges c.0 z
      (rises_from (edge_names i) is.edges_named.rise) within in
      let ends : (row.a, row.b) ≡ g.ends e =
      sym (ap (λ o. option_map_or (λ (x : EdgeRow). (x.a, x.b)) o (0, 0)) found) ∙ ap g.ends named in
      subst (λ (x : ℕ × ℕ). Contains g.verts x.0 × Contains g.verts x.1 × (x.0 ≢ x.1)) ends
      ((is.ends_live c.0 z within).0, (is.ends_live c.0 z within).1, is.ends_differ c.0 z within)

  -- an edge of a vertex ends there and at its far end
  pub edge_joins : (w e : ℕ) → Contains (edges_at g w) e → Joins (g.ends e) w (far g w e)
  edge_joins w e c = far_joins g w e (edges_at-Contains g w e c).1

  -- where edges end there are vertices
  pub live_at : (w e : ℕ) → Contains (edges_at g w) e → Contains g.verts w
  live_at w e c =
      let l = live_ends e (edges_at-Contains g w e c).0 in
      ⊎_elim (λ j. subst (Contains g.verts) j.0 l.0) (λ j. subst (Contains g.verts) j.1 l.1) (edge_joins w e c)

  -- also at the far ends
  pub live_far : (w e : ℕ) → Contains (edges_at g w) e → Contains g.verts (far g w e)
  live_far w e c = live_at (far g w e) e (far_edges_at g w e c)

  -- no edge is a loop
  pub far_differs : (w e : ℕ) → Contains (edges_at g w) e → far g w e ≢ w
  far_differs w e c loop =
      let l = live_ends e (edges_at-Contains g w e c).0 in
      ⊎_elim (λ j. l.2 (j.0 ∙ sym loop ∙ sym j.1)) (λ j. l.2 (j.0 ∙ loop ∙ sym j.1)) (edge_joins w e c)

  -- how many edges there are
  abbrev m : ℕ
  m = length g.edges

  -- the vertices of the darts
  abbrev at : List ℕ
  at = two_each (numbered_ends g) g.edges

  -- the name of the vertex at which a dart stands
  abbrev vertex_named : ℕ → ℕ
  vertex_named d = get_or g.verts (slice_index at d) 0

  -- the edge of a dart
  abbrev edge_named : ℕ → ℕ
  edge_named d = get_or g.edges (d / 2) 0

  -- the name at the place of a vertex is that of the vertex
  vertex_at : (w : ℕ) → Contains g.verts w → get_or g.verts (rank g.verts w) 0 ≡ w
  vertex_at w c = (rank_at g.verts w c).1

  -- an edge has the name at its place
  edge_at : (e : ℕ) → Contains g.edges e → get_or g.edges (rank g.edges e) 0 ≡ e
  edge_at e c = (rank_at g.edges e c).1

  -- the dart of an edge at its first end is the even one
  dart_first : (w e : ℕ) → (g.ends e).0 ≡ w → dart g w e ≡ 2 * rank g.edges e
  dart_first w e same =
      let bit = cond-true {A = ℕ} (eqb (g.ends e).0 w) 0 1 (eq-eqb (g.ends e).0 w same) in omega (arith, bit)

  -- the dart at the second end of an edge
  dart_second : (w e : ℕ) → (g.ends e).0 ≢ w → dart g w e ≡ 2 * rank g.edges e + 1
  dart_second w e ne =
      let bit = cond-false {A = ℕ} (eqb (g.ends e).0 w) 0 1 (ne_eqb (g.ends e).0 w ne) in omega (arith, bit)

  -- an edge of a vertex starts there, or it starts elsewhere and ends there
  end_cases : (w e : ℕ) → Contains (edges_at g w) e
      → (((g.ends e).0 ≡ w) × ((g.ends e).1 ≡ far g w e)) ⊎ (((g.ends e).0 ≢ w) × ((g.ends e).0 ≡ far g w e)
      × ((g.ends e).1 ≡ w))
  end_cases w e c = ⊎_elim
      (λ j. inl j)
      (λ j. inr ((λ same. far_differs w e c (sym j.0 ∙ same)), j.0, j.1))
      (edge_joins w e c)

  -- the dart of an edge at one of its ends is below the number of darts
  pub dart_low : (w e : ℕ) → Contains (edges_at g w) e → dart g w e < 2 * m
  dart_low w e c =
      let lt = (rank_at g.edges e (edges_at-Contains g w e c).0).0 in
      ⊎_elim (λ h. omega (arith, dart_first w e h.0, lt)) (λ h. omega (arith, dart_second w e h.0, lt))
      (end_cases w e c)

  -- a dart stands at its vertex
  pub dart_stands : (w e : ℕ) → Contains (edges_at g w) e → slice_index at (dart g w e) ≡ rank g.verts w
  dart_stands w e c =
      let k = rank_at g.edges e (edges_at-Contains g w e c).0 in
      ⊎_elim
      (λ h. ap (slice_index at) (dart_first w e h.0) ∙ two_each-first (numbered_ends g) g.edges (rank g.edges e) k.0
      ∙ ap (λ f. rank g.verts (g.ends f).0) k.1 ∙ ap (rank g.verts) h.0)
      (λ h. ap (slice_index at) (dart_second w e h.0) ∙ two_each-second (numbered_ends g) g.edges (rank g.edges e) k.0
      ∙ ap (λ f. rank g.verts (g.ends f).1) k.1 ∙ ap (rank g.verts) h.2)
      (end_cases w e c)

  -- half of a dart is the place of its edge
  dart_half : (w e : ℕ) → Contains (edges_at g w) e → dart g w e / 2 ≡ rank g.edges e
  dart_half w e c =
      ⊎_elim (λ h. omega (arith, dart_first w e h.0)) (λ h. omega (arith, dart_second w e h.0)) (end_cases w e c)

  -- the edge of a dart has the name at its place
  pub dart_edge : (w e : ℕ) → Contains (edges_at g w) e → get_or g.edges (dart g w e / 2) 0 ≡ e
  dart_edge w e c =
      ap (λ k. get_or g.edges k 0) (dart_half w e c) ∙ edge_at e (edges_at-Contains g w e c).0

  -- each dart is that of an edge at a vertex
  pub dart_of_edge : (d : ℕ) → d < 2 * m → (w : ℕ) × (e : ℕ) × Contains (edges_at g w) e × (dart g w e ≡ d)
  dart_of_edge d lt =
      let k : ℕ = d / 2 in
      let low : k < m = omega (arith, lt) in
      let e : ℕ = get_or g.edges k 0 in
      let c : Contains g.edges e = Contains-get_or g.edges k 0 low in
      let place : rank g.edges e ≡ k = rank_is g.edges k e edges_once low refl in
      let joins : Joins (g.ends e) (g.ends e).0 (g.ends e).1 = inl (refl, refl) in
      ⊎_elim
      (λ even. (
        (g.ends e).0,
        e,
        Contains-edges_at g (g.ends e).0 e c (joins_ends g (g.ends e).0 (g.ends e).1 e joins),
        dart_first (g.ends e).0 e refl ∙ (let h : 2 * rank g.edges e ≡ d = omega (arith, place, even) in h),
      ))
      (λ odd. (
        (g.ends e).1,
        e,
        Contains-edges_at g (g.ends e).1 e c (joins_ends g (g.ends e).1 (g.ends e).0 e
            (Joins-sym (g.ends e) (g.ends e).0 (g.ends e).1 joins)),
        dart_second (g.ends e).1 e (live_ends e c).2
            ∙ (let h : 2 * rank g.edges e + 1 ≡ d = omega (arith, place, odd) in h),
      ))
      (cases_eq (d % 2) 0)

  -- the darts are those of the edges at their ends
  pub instance_darts : AreDartsOf g (dart g)
  instance_darts = record {
    at = vertex_named;
    edge_of = edge_named;
    placed = λ w e c. ap (λ k. get_or g.verts k 0) (dart_stands w e c) ∙ vertex_at w (live_at w e c);
    named = dart_edge;
    twins = λ w e c. ⊎_elim
        (λ h.
        let other : (g.ends e).0 ≢ far g w e = λ same. far_differs w e c (sym same ∙ h.0) in
        let even : dart g w e % 2 ≡ 0 = omega (arith, dart_first w e h.0) in
        let t = twin_even (dart g w e) even in
        omega (arith, t, dart_first w e h.0, dart_second (far g w e) e other))
        (λ h.
        let odd : dart g w e % 2 ≡ 0 → ⊥ = λ even. omega (arith, dart_second w e h.0, even) in
        let t = twin_odd (dart g w e) odd in
        omega (arith, t, dart_second w e h.0, dart_first (far g w e) e h.1))
        (end_cases w e c);
  }
