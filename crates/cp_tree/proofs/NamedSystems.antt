-- The rotation system of a graph with names is flat exactly where the step from each dart to the next in the list of
-- its
-- vertex is: vertices without edges, and where the lists begin, make no difference.
use Rattle.std.proofs.Common.{◌≡◌, ◌≢◌, ℕ, ◌*◌, ◌/◌, ◌%◌, ◌<◌, ◌↔◌, cond, eqb, List, [], ◌∷◌, length, map, slice_index, sym, refl, ap, ◌∙◌, subst, ⊎_elim, arith}
use Rattle.std.specs.List.{All, Contains, flat_map}
use Rattle.std.specs.List.Sorted.{IsStrictlyIncreasing}
use Rattle.std.proofs.lemmas.Bool.{cases_eq, cond-false, cond-true, eq-eqb, eqb-true, ne_eqb, or_left, or_right}
use Rattle.std.proofs.lemmas.List.{get_or_default, get_or-map}
use Rattle.std.proofs.lemmas.List.Elements.{All-contains}
use Rattle.std.proofs.lemmas.List.Sorted.{Contains-permutation}
use Rattle.cp_lists.specs.CyclicLists.{Distinct, Has, follow}
use Rattle.cp_lists.specs.Turns.{IsTurn}
use Rattle.cp_lists.proofs.DistinctLists.{Exactly-Distinct, Exactly-Has, Has-Contains}
use Rattle.cp_lists.proofs.MappedLists.{Has-map_on}
use Rattle.cp_lists.proofs.TurnedLists.{turn-follow, turn-map}
use Rattle.cp_orbits.specs.Orbits.{Permutes}
use Rattle.cp_conn.specs.NamedGraphs.{NamedGraph, edges_at, rank}
use Rattle.cp_conn.proofs.NamedGraphs.{Contains-edges_at, rank_at, rank_is}
use Rattle.cp_rot.specs.Genus.{HasGenusZero}
use Rattle.cp_rot.specs.Systems.{IsRotation, System, darts, edges, list_of, next, vertex_of}
use Rattle.cp_rot.proofs.Functions.{Turns-system, next-follow}
use Rattle.cp_maps.specs.Genus.{IsFlat}
use Rattle.cp_maps.proofs.FlatMaps.{IsFlat-agree}
use Rattle.cp_maplaw.proofs.Systems.{system_flat}
use Rattle.cp_board.specs.Rotations.{ArrangesEdges, dart, system}
use Rattle.cp_sync.proofs.NumberedGraphs.{IsRotation-system}
use Rattle.cp_embed.proofs.BoardBlocks.{rising_distinct}

-- the end of its edge at which a dart stands
abbrev pub end_of : NamedGraph → ℕ → ℕ
end_of g d =
    cond (eqb (d % 2) 0) (g.ends (slice_index g.edges (d / 2))).0 (g.ends (slice_index g.edges (d / 2))).1

-- the dart behind a dart in the list of the end at which it stands
abbrev pub turn_of : NamedGraph → (ℕ → List ℕ) → ℕ → ℕ
turn_of g s d = follow (map (dart g (end_of g d)) (s (end_of g d))) d

-- two numbers for each item
length-two_each : (f : ℕ → ℕ × ℕ) (es : List ℕ) → length (flat_map (λ e. (f e).0 ∷ (f e).1 ∷ []) es) ≡ 2 * length es
length-two_each f [] = refl
length-two_each f (e ∷ es) = let rest = length-two_each f es in omega (arith, rest)

-- a graph without loops whose names rise
module _ (g : NamedGraph) (verts_rise : IsStrictlyIncreasing g.verts) (edges_rise : IsStrictlyIncreasing g.edges)
    (live : (e : ℕ) → Contains g.edges e → Contains g.verts (g.ends e).0 × Contains g.verts (g.ends e).1)
    (differ : (e : ℕ) → Contains g.edges e → (g.ends e).0 ≢ (g.ends e).1) where
  -- how many edges it has
  abbrev n : ℕ
  n = length g.edges

  -- the edge of a dart
  abbrev edge : ℕ → ℕ
  edge d = slice_index g.edges (d / 2)

  -- is one of the graph
  edge-live : (d : ℕ) → d < 2 * n → Contains g.edges (edge d)
  edge-live d lt =
      let within : d / 2 < n = omega (arith, lt) in
      (d / 2, within, get_or_default g.edges (d / 2) (edge d) 0 within)

  -- its place is half of the dart
  edge-rank : (d : ℕ) → d < 2 * n → rank g.edges (edge d) ≡ d / 2
  edge-rank d lt =
      let within : d / 2 < n = omega (arith, lt) in
      rank_is g.edges (d / 2) (edge d) (rising_distinct g.edges edges_rise) within refl

  -- the end at which an even dart stands is the first of its edge
  end_even : (d : ℕ) → d % 2 ≡ 0 → end_of g d ≡ (g.ends (edge d)).0
  end_even d e = cond-true {A = ℕ} (eqb (d % 2) 0) (g.ends (edge d)).0 (g.ends (edge d)).1 (eq-eqb (d % 2) 0 e)

  -- and that of an odd one the second
  end_odd : (d : ℕ) → d % 2 ≢ 0 → end_of g d ≡ (g.ends (edge d)).1
  end_odd d ne = cond-false {A = ℕ} (eqb (d % 2) 0) (g.ends (edge d)).0 (g.ends (edge d)).1 (ne_eqb (d % 2) 0 ne)

  -- the end is a vertex
  pub end-live : (d : ℕ) → d < 2 * n → Contains g.verts (end_of g d)
  end-live d lt = ⊎_elim
      (λ e. subst (Contains g.verts) (sym (end_even d e)) (live (edge d) (edge-live d lt)).0)
      (λ ne. subst (Contains g.verts) (sym (end_odd d ne)) (live (edge d) (edge-live d lt)).1)
      (cases_eq (d % 2) 0)

  -- the edge is one of this vertex
  pub edge-at_end : (d : ℕ) → d < 2 * n → Contains (edges_at g (end_of g d)) (edge d)
  edge-at_end d lt = Contains-edges_at g (end_of g d) (edge d) (edge-live d lt)
      (⊎_elim
      (λ e. or_left (eqb (g.ends (edge d)).0 (end_of g d)) (eqb (g.ends (edge d)).1 (end_of g d))
      (eq-eqb (g.ends (edge d)).0 (end_of g d) (sym (end_even d e))))
      (λ ne. or_right (eqb (g.ends (edge d)).0 (end_of g d)) (eqb (g.ends (edge d)).1 (end_of g d))
      (eq-eqb (g.ends (edge d)).1 (end_of g d) (sym (end_odd d ne))))
      (cases_eq (d % 2) 0))

  -- the dart of this edge at this vertex is the dart
  pub dart-back : (d : ℕ) → d < 2 * n → dart g (end_of g d) (edge d) ≡ d
  dart-back d lt = ⊎_elim
      (λ e.
      let bit = cond-true {A = ℕ} (eqb (g.ends (edge d)).0 (end_of g d)) 0 1
      (eq-eqb (g.ends (edge d)).0 (end_of g d) (sym (end_even d e))) in
      omega (arith, bit, edge-rank d lt, e))
      (λ ne.
      let other : (g.ends (edge d)).0 ≢ end_of g d =
      λ same. differ (edge d) (edge-live d lt) (same ∙ end_odd d ne) in
      let bit = cond-false {A = ℕ} (eqb (g.ends (edge d)).0 (end_of g d)) 0 1
      (ne_eqb (g.ends (edge d)).0 (end_of g d) other) in
      omega (arith, bit, edge-rank d lt, ne))
      (cases_eq (d % 2) 0)

  -- a list of the edges of each vertex
  module _ (s : ℕ → List ℕ) (arranged : All (λ v. ArrangesEdges g v (s v)) g.verts) where
    -- the system
    abbrev r : System
    r = system g s

    -- it is a rotation system
    pub is_rotation : IsRotation r
    is_rotation = IsRotation-system g verts_rise edges_rise live differ s arranged

    -- with two darts for each edge
    pub darts-are : darts r ≡ 2 * n
    darts-are = length-two_each (λ e. (rank g.verts (g.ends e).0, rank g.verts (g.ends e).1)) g.edges

    -- so many edges
    pub edges-are : edges r ≡ n
    edges-are = let h = darts-are in omega (arith, h)

    -- its list of a vertex has the darts of the edges in the list of the vertex
    pub list-is : (v : ℕ) → Contains g.verts v → list_of r (rank g.verts v) ≡ map (dart g v) (s v)
    list-is v c =
        let at = rank_at g.verts v c in
        get_or-map (λ w. map (dart g w) (s w)) g.verts (rank g.verts v) 0 [] at.0 ∙ ap (λ w. map (dart g w) (s w)) at.1

    -- a dart is in the list of its end
    pub dart-listed : (d : ℕ) → d < 2 * n → Has d (map (dart g (end_of g d)) (s (end_of g d)))
    dart-listed d lt =
        let v = end_of g d in
        let perm = All-contains (λ w. ArrangesEdges g w (s w)) g.verts v arranged (end-live d lt) in
        subst (λ x. Has x (map (dart g v) (s v))) (dart-back d lt)
        (Has-map_on (dart g v) (edge d) (s v) ((Has-Contains (edge d) (s v)).1
        (Contains-permutation (edges_at g v) (s v) (edge d) perm (edge-at_end d lt))))

    -- it stands there
    pub stands-at : (d : ℕ) → d < 2 * n → vertex_of r d ≡ rank g.verts (end_of g d)
    stands-at d lt =
        let v = end_of g d in
        let at = rank_at g.verts v (end-live d lt) in
        let listed = subst (Has d) (sym (list-is v (end-live d lt))) (dart-listed d lt) in
        eqb-true (vertex_of r d) (rank g.verts v)
        ((Exactly-Has (darts r) (λ x. eqb (slice_index r.at x) (rank g.verts v)) (list_of r (rank g.verts v))
        (is_rotation.arranged (rank g.verts v) at.0) d).0 listed).1

    -- the list of the end repeats no dart
    pub list-Distinct : (v : ℕ) → Contains g.verts v → Distinct (map (dart g v) (s v))
    list-Distinct v c =
        let at = rank_at g.verts v c in
        subst Distinct (list-is v c)
        (Exactly-Distinct (darts r) (λ x. eqb (slice_index r.at x) (rank g.verts v)) (list_of r (rank g.verts v))
        (is_rotation.arranged (rank g.verts v) at.0))

    -- so the next dart is that behind it in this list
    next-is : (d : ℕ) → d < 2 * n → next r d ≡ turn_of g s d
    next-is d lt =
        next-follow r is_rotation d (omega (arith, lt, darts-are))
        ∙ ap (λ v. follow (list_of r v) d) (stands-at d lt)
        ∙ ap (λ xs. follow xs d) (list-is (end_of g d) (end-live d lt))

    -- the step of the system permutes the darts
    next-Permutes : Permutes (2 * n) (next r)
    next-Permutes = subst (λ m. Permutes (2 * m) (next r)) edges-are (Turns-system r is_rotation).permutes

    -- and so does that of the lists
    pub turn-Permutes : Permutes (2 * n) (turn_of g s)
    turn-Permutes = record {
      below = λ x lt. subst (λ y. y < 2 * n) (next-is x lt) (next-Permutes.below x lt);
      apart = λ x y ltx lty same. next-Permutes.apart x y ltx lty (next-is x ltx ∙ same ∙ sym (next-is y lty));
    }

    -- the system has genus zero exactly where the step of the lists is flat
    pub system-IsFlat : HasGenusZero r ↔ IsFlat n (turn_of g s)
    system-IsFlat = (
      λ z. IsFlat-agree n (next r) (turn_of g s) next-Permutes next-is
          (subst (λ m. IsFlat m (next r)) edges-are ((system_flat r is_rotation).0 z)),
      λ z. (system_flat r is_rotation).1 (subst (λ m. IsFlat m (next r)) (sym edges-are)
          (IsFlat-agree n (turn_of g s) (next r) turn-Permutes (λ d lt. sym (next-is d lt)) z)),
    )

    -- lists that are turned have the same step
    pub turned-step : (other : ℕ → List ℕ) → ((v : ℕ) → Contains g.verts v → IsTurn (s v) (other v))
        → (d : ℕ) → d < 2 * n → turn_of g s d ≡ turn_of g other d
    turned-step other turns d lt =
        let v = end_of g d in
        sym (turn-follow (map (dart g v) (s v)) (map (dart g v) (other v)) d (list-Distinct v (end-live d lt))
        (turn-map (dart g v) (s v) (other v) (turns v (end-live d lt))) (dart-listed d lt))
