-- The step from each dart to the next in the list of its vertex is the map of these lists.
use Rattle.std.proofs.Common.{◌≡◌, ◌≢◌, ℕ, ◌*◌, ◌/◌, ◌<◌, List, [], ◌∷◌, length, map, sym, ap, ◌∙◌, subst, refl, inl, inr, arith}
use Rattle.std.specs.List.{All, Contains}
use Rattle.std.specs.List.Sorted.{IsStrictlyIncreasing}
use Rattle.std.proofs.lemmas.List.Elements.{All-contains}
use Rattle.std.proofs.lemmas.List.Sorted.{Contains-permutation, IsPermutation-sym}
use Rattle.cp_lists.specs.CyclicLists.{Distinct, Has, follow}
use Rattle.cp_lists.specs.Rows.{flat}
use Rattle.cp_lists.proofs.DistinctLists.{Distinct-append, Has-Contains, Lacks-from, has_lacks}
use Rattle.cp_lists.proofs.MappedLists.{map_on-Has}
use Rattle.cp_conn.specs.NamedGraphs.{NamedGraph, edges_at, rank}
use Rattle.cp_conn.proofs.NamedGraphs.{edges_at-Contains, rank_at}
use Rattle.cp_maps.specs.Maps.{IsMapOf, Rings}
use Rattle.cp_maps.proofs.ListFacts.{Below-from}
use Rattle.cp_maps.proofs.NamedLists.{named_item}
use Rattle.cp_maplaw.specs.NamedDarts.{dart_list}
use Rattle.cp_maplaw.proofs.NamedRests.{named_some}
use Rattle.cp_board.specs.Rotations.{ArrangesEdges, dart}
use Rattle.cp_embed.proofs.BoardBlocks.{rising_distinct}
use Rattle.cp_flip.proofs.FlatBlocks.{dart_half, dart_placed}
use Rattle.cp_flip.proofs.NamedSystems.{dart-listed, end-live, end_of, list-Distinct, turn_of}

-- a graph without loops whose names rise, and a list of the edges of each vertex
module _ (g : NamedGraph) (verts_rise : IsStrictlyIncreasing g.verts) (edges_rise : IsStrictlyIncreasing g.edges)
    (live : (e : ℕ) → Contains g.edges e → Contains g.verts (g.ends e).0 × Contains g.verts (g.ends e).1)
    (differ : (e : ℕ) → Contains g.edges e → (g.ends e).0 ≢ (g.ends e).1)
    (s : ℕ → List ℕ) (arranged : All (λ v. ArrangesEdges g v (s v)) g.verts) where
  -- the darts of a vertex
  abbrev lists : ℕ → List ℕ
  lists = dart_list (dart g) s

  -- a dart in the list of a vertex stands there
  dart_stands : (v d : ℕ) → Has v g.verts → Has d (lists v) → (d < 2 * length g.edges) × (end_of g d ≡ v)
  dart_stands v d live_v h =
      let f = map_on-Has (dart g v) d (s v) h in
      let perm = All-contains (λ w. ArrangesEdges g w (s w)) g.verts v arranged ((Has-Contains v g.verts).0 live_v) in
      let of_v = Contains-permutation (s v) (edges_at g v) f.0 (IsPermutation-sym (edges_at g v) (s v) perm)
      ((Has-Contains f.0 (s v)).0 f.1) in
      let at = rank_at g.edges f.0 (edges_at-Contains g v f.0 of_v).0 in
      let half : d / 2 ≡ rank g.edges f.0 = ap (λ x. x / 2) (sym f.2) ∙ dart_half g differ v f.0 in
      (omega (arith, half, at.0), ap (end_of g) (sym f.2) ∙ dart_placed g differ v f.0 of_v)

  -- no dart stands twice
  lists_once : (names : List ℕ) → Distinct names → ((v : ℕ) → Has v names → Has v g.verts)
      → Distinct (flat (map lists names))
  lists_once [] once all = tt
  lists_once (v ∷ names) once all =
      Distinct-append (lists v) (flat (map lists names))
      (list-Distinct g verts_rise edges_rise live differ s arranged v ((Has-Contains v g.verts).0 (all v (inl refl))))
      (lists_once names once.1 (λ w h. all w (inr h)))
      (λ d h. Lacks-from d (flat (map lists names)) (λ k.
      let r = named_some lists names d k in
      let same : r.0 ≡ v = sym (dart_stands r.0 d (all r.0 (inr r.1)) r.2).1 ∙ (dart_stands v d (all v (inl refl)) h).1 in
      has_lacks v names (subst (λ w. Has w names) same r.1) once.0))

  -- each list is a ring
  lists_rings : (names : List ℕ) → ((v : ℕ) → Has v names → Has v g.verts) → Rings (turn_of g s) (map lists names)
  lists_rings [] all = tt
  lists_rings (v ∷ names) all = (
    record {
      distinct = list-Distinct g verts_rise edges_rise live differ s arranged v
          ((Has-Contains v g.verts).0 (all v (inl refl)));
      along = λ d h. ap (λ w. follow (lists w) d) (dart_stands v d (all v (inl refl)) h).1;
    },
    lists_rings names (λ w h. all w (inr h)),
  )

  -- the step is the map of the lists
  pub turn-IsMapOf : IsMapOf (2 * length g.edges) (turn_of g s) (map lists g.verts)
  turn-IsMapOf = record {
    once = lists_once g.verts (rising_distinct g.verts verts_rise) (λ v h. h);
    below = Below-from (2 * length g.edges) (flat (map lists g.verts)) (λ d h.
        let r = named_some lists g.verts d h in (dart_stands r.0 d r.1 r.2).0);
    rings = lists_rings g.verts (λ v h. h);
    loose = λ d lt lacks.
        let v = end_of g d in
        absurd (has_lacks d (flat (map lists g.verts))
        (named_item lists g.verts v d
        ((Has-Contains v g.verts).1 (end-live g verts_rise edges_rise live differ d lt))
        (dart-listed g verts_rise edges_rise live differ s arranged d lt)) lacks);
  }
