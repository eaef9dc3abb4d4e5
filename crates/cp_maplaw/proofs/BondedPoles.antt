-- The two poles of a bond in a flat rotation of a graph with names mirror each other.
use Rattle.std.proofs.Common.{◌≡◌, ℕ, ◌≢◌, eqb, List, ◌∷◌, ◌++◌, sym, refl, ap, ◌∙◌, subst, inl, inr, ⊎_elim, ◌*◌, not, length, map, reverse}
use Rattle.std.proofs.lemmas.Bool.{and_from, and_parts}
use Rattle.std.specs.List.{Contains}
use Rattle.cp_lists.specs.CyclicLists.{Distinct, Has, but}
use Rattle.cp_lists.specs.Rows.{flat}
use Rattle.cp_lists.specs.Turns.{IsTurn}
use Rattle.cp_lists.proofs.DistinctLists.{Distinct-append_right, Has-append_right, Has-but, but-Distinct, but-Has, but-Lacks, has_other}
use Rattle.cp_lists.proofs.MappedLists.{map_on-Has, map_undone}
use Rattle.cp_lists.proofs.ReversedLists.{map-reverse}
use Rattle.cp_lists.proofs.TurnedLists.{turn-map}
use Rattle.cp_orbits.specs.Connected.{Connected, Joins}
use Rattle.cp_faces.specs.Twins.{twin}
use Rattle.cp_conn.specs.Bonds.{ConnectedWithout, IsAlong, IsBond}
use Rattle.cp_conn.specs.CutVertex.{avoids, without_vertex}
use Rattle.cp_conn.specs.NamedGraphs.{NamedGraph, edges_at, far, pairs}
use Rattle.cp_conn.proofs.Bonds.{ConnectedWithout-first, GoesOn-within}
use Rattle.cp_conn.proofs.CutVertices.{kept_of, kept_pair}
use Rattle.cp_conn.proofs.EqualBonds.{along_onto}
use Rattle.cp_conn.proofs.NamedGraphs.{Contains-edges_at, far_edges_at, joins_ends, joins_far, pairs_from, pairs_have}
use Rattle.cp_maps.specs.Bonds.{AreBonded}
use Rattle.cp_maps.specs.Genus.{IsFlat, OnePart}
use Rattle.cp_maps.specs.Maps.{IsMapOf, next_by}
use Rattle.cp_maps.proofs.BondedVertices.{bonded_vertices-IsTurn}
use Rattle.cp_maps.proofs.GluedVertices.{maps_agree}
use Rattle.cp_maps.proofs.MapLists.{IsMapOf-some}
use Rattle.cp_maps.proofs.NamedLists.{named_item, two_named_front}
use Rattle.cp_maplaw.specs.NamedDarts.{AreDartsOf, IsArrangedBy, dart_list}
use Rattle.cp_maplaw.proofs.NamedRests.{dart_edge, edge_dart, equal_not, not_equal, rest-OnePart, rest_dart}

-- a flat rotation of a graph with names, and a bond of equal degrees
module _ (n : ℕ) (g : NamedGraph) (dart : ℕ → ℕ → ℕ) (s : ℕ → List ℕ) (f : ℕ → ℕ) (darts : AreDartsOf g dart)
    (arr : IsArrangedBy g s) (is : IsMapOf (2 * n) f (map (dart_list dart s) g.verts)) (z : IsFlat n f) (u v : ℕ)
    (hu : Has u g.verts) (hv : Has v g.verts) (bond : IsBond g u v)
    (equal : length (edges_at g u) ≡ length (edges_at g v)) (along : ℕ → ℕ) (goes : IsAlong g u v along) where
  -- the darts of a vertex
  abbrev lists : ℕ → List ℕ
  lists = dart_list dart s

  -- all other vertices
  abbrev others : List ℕ
  others = but u (but v g.verts)

  -- their lists
  abbrev rows : List (List ℕ)
  rows = map lists others

  -- the lists with those of the poles in front
  front : IsMapOf (2 * n) f (lists u ∷ lists v ∷ rows)
  front = two_named_front (2 * n) f lists u v g.verts arr.once_verts hu hv bond.differ is

  -- the map without the poles
  abbrev rest : ℕ → ℕ
  rest = next_by rows

  -- it has their lists
  is_rest : IsMapOf (2 * n) rest rows
  is_rest =
      IsMapOf-some (2 * n) f (lists u ∷ lists v ∷ rows) rows front
      (Distinct-append_right (lists v) (flat rows) (Distinct-append_right (lists u) (lists v ++ flat rows) front.once))
      (λ d h. Has-append_right d (lists u) (lists v ++ flat rows) (Has-append_right d (lists v) (flat rows) h))

  -- no name stands twice
  once_others : Distinct others
  once_others = but-Distinct u (but v g.verts) (but-Distinct v g.verts arr.once_verts)

  -- another vertex
  other_vertex_in : (w : ℕ) → Has w g.verts → w ≢ u → w ≢ v → Has w others
  other_vertex_in w h nu nv = but-Has u w (but v g.verts) nu (but-Has v w g.verts nv h)

  -- is neither pole
  others_not : (w : ℕ) → Has w others → (w ≢ u) × (w ≢ v)
  others_not w h = (
    has_other w u others h (but-Lacks u (but v g.verts)),
    has_other w v (but v g.verts) (Has-but u w (but v g.verts) h) (but-Lacks v g.verts),
  )

  -- it is a vertex
  others_vertex : (w : ℕ) → Has w others → Has w g.verts
  others_vertex w h = Has-but v w g.verts (Has-but u w (but v g.verts) h)

  -- the far end of an edge is a vertex
  far_in : (w e : ℕ) → Contains (edges_at g w) e → Has (far g w e) g.verts
  far_in w e c = arr.ends_in (far g w e) e (far_edges_at g w e c)

  -- the dart at an end that is neither pole is in the rest
  dart_rest : (w e : ℕ) → Contains (edges_at g w) e → w ≢ u → w ≢ v → Has (dart w e) (flat rows)
  dart_rest w e c nu nv =
      named_item lists others w (dart w e) (other_vertex_in w (arr.ends_in w e c) nu nv)
      (edge_dart g dart s darts arr w e c)

  -- the pairs that touch neither pole
  abbrev es : List (ℕ × ℕ)
  es = without_vertex u (without_vertex v (pairs g))

  -- each is the pair of an edge between other vertices
  between : (p : ℕ × ℕ) → Contains es p
      → (e : ℕ) × Contains g.edges e × (g.ends e ≡ p) × Has p.0 others × Has p.1 others
  between p c =
      let a = kept_pair (avoids u) (without_vertex v (pairs g)) p c in
      let b = kept_pair (avoids v) (pairs g) p a.0 in
      let k = pairs_from g p b.0 in
      let ua = and_parts (not (eqb p.0 u)) (not (eqb p.1 u)) a.1 in
      let va = and_parts (not (eqb p.0 v)) (not (eqb p.1 v)) b.1 in
      let j : Joins (g.ends k.0) p.0 p.1 = inl (ap (λ q. q.0) k.2, ap (λ q. q.1) k.2) in
      let first : Contains (edges_at g p.0) k.0 = Contains-edges_at g p.0 k.0 k.1 (joins_ends g p.0 p.1 k.0 j) in
      let second : Contains (edges_at g p.1) k.0 =
      subst (λ w. Contains (edges_at g w) k.0) (joins_far g p.0 p.1 k.0 j) (far_edges_at g p.0 k.0 first) in (
        k.0,
        k.1,
        k.2,
        other_vertex_in p.0 (arr.ends_in p.0 k.0 first) (not_equal p.0 u ua.0) (not_equal p.0 v va.0),
        other_vertex_in p.1 (arr.ends_in p.1 k.0 second) (not_equal p.1 u ua.1) (not_equal p.1 v va.1),
      )

  -- and each of these is one
  all_between : (e : ℕ) → Contains g.edges e → Has (g.ends e).0 others → Has (g.ends e).1 others
      → Contains es (g.ends e)
  all_between e c h0 h1 =
      let a = others_not (g.ends e).0 h0 in
      let b = others_not (g.ends e).1 h1 in
      kept_of (avoids u) (without_vertex v (pairs g)) (g.ends e)
      (kept_of (avoids v) (pairs g) (g.ends e) (pairs_have g e c)
      (and_from (not (eqb (g.ends e).0 v)) (not (eqb (g.ends e).1 v)) (equal_not (g.ends e).0 v a.1)
      (equal_not (g.ends e).1 v b.1)))
      (and_from (not (eqb (g.ends e).0 u)) (not (eqb (g.ends e).1 u)) (equal_not (g.ends e).0 u a.0)
      (equal_not (g.ends e).1 u b.0))

  -- the dart as which a dart of u goes on
  abbrev onward_dart : ℕ → ℕ
  onward_dart x = dart v (along (darts.edge_of x))

  -- of the dart of an edge
  onward_is : (e : ℕ) → Contains (edges_at g u) e → onward_dart (dart u e) ≡ dart v (along e)
  onward_is e c = ap (λ k. dart v (along k)) (darts.named u e c)

  -- an edge of u goes on as an edge of v
  along_at : (e : ℕ) → Contains (edges_at g u) e → Contains (edges_at g v) (along e)
  along_at e c = GoesOn-within g u v e (along e) c (goes e c)

  -- the poles are bonded in the map
  bonded : AreBonded n onward_dart (lists u) (lists v) rows
  bonded = record {
    within = λ x h. let e = dart_edge g dart s darts arr u x hu h in
        subst (λ y. Has (onward_dart y) (lists v)) e.2
        (subst (λ y. Has y (lists v)) (sym (onward_is e.0 e.1))
        (edge_dart g dart s darts arr v (along e.0) (along_at e.0 e.1)));
    onto = λ y h.
        let k = dart_edge g dart s darts arr v y hv h in
        let e = along_onto g u v bond arr.once_edges equal along goes k.0 k.1 in
        (dart u e.0, edge_dart g dart s darts arr u e.0 e.1, onward_is e.0 e.1 ∙ ap (dart v) e.2 ∙ k.2);
    onward = λ x h.
        let e = dart_edge g dart s darts arr u x hu h in
        ⊎_elim
        (λ q. inl (ap onward_dart (sym e.2) ∙ onward_is e.0 e.1 ∙ ap (dart v) q.1 ∙ ap (λ w. dart w e.0) (sym q.0)
        ∙ darts.twins u e.0 e.1 ∙ ap twin e.2))
        (λ q. inr (through e.0 x e.1 e.2 q.0 q.1 q.2))
        (goes e.0 e.1);
    one_each = λ x y hx hy tx ty one.
        let e = dart_edge g dart s darts arr u x hu hx in
        let k = dart_edge g dart s darts arr u y hu hy in
        let wx : Has (far g u e.0) others =
        rest_dart g dart s darts arr n rest others es once_others is_rest others_vertex between all_between
        (far g u e.0) e.0 (far_edges_at g u e.0 e.1)
        (subst (λ d. Has d (flat rows)) (ap twin (sym e.2) ∙ sym (darts.twins u e.0 e.1)) tx) in
        let wy : Has (far g u k.0) others =
        rest_dart g dart s darts arr n rest others es once_others is_rest others_vertex between all_between
        (far g u k.0) k.0 (far_edges_at g u k.0 k.1)
        (subst (λ d. Has d (flat rows)) (ap twin (sym k.2) ∙ sym (darts.twins u k.0 k.1)) ty) in
        let joined : Connected es (far g u e.0) (far g u k.0) =
        (rest-OnePart g dart s darts arr n rest others es once_others is_rest others_vertex between all_between
        (far g u e.0) (far g u k.0) (twin x) (twin y) wx wy
        (subst (λ d. Has d (lists (far g u e.0))) (darts.twins u e.0 e.1 ∙ ap twin e.2)
        (edge_dart g dart s darts arr (far g u e.0) e.0 (far_edges_at g u e.0 e.1)))
        (subst (λ d. Has d (lists (far g u k.0))) (darts.twins u k.0 k.1 ∙ ap twin k.2)
        (edge_dart g dart s darts arr (far g u k.0) k.0 (far_edges_at g u k.0 k.1)))).0 one in
        sym e.2 ∙ ap (dart u) (bond.one_each e.0 k.0 e.1 k.1 (others_not (far g u e.0) wx).1 joined) ∙ k.2;
  }
    where
      through : (e x : ℕ) → Contains (edges_at g u) e → dart u e ≡ x → far g u e ≢ v
          → Contains (edges_at g v) (along e) → ConnectedWithout g u v (far g u e) (far g v (along e))
          → Has (twin x) (flat rows) × Has (twin (onward_dart x)) (flat rows)
          × OnePart n rest (twin x) (twin (onward_dart x))
      through e x c same off cv joined =
          let nu : far g u e ≢ u = arr.no_loop u e c in
          let fu : far g v (along e) ≢ u =
          λ q. nu (ConnectedWithout-first g u v (far g u e) (subst (ConnectedWithout g u v (far g u e)) q joined)) in
          let fv : far g v (along e) ≢ v = arr.no_loop v (along e) cv in
          let tx : dart (far g u e) e ≡ twin x = darts.twins u e c ∙ ap twin same in
          let on : onward_dart x ≡ dart v (along e) = ap onward_dart (sym same) ∙ onward_is e c in
          let ty : dart (far g v (along e)) (along e) ≡ twin (onward_dart x) = darts.twins v (along e) cv
          ∙ ap twin (sym on) in
          let ce : Contains (edges_at g (far g u e)) e = far_edges_at g u e c in
          let ca : Contains (edges_at g (far g v (along e))) (along e) = far_edges_at g v (along e) cv in (
            subst (λ d. Has d (flat rows)) tx (dart_rest (far g u e) e ce nu off),
            subst (λ d. Has d (flat rows)) ty (dart_rest (far g v (along e)) (along e) ca fu fv),
            (rest-OnePart g dart s darts arr n rest others es once_others is_rest others_vertex between all_between
                (far g u e) (far g v (along e)) (twin x) (twin (onward_dart x))
                (other_vertex_in (far g u e) (far_in u e c) nu off)
                (other_vertex_in (far g v (along e)) (far_in v (along e) cv) fu fv)
                (subst (λ d. Has d (lists (far g u e))) tx (edge_dart g dart s darts arr (far g u e) e ce))
                (subst (λ d. Has d (lists (far g v (along e)))) ty
                (edge_dart g dart s darts arr (far g v (along e)) (along e) ca))).1 joined,
          )

  -- the list of v is, up to a turn, the reverse of that of u, each edge in it gone on along the bond
  pub bonded_poles-IsTurn : IsTurn (reverse (map along (s u))) (s v)
  bonded_poles-IsTurn =
      let t : IsTurn (reverse (map onward_dart (lists u))) (lists v) =
      bonded_vertices-IsTurn n f onward_dart (lists u) (lists v) rows front z bonded in
      let named_v : (xs : List ℕ) → ((e : ℕ) → Has e xs → Contains (edges_at g v) e)
      → map darts.edge_of (map (dart v) xs) ≡ xs =
      λ xs each. map_undone (dart v) darts.edge_of xs (λ e h. darts.named v e (each e h)) in
      let same : map onward_dart (lists u) ≡ map (dart v) (map along (s u)) =
      maps_agree (dart u) onward_dart (λ e. dart v (along e)) (s u) (λ e h. onward_is e ((arr.arranged u e hu).0 h))
      ∙ sym (maps_agree along (dart v) (λ e. dart v (along e)) (s u) (λ e h. refl)) in
      let turned : IsTurn (map darts.edge_of (reverse (map (dart v) (map along (s u)))))
      (map darts.edge_of (lists v)) =
      turn-map darts.edge_of (reverse (map (dart v) (map along (s u)))) (lists v)
      (subst (λ zs. IsTurn (reverse zs) (lists v)) same t) in
      let first : map darts.edge_of (reverse (map (dart v) (map along (s u)))) ≡ reverse (map along (s u)) =
      map-reverse darts.edge_of (map (dart v) (map along (s u)))
      ∙ ap reverse (named_v (map along (s u))
      (λ y h. let w = map_on-Has along y (s u) h in
      subst (Contains (edges_at g v)) w.2 (along_at w.0 ((arr.arranged u w.0 hu).0 w.1)))) in
      subst (IsTurn (reverse (map along (s u)))) (named_v (s v) (λ e h. (arr.arranged v e hv).0 h))
      (subst (λ zs. IsTurn zs (map darts.edge_of (lists v))) first turned)
