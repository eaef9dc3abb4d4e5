-- The map of some vertices of a graph with names: its components are those of the pairs between them.
use Rattle.std.proofs.Common.{◌≡◌, ℕ, ◌≢◌, true, eqb, List, [], ◌∷◌, sym, refl, ap, ◌∙◌, subst, inl, inr, ⊎_elim, ◌*◌, not, map, ◌↔◌}
use Rattle.std.proofs.lemmas.Bool.{eq-eqb, ne_eqb, false≢true}
use Rattle.std.specs.List.{Contains}
use Rattle.cp_lists.specs.CyclicLists.{Distinct, Has}
use Rattle.cp_lists.specs.Rows.{flat}
use Rattle.cp_lists.proofs.DistinctLists.{Has-append_cases}
use Rattle.cp_lists.proofs.MappedLists.{Has-map_on, map_on-Has}
use Rattle.cp_orbits.specs.Connected.{Connected, Joins, here, step}
use Rattle.cp_faces.specs.Twins.{twin}
use Rattle.cp_conn.specs.NamedGraphs.{NamedGraph, edges_at, far}
use Rattle.cp_conn.proofs.NamedGraphs.{Contains-edges_at, edges_at-Contains, far_edges_at, far_joins, joins_ends, joins_far}
use Rattle.cp_maps.specs.Genus.{OnePart}
use Rattle.cp_maps.specs.Maps.{IsMapOf}
use Rattle.cp_maps.proofs.NamedParts.{Connected-OnePart, OnePart-Connected_names}
use Rattle.cp_maplaw.specs.NamedDarts.{AreDartsOf, IsArrangedBy, dart_list}

-- an item of lists under names is one of the list of a name
pub named_some : (lists : ℕ → List ℕ) (names : List ℕ) (d : ℕ) → Has d (flat (map lists names))
    → (w : ℕ) × Has w names × Has d (lists w)
named_some lists [] d h = absurd h
named_some lists (w ∷ names) d h = ⊎_elim
    (λ k. (w, inl refl, k))
    (λ k. let r = named_some lists names d k in (r.0, inr r.1, r.2))
    (Has-append_cases d (lists w) (flat (map lists names)) h)

-- what does not pass the negated test is another number
pub not_equal : (a b : ℕ) → not (eqb a b) ≡ true → a ≢ b
not_equal a b t e = false≢true (sym (ap not (eq-eqb a b e)) ∙ t)

-- and another number passes it
pub equal_not : (a b : ℕ) → a ≢ b → not (eqb a b) ≡ true
equal_not a b ne = ap not (ne_eqb a b ne)

-- the darts of a graph with names that is arranged
module _ (g : NamedGraph) (dart : ℕ → ℕ → ℕ) (s : ℕ → List ℕ) (darts : AreDartsOf g dart) (arr : IsArrangedBy g s) where
  -- a dart of a vertex is that of an edge
  pub dart_edge : (w d : ℕ) → Has w g.verts → Has d (dart_list dart s w)
      → (e : ℕ) × Contains (edges_at g w) e × (dart w e ≡ d)
  dart_edge w d hw h = let r = map_on-Has (dart w) d (s w) h in (r.0, (arr.arranged w r.0 hw).0 r.1, r.2)

  -- each edge of a vertex has a dart there
  pub edge_dart : (w e : ℕ) → Contains (edges_at g w) e → Has (dart w e) (dart_list dart s w)
  edge_dart w e c = Has-map_on (dart w) e (s w) ((arr.arranged w e (arr.ends_in w e c)).1 c)

  -- the map of some vertices, and the pairs between them
  module _ (n : ℕ) (h : ℕ → ℕ) (others : List ℕ) (es : List (ℕ × ℕ)) (once : Distinct others)
      (is_h : IsMapOf (2 * n) h (map (dart_list dart s) others)) (vertex : (w : ℕ) → Has w others → Has w g.verts)
      (between : (p : ℕ × ℕ) → Contains es p
      → (e : ℕ) × Contains g.edges e × (g.ends e ≡ p) × Has p.0 others × Has p.1 others)
      (all : (e : ℕ) → Contains g.edges e → Has (g.ends e).0 others → Has (g.ends e).1 others
      → Contains es (g.ends e)) where
    -- the darts of a vertex
    abbrev lists : ℕ → List ℕ
    lists = dart_list dart s

    -- a dart of an edge that is in the lists stands at one of the vertices
    pub rest_dart : (w e : ℕ) → Contains (edges_at g w) e → Has (dart w e) (flat (map lists others)) → Has w others
    rest_dart w e c k =
        let r = named_some lists others (dart w e) k in
        let q = dart_edge r.0 (dart w e) (vertex r.0 r.1) r.2 in
        subst (λ y. Has y others) (sym (darts.placed r.0 q.0 q.1) ∙ ap darts.at q.2 ∙ darts.placed w e c) r.1

    -- each pair is an edge between two of the vertices
    pair_edge : (p : ℕ × ℕ) → Contains es p
        → (x : ℕ) × Has p.0 others × Has p.1 others × Has x (lists p.0) × Has (twin x) (lists p.1)
    pair_edge p c =
        let k = between p c in
        let j : Joins (g.ends k.0) p.0 p.1 = inl (ap (λ q. q.0) k.2, ap (λ q. q.1) k.2) in
        let at_first : Contains (edges_at g p.0) k.0 = Contains-edges_at g p.0 k.0 k.1 (joins_ends g p.0 p.1 k.0 j) in
        let end : far g p.0 k.0 ≡ p.1 = joins_far g p.0 p.1 k.0 j in
        let at_second : Contains (edges_at g p.1) k.0 =
        subst (λ w. Contains (edges_at g w) k.0) end (far_edges_at g p.0 k.0 at_first) in (
          dart p.0 k.0,
          k.3,
          k.4,
          edge_dart p.0 k.0 at_first,
          subst (λ d. Has d (lists p.1)) (ap (λ w. dart w k.0) (sym end) ∙ darts.twins p.0 k.0 at_first)
              (edge_dart p.1 k.0 at_second),
        )

    -- an edge between two of the vertices is such a pair
    edge_pair : (w e : ℕ) → Contains (edges_at g w) e → Has w others → Has (far g w e) others
        → Connected es w (far g w e)
    edge_pair w e c hw hf =
        let t = edges_at-Contains g w e c in
        let j : Joins (g.ends e) w (far g w e) = far_joins g w e t.1 in
        step here (g.ends e) (all e t.0
        (⊎_elim (λ q. subst (λ y. Has y others) (sym q.0) hw) (λ q. subst (λ y. Has y others) (sym q.0) hf) j)
        (⊎_elim (λ q. subst (λ y. Has y others) (sym q.1) hf) (λ q. subst (λ y. Has y others) (sym q.1) hw) j)) j

    -- twins in the lists stand at connected vertices
    twins_connected : (d : ℕ) → Has d (flat (map lists others)) → Has (twin d) (flat (map lists others))
        → Connected es (darts.at d) (darts.at (twin d))
    twins_connected d k l =
        let r = named_some lists others d k in
        let e = dart_edge r.0 d (vertex r.0 r.1) r.2 in
        let w : ℕ = r.0 in
        let t : dart (far g w e.0) e.0 ≡ twin d = darts.twins w e.0 e.1 ∙ ap twin e.2 in
        let c : Contains (edges_at g (far g w e.0)) e.0 = far_edges_at g w e.0 e.1 in
        let hf : Has (far g w e.0) others =
        rest_dart (far g w e.0) e.0 c (subst (λ y. Has y (flat (map lists others))) (sym t) l) in
        subst (λ y. Connected es y (darts.at (twin d))) (sym (darts.placed w e.0 e.1) ∙ ap darts.at e.2)
        (subst (λ y. Connected es w y) (sym (darts.placed (far g w e.0) e.0 c) ∙ ap darts.at t)
        (edge_pair w e.0 e.1 r.1 hf))

    -- a dart stands at its vertex
    rest_placed : (w d : ℕ) → Has w others → Has d (lists w) → darts.at d ≡ w
    rest_placed w d hw k = let e = dart_edge w d (vertex w hw) k in ap darts.at (sym e.2) ∙ darts.placed w e.0 e.1

    -- the components of the map are those of the pairs
    pub rest-OnePart : (w x c d : ℕ) → Has w others → Has x others → Has c (lists w) → Has d (lists x)
        → OnePart n h c d ↔ Connected es w x
    rest-OnePart w x c d hw hx hc hd = (
      OnePart-Connected_names n h lists others es is_h once darts.at rest_placed twins_connected w x c d hw hx hc hd,
      λ joined. Connected-OnePart n h lists others es is_h once pair_edge w x joined c d hw hc hd,
    )
