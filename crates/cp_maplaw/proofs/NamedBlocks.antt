-- The blocks of a graph with names are blocks by the darts of its map.
use Rattle.std.proofs.Common.{◌≡◌, ℕ, ◌<◌, ◌≢◌, eqb, List, [], ◌∷◌, ◌++◌, sym, refl, ap, ◌∙◌, subst, inl, inr, ⊎_elim, suc, ◌*◌, arith, not, length, map, ap₂, ◌↔◌}
use Rattle.std.proofs.lemmas.Bool.{and_from, and_parts}
use Rattle.std.proofs.lemmas.List.{map-append}
use Rattle.std.specs.List.{Contains, filter}
use Rattle.cp_lists.specs.CyclicLists.{Distinct, Has, Lacks}
use Rattle.cp_lists.proofs.DistinctLists.{Distinct-less, Distinct-middle, Has-append_cases, Has-append_left, Has-append_right, Lacks-from, has_other}
use Rattle.cp_orbits.specs.Connected.{Joins}
use Rattle.cp_faces.specs.Twins.{twin}
use Rattle.cp_conn.specs.Blocks.{HaveNoLoop}
use Rattle.cp_conn.specs.CutVertex.{avoids, without_vertex}
use Rattle.cp_conn.specs.NamedGraphs.{InOneBlock, NamedGraph, edges_at, far, pairs, rank}
use Rattle.cp_conn.proofs.CutBlocks.{parts_are_blocks}
use Rattle.cp_conn.proofs.CutVertices.{kept_of, kept_pair}
use Rattle.cp_conn.proofs.NamedGraphs.{Contains-edges_at, edges_at-Contains, far_edges_at, joins_ends, joins_far, pair_joins, pair_of_edge, pairs_from, pairs_have}
use Rattle.cp_maps.specs.Blocks.{AreBlocks, NoneCross}
use Rattle.cp_maps.specs.Genus.{CanBeFlat, IsFlat, OnePart}
use Rattle.cp_maps.specs.Maps.{IsMapOf, next_by}
use Rattle.cp_maps.proofs.GenusByBlocks.{blocks-IsFlat, without_list}
use Rattle.cp_maps.proofs.NamedLists.{named_item}
use Rattle.cp_maplaw.specs.NamedDarts.{AreDartsOf, IsArrangedBy, dart_list}
use Rattle.cp_maplaw.proofs.NamedRests.{dart_edge, edge_dart, equal_not, named_some, not_equal, rest-OnePart}

-- the first of some lists
abbrev first_or : List ℕ → List (List ℕ) → List ℕ
first_or xs [] = xs
first_or xs (ys ∷ rows) = ys

-- all but the first
abbrev others_of : List (List ℕ) → List (List ℕ)
others_of [] = []
others_of (ys ∷ rows) = rows

-- a list among those of names is that of a name
list_of_name : (lists : ℕ → List ℕ) (names : List ℕ) (before : List (List ℕ)) (xs : List ℕ) (behind : List (List ℕ))
    → map lists names ≡ before ++ xs ∷ behind
    → (ns : List ℕ) × (w : ℕ) × (ms : List ℕ) × (names ≡ ns ++ w ∷ ms) × (before ≡ map lists ns) × (xs ≡ lists w)
    × (behind ≡ map lists ms)
list_of_name lists [] [] xs behind e = let size : 0 ≡ suc (length behind) = ap length e in absurd (omega arith)
list_of_name lists [] (ys ∷ before) xs behind e = let size : 0 ≡ suc (length (before ++ xs ∷ behind)) = ap length e in
    absurd (omega arith)
list_of_name lists (w ∷ names) [] xs behind e =
    ([], w, names, refl, refl, sym (ap (first_or (lists w)) e), sym (ap others_of e))
list_of_name lists (w ∷ names) (ys ∷ before) xs behind e =
    let r = list_of_name lists names before xs behind (ap others_of e) in
    (w ∷ r.0, r.1, r.2, ap (λ ns. w ∷ ns) r.3, ap₂ (λ zs zss. zs ∷ zss) (sym (ap (first_or (lists w)) e)) r.4, r.5, r.6)

-- a flat rotation of a graph with names without loops, and numbers of the blocks of its edges
module _ (n : ℕ) (g : NamedGraph) (dart : ℕ → ℕ → ℕ) (s : ℕ → List ℕ) (f : ℕ → ℕ) (darts : AreDartsOf g dart)
    (arr : IsArrangedBy g s) (is : IsMapOf (2 * n) f (map (dart_list dart s) g.verts)) (none : HaveNoLoop (pairs g))
    (number class : ℕ → ℕ) (blocks : (e k : ℕ) → Contains g.edges e → Contains g.edges k
    → (number e ≡ number k) ↔ InOneBlock g e k) (bound : (d : ℕ) → d < 2 * n → class d < 2 * n)
    (twins : (d : ℕ) → d < 2 * n → class (twin d) ≡ class d)
    (numbered : (w e : ℕ) → Contains (edges_at g w) e → class (dart w e) ≡ number e) where
  -- the darts of a vertex
  abbrev lists : ℕ → List ℕ
  lists = dart_list dart s

  -- one vertex and the others
  module _ (ns : List ℕ) (w : ℕ) (ms : List ℕ) (whole : g.verts ≡ ns ++ w ∷ ms) where
    -- all others
    abbrev others : List ℕ
    others = ns ++ ms

    -- the pairs that do not touch it
    abbrev es : List (ℕ × ℕ)
    es = without_vertex w (pairs g)

    -- all are distinct
    once : Distinct (ns ++ w ∷ ms)
    once = subst Distinct whole arr.once_verts

    -- the vertex is one
    vertex_in : Has w g.verts
    vertex_in = subst (Has w) (sym whole) (Has-append_right w ns (w ∷ ms) (inl refl))

    -- another vertex is one of the others
    other_in : (x : ℕ) → Has x g.verts → x ≢ w → Has x others
    other_in x h ne = ⊎_elim
        (λ k. Has-append_left x ns ms k)
        (λ k. ⊎_elim (λ q. absurd (ne (sym q))) (λ q. Has-append_right x ns ms q) k)
        (Has-append_cases x ns (w ∷ ms) (subst (Has x) whole h))

    -- and each of the others is another vertex
    others_not : (x : ℕ) → Has x others → Has x g.verts × (x ≢ w)
    others_not x h =
        let lacking = Distinct-middle w ns ms once in
        ⊎_elim
        (λ k. (subst (Has x) (sym whole) (Has-append_left x ns (w ∷ ms) k), has_other x w ns k lacking.0))
        (λ k. (subst (Has x) (sym whole) (Has-append_right x ns (w ∷ ms) (inr k)), has_other x w ms k lacking.1))
        (Has-append_cases x ns ms h)

    -- the map of the others
    is_rest : IsMapOf (2 * n) (next_by (map lists others)) (map lists others)
    is_rest =
        let parted : IsMapOf (2 * n) f (map lists ns ++ lists w ∷ map lists ms) =
        subst (IsMapOf (2 * n) f) (ap (map lists) whole ∙ map-append lists ns (w ∷ ms)) is in
        subst (λ zs. IsMapOf (2 * n) (next_by zs) zs) (sym (map-append lists ns ms))
        (without_list n f (map lists ns) (lists w) (map lists ms) parted)

    -- each pair is that of an edge between others
    between : (p : ℕ × ℕ) → Contains es p
        → (e : ℕ) × Contains g.edges e × (g.ends e ≡ p) × Has p.0 others × Has p.1 others
    between p c =
        let a = kept_pair (avoids w) (pairs g) p c in
        let k = pairs_from g p a.0 in
        let t = and_parts (not (eqb p.0 w)) (not (eqb p.1 w)) a.1 in
        let j : Joins (g.ends k.0) p.0 p.1 = inl (ap (λ q. q.0) k.2, ap (λ q. q.1) k.2) in
        let first : Contains (edges_at g p.0) k.0 = Contains-edges_at g p.0 k.0 k.1 (joins_ends g p.0 p.1 k.0 j) in
        let second : Contains (edges_at g p.1) k.0 =
        subst (λ x. Contains (edges_at g x) k.0) (joins_far g p.0 p.1 k.0 j) (far_edges_at g p.0 k.0 first) in (
          k.0,
          k.1,
          k.2,
          other_in p.0 (arr.ends_in p.0 k.0 first) (not_equal p.0 w t.0),
          other_in p.1
              (arr.ends_in p.1 k.0 second) (not_equal p.1 w t.1),
        )

    -- and all these are pairs
    all_between : (e : ℕ) → Contains g.edges e → Has (g.ends e).0 others → Has (g.ends e).1 others
        → Contains es (g.ends e)
    all_between e c h0 h1 =
        kept_of (avoids w) (pairs g) (g.ends e) (pairs_have g e c)
        (and_from (not (eqb (g.ends e).0 w)) (not (eqb (g.ends e).1 w))
        (equal_not (g.ends e).0 w (others_not (g.ends e).0 h0).1)
        (equal_not (g.ends e).1 w (others_not (g.ends e).1 h1).1))

    -- the far end of an edge of the vertex is one of the others
    far_other : (e : ℕ) → Contains (edges_at g w) e → Has (far g w e) others
    far_other e c = other_in (far g w e) (arr.ends_in (far g w e) e (far_edges_at g w e c)) (arr.no_loop w e c)

    -- the twin of a dart of the vertex stands at the far end
    twin_there : (e d : ℕ) → Contains (edges_at g w) e → dart w e ≡ d → Has (twin d) (lists (far g w e))
    twin_there e d c same =
        subst (λ y. Has y (lists (far g w e))) (darts.twins w e c ∙ ap twin same)
        (edge_dart g dart s darts arr (far g w e) e (far_edges_at g w e c))

    -- so it does not stand at the vertex
    twin_not : (d : ℕ) → Has d (lists w) → Lacks (twin d) (lists w)
    twin_not d h = Lacks-from (twin d) (lists w) (λ k.
        let e = dart_edge g dart s darts arr w d vertex_in h in
        let q = dart_edge g dart s darts arr w (twin d) vertex_in k in
        let t : dart (far g w e.0) e.0 ≡ twin d = darts.twins w e.0 e.1 ∙ ap twin e.2 in
        arr.no_loop w e.0 e.1 (sym (darts.placed (far g w e.0) e.0 (far_edges_at g w e.0 e.1))
        ∙ ap darts.at (t ∙ sym q.2) ∙ darts.placed w q.0 q.1))

    -- at the vertex darts are of one class exactly where the rest joins their twins
    at_one : (c d : ℕ) → Has c (lists w) → Has d (lists w)
        → (class c ≡ class d) ↔ OnePart n (next_by (map lists others)) (twin c) (twin d)
    at_one c d hc hd =
        let e = dart_edge g dart s darts arr w c vertex_in hc in
        let k = dart_edge g dart s darts arr w d vertex_in hd in
        let le : Contains g.edges e.0 = (edges_at-Contains g w e.0 e.1).0 in
        let lk : Contains g.edges k.0 = (edges_at-Contains g w k.0 k.1).0 in
        let ce : class c ≡ number e.0 = ap class (sym e.2) ∙ numbered w e.0 e.1 in
        let ck : class d ≡ number k.0 = ap class (sym k.2) ∙ numbered w k.0 k.1 in
        let one =
        parts_are_blocks (pairs g) w (rank g.edges e.0) (rank g.edges k.0) (far g w e.0) (far g w k.0) none
        (pair_of_edge g e.0 le).0 (pair_of_edge g k.0 lk).0 (pair_joins g w e.0 e.1) (pair_joins g w k.0 k.1) in
        let part =
        rest-OnePart g dart s darts arr n (next_by (map lists others)) others es (Distinct-less ns w ms once) is_rest
        (λ x h. (others_not x h).0) between all_between (far g w e.0) (far g w k.0) (twin c) (twin d)
        (far_other e.0 e.1) (far_other k.0 k.1) (twin_there e.0 c e.1 e.2) (twin_there k.0 d k.1 k.2) in (
          λ same. part.1 (one.0 ((blocks e.0 k.0 le lk).0 (sym ce ∙ same ∙ ck))),
          λ p. ce ∙ (blocks e.0 k.0 le lk).1 (one.1 (part.0 p)) ∙ sym ck,
        )

  -- the blocks are blocks by darts
  pub named-AreBlocks : AreBlocks n class (map lists g.verts)
  named-AreBlocks = record {
    bound = bound;
    twins = twins;
    paired = λ d h.
        let r = named_some lists g.verts d h in
        let e = dart_edge g dart s darts arr r.0 d r.1 r.2 in
        let c : Contains (edges_at g (far g r.0 e.0)) e.0 = far_edges_at g r.0 e.0 e.1 in
        named_item lists g.verts (far g r.0 e.0) (twin d) (arr.ends_in (far g r.0 e.0) e.0 c)
        (subst (λ y. Has y (lists (far g r.0 e.0))) (darts.twins r.0 e.0 e.1 ∙ ap twin e.2)
        (edge_dart g dart s darts arr (far g r.0 e.0) e.0 c));
    no_loop = λ before xs behind whole d h.
        let r = list_of_name lists g.verts before xs behind whole in
        subst (Lacks (twin d)) (sym r.5) (twin_not r.0 r.1 r.2 r.3 d (subst (Has d) r.5 h));
    at_vertex = λ before xs behind whole c d hc hd.
        let r = list_of_name lists g.verts before xs behind whole in
        let same : map lists (r.0 ++ r.2) ≡ before ++ behind = map-append lists r.0 r.2
        ∙ sym (ap₂ (λ a b. a ++ b) r.4 r.6) in
        subst (λ zs. (class c ≡ class d) ↔ OnePart n (next_by zs) (twin c) (twin d)) same
        (at_one r.0 r.1 r.2 r.3 c d (subst (Has c) r.5 hc) (subst (Has d) r.5 hd));
  }

  -- genus by blocks: the rotation is flat exactly where that of each block is and no two blocks cross at a vertex
  pub named_blocks-IsFlat : IsFlat n f ↔
      (((c : ℕ) → c < 2 * n → CanBeFlat n (map (filter (λ d. eqb (class d) c)) (map lists g.verts)))
      × NoneCross class (map lists g.verts))
  named_blocks-IsFlat = blocks-IsFlat n f class (map lists g.verts) is named-AreBlocks
