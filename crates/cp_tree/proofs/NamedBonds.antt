-- A bond of the numbered graph is one by names.
use Rattle.std.proofs.Common.{◌≡◌, ◌≢◌, ℕ, ◌<◌, ◌↔◌, true, not, eqb, List, length, map, get_or, slice_index, sym, refl, ap, ◌∙◌, subst, inl, inr, ⊎_elim, arith}
use Rattle.std.specs.Prelude.{slice_index_or}
use Rattle.std.specs.List.{Contains, range_with_len}
use Rattle.std.proofs.lemmas.Bool.{and_parts, eq-eqb, false≢true}
use Rattle.std.proofs.lemmas.List.{get_or-map, get_or_default, length-map, same_lists}
use Rattle.std.proofs.lemmas.List.FromFn.{get_or-map-range_with_len, length-map-range_with_len}
use Rattle.std.proofs.lemmas.List.Elements.{Contains-get_or}
use Rattle.cp_lists.specs.CyclicLists.{Distinct}
use Rattle.cp_lists.proofs.DistinctLists.{Has-Contains}
use Rattle.cp_orbits.specs.Connected.{Connected, Joins, here, step}
use Rattle.cp_conn.specs.Bonds.{ConnectedWithout, IsBond}
use Rattle.cp_conn.specs.CutVertex.{avoids, without_vertex}
use Rattle.cp_conn.specs.NamedGraphs.{NamedGraph, edges_at, far, pairs, rank}
use Rattle.cp_conn.proofs.CutVertices.{avoids_of, kept_of, kept_pair}
use Rattle.cp_conn.proofs.NamedGraphs.{Contains-edges_at, edges_at-Contains, far_edges_at, far_joins, joins_ends, joins_far, map_from, map_has, pairs_from, pairs_have, rank_at, rank_is}
use Rattle.cp_sync.specs.Numbering.{numbered, numbered_ends}
use Rattle.cp_embed.specs.Bonds.{as_named}
use Rattle.cp_tree.proofs.BlockRotations.{rank_one}
use Rattle.cp_tree.proofs.RoundEdges.{range-Has}

-- what is not equal by its test is different
not_equal : (m n : ℕ) → not (eqb m n) ≡ true → m ≢ n
not_equal m n t e = false≢true (sym (ap not (eq-eqb m n e)) ∙ t)

-- a walk is taken to a walk
Connected-mapped : (h : ℕ → ℕ) (es fs : List (ℕ × ℕ)) (x y : ℕ)
    → ((e : ℕ × ℕ) → Contains es e → Contains fs (h e.0, h e.1)) → Connected es x y → Connected fs (h x) (h y)
Connected-mapped h es fs x y each here = here
Connected-mapped h es fs x y each (step {y = w} q e c j) =
    step (Connected-mapped h es fs x w each q) (h e.0, h e.1) (each e c)
    (⊎_elim (λ k. inl (ap h k.0, ap h k.1)) (λ k. inr (ap h k.0, ap h k.1)) j)

-- a pair that avoids a vertex does not touch it
avoids_both : (w : ℕ) (p : ℕ × ℕ) → avoids w p ≡ true → (p.0 ≢ w) × (p.1 ≢ w)
avoids_both w p t =
    let both = and_parts (not (eqb p.0 w)) (not (eqb p.1 w)) t in (not_equal p.0 w both.0, not_equal p.1 w both.1)

-- a graph whose edges end at vertices
module _ (g : NamedGraph)
    (live : (e : ℕ) → Contains g.edges e → Contains g.verts (g.ends e).0 × Contains g.verts (g.ends e).1) (u v : ℕ)
    (cu : Contains g.verts u) (cv : Contains g.verts v) where
  -- the place of a name
  abbrev pub place : ℕ → ℕ
  place = rank g.verts

  -- the name at a place
  abbrev pub name : ℕ → ℕ
  name k = get_or g.verts k 0

  -- the pairs of ends without those at u or v
  abbrev pub named_pairs : List (ℕ × ℕ)
  named_pairs = without_vertex u (without_vertex v (pairs g))

  -- the pairs of places of the ends, without those at the places of u or v
  abbrev pub placed_pairs : List (ℕ × ℕ)
  placed_pairs = without_vertex (place u) (without_vertex (place v) (map (numbered_ends g) g.edges))

  -- names at one place are equal
  one_place : (x w : ℕ) → Contains g.verts x → Contains g.verts w → place x ≡ place w → x ≡ w
  one_place x w cx cw e = rank_one g.verts x w cx cw e

  -- the places of a pair between
  placed_pair : (p : ℕ × ℕ) → Contains named_pairs p → Contains placed_pairs (place p.0, place p.1)
  placed_pair p c =
      let a = kept_pair (avoids u) (without_vertex v (pairs g)) p c in
      let b = kept_pair (avoids v) (pairs g) p a.0 in
      let k = pairs_from g p b.0 in
      let l = subst (λ (q : ℕ × ℕ). Contains g.verts q.0 × Contains g.verts q.1) k.2 (live k.0 k.1) in
      let of_u = avoids_both u p a.1 in
      let of_v = avoids_both v p b.1 in
      let q : ℕ × ℕ = (place p.0, place p.1) in
      let there : Contains (map (numbered_ends g) g.edges) q =
      subst (Contains (map (numbered_ends g) g.edges)) (ap (λ (x : ℕ × ℕ). (place x.0, place x.1)) k.2)
      (map_has (numbered_ends g) g.edges k.0 k.1) in
      kept_of (avoids (place u)) (without_vertex (place v) (map (numbered_ends g) g.edges)) q
      (kept_of (avoids (place v)) (map (numbered_ends g) g.edges) q there
      (avoids_of (place v) q (λ e. of_v.0 (one_place p.0 v l.0 cv e)) (λ e. of_v.1 (one_place p.1 v l.1 cv e))))
      (avoids_of (place u) q (λ e. of_u.0 (one_place p.0 u l.0 cu e)) (λ e. of_u.1 (one_place p.1 u l.1 cu e)))

  -- the names of a pair of places
  named_pair : (q : ℕ × ℕ) → Contains placed_pairs q → Contains named_pairs (name q.0, name q.1)
  named_pair q c =
      let a = kept_pair (avoids (place u)) (without_vertex (place v) (map (numbered_ends g) g.edges)) q c in
      let b = kept_pair (avoids (place v)) (map (numbered_ends g) g.edges) q a.0 in
      let k = map_from (numbered_ends g) g.edges q b.0 in
      let l = live k.0 k.1 in
      let first : place (g.ends k.0).0 ≡ q.0 = ap (λ (x : ℕ × ℕ). x.0) k.2 in
      let second : place (g.ends k.0).1 ≡ q.1 = ap (λ (x : ℕ × ℕ). x.1) k.2 in
      let one : (g.ends k.0).0 ≡ name q.0 = sym (rank_at g.verts (g.ends k.0).0 l.0).1 ∙ ap name first in
      let two : (g.ends k.0).1 ≡ name q.1 = sym (rank_at g.verts (g.ends k.0).1 l.1).1 ∙ ap name second in
      let of_u = avoids_both (place u) q a.1 in
      let of_v = avoids_both (place v) q b.1 in
      let there : Contains named_pairs (g.ends k.0) =
      kept_of (avoids u) (without_vertex v (pairs g)) (g.ends k.0)
      (kept_of (avoids v) (pairs g) (g.ends k.0) (pairs_have g k.0 k.1)
      (avoids_of v (g.ends k.0) (λ e. of_v.0 (sym first ∙ ap place e)) (λ e. of_v.1 (sym second ∙ ap place e))))
      (avoids_of u (g.ends k.0) (λ e. of_u.0 (sym first ∙ ap place e)) (λ e. of_u.1 (sym second ∙ ap place e))) in
      subst (λ (x : ℕ). Contains named_pairs (x, name q.1)) one
      (subst (λ (x : ℕ). Contains named_pairs ((g.ends k.0).0, x)) two there)

  -- two names are connected exactly where their places are
  pub places_connected : (x y : ℕ) → Contains g.verts x → Contains g.verts y
      → Connected placed_pairs (place x) (place y) ↔ ConnectedWithout g u v x y
  places_connected x y cx cy = (
    λ c. subst (λ (a : ℕ). Connected named_pairs a y) (rank_at g.verts x cx).1
        (subst (λ (a : ℕ). Connected named_pairs (name (place x)) a) (rank_at g.verts y cy).1
        (Connected-mapped name placed_pairs named_pairs (place x) (place y) named_pair c)),
    λ c. Connected-mapped place named_pairs placed_pairs x y placed_pair c,
  )

-- a graph with names whose edges join different vertices, and its numbered graph
module _ (g : NamedGraph) (verts_once : Distinct g.verts) (edges_once : Distinct g.edges)
    (live : (e : ℕ) → Contains g.edges e → Contains g.verts (g.ends e).0 × Contains g.verts (g.ends e).1)
    (differ : (e : ℕ) → Contains g.edges e → (g.ends e).0 ≢ (g.ends e).1) where
  -- the numbered graph
  abbrev G : NamedGraph
  G = as_named (numbered g)

  -- the place of a vertex
  abbrev at : ℕ → ℕ
  at w = rank g.verts w

  -- the place of an edge
  abbrev nth : ℕ → ℕ
  nth e = rank g.edges e

  -- there are as many numbers as edges
  size : length (numbered g).ends ≡ length g.edges
  size = length-map g.edges (numbered_ends g)

  -- a number below is an edge of the numbered graph
  number_live : (k : ℕ) → k < length g.edges → Contains G.edges k
  number_live k lt = (Has-Contains k G.edges).0 ((range-Has k 0 (length (numbered g).ends)).1 (
    omega arith,
    omega
        (arith, lt, size),
  ))

  -- and only such numbers are
  live_number : (k : ℕ) → Contains G.edges k → k < length g.edges
  live_number k c = let w = (range-Has k 0 (length (numbered g).ends)).0 ((Has-Contains k G.edges).1 c) in omega
      (arith, w.1, size)

  -- the ends of the edge of a number
  ends_nth : (k : ℕ) → k < length g.edges → G.ends k ≡ numbered_ends g (slice_index g.edges k)
  ends_nth k lt = get_or-map (numbered_ends g) g.edges k 0 (0, 0) lt

  -- the pairs of ends
  pairs_numbered : pairs G ≡ map (numbered_ends g) g.edges
  pairs_numbered = ends_listed (numbered g).ends
    where
      ends_listed : (es : List (ℕ × ℕ)) → map (λ k. slice_index_or es k (0, 0)) (range_with_len 0 (length es)) ≡ es
      ends_listed es =
          let f : ℕ → ℕ × ℕ = λ k. slice_index_or es k (0, 0) in
          let long = length-map-range_with_len f 0 (length es) in
          same_lists (map f (range_with_len 0 (length es))) es long (λ k z lt.
          let within : k < length es = omega (arith, lt, long) in
          get_or-map-range_with_len f 0 (length es) k k z within (omega arith) ∙ get_or_default es k (0, 0) z within)

  -- an end of an edge is a vertex
  live_at : (w e : ℕ) → Contains (edges_at g w) e → Contains g.verts w
  live_at w e c =
      let h = edges_at-Contains g w e c in
      let l = live e h.0 in
      ⊎_elim (λ j. subst (Contains g.verts) j.0 l.0) (λ j. subst (Contains g.verts) j.1 l.1) (far_joins g w e h.1)

  -- so is its far end
  live_far : (w e : ℕ) → Contains (edges_at g w) e → Contains g.verts (far g w e)
  live_far w e c = live_at (far g w e) e (far_edges_at g w e c)

  -- an edge of a vertex is one by numbers, with the far end by its number
  edge_forth : (w e : ℕ) → Contains (edges_at g w) e
      → Contains (edges_at G (at w)) (nth e) × (far G (at w) (nth e) ≡ at (far g w e))
  edge_forth w e c =
      let h = edges_at-Contains g w e c in
      let k = rank_at g.edges e h.0 in
      let is_at : G.ends (nth e) ≡ numbered_ends g e = ends_nth (nth e) k.0 ∙ ap (numbered_ends g) k.1 in
      let joins : Joins (G.ends (nth e)) (at w) (at (far g w e)) =
      subst (λ (p : ℕ × ℕ). Joins p (at w) (at (far g w e))) (sym is_at)
      (⊎_elim (λ j. inl (ap at j.0, ap at j.1)) (λ j. inr (ap at j.0, ap at j.1)) (far_joins g w e h.1)) in (
        Contains-edges_at G (at w) (nth e) (number_live (nth e) k.0)
            (joins_ends G (at w) (at (far g w e)) (nth e) joins),
        joins_far G (at w) (at (far g w e)) (nth e) joins,
      )

  -- each edge of the number of a vertex is one of these
  edge_back : (w n : ℕ) → Contains g.verts w → Contains (edges_at G (at w)) n
      → (e : ℕ) × Contains (edges_at g w) e × (nth e ≡ n)
  edge_back w n cw c =
      let h = edges_at-Contains G (at w) n c in
      let low = live_number n h.0 in
      let e : ℕ = slice_index g.edges n in
      let there : Contains g.edges e = Contains-get_or g.edges n 0 low in
      let ends = live e there in
      let joins : Joins (numbered_ends g e) (at w) (far G (at w) n) =
      subst (λ (p : ℕ × ℕ). Joins p (at w) (far G (at w) n)) (ends_nth n low) (far_joins G (at w) n h.1) in
      let named : (x : ℕ) × Joins (g.ends e) w x =
      ⊎_elim
      (λ j. ((g.ends e).1, inl (rank_one g.verts (g.ends e).0 w ends.0 cw j.0, refl)))
      (λ j. ((g.ends e).0, inr (refl, rank_one g.verts (g.ends e).1 w ends.1 cw j.1)))
      joins in (
        e,
        Contains-edges_at g w e there (joins_ends g w named.0 e named.1),
        rank_is g.edges n e edges_once low refl,
      )

  -- connection by numbers is connection by names
  connected_numbers : (u v x y : ℕ) → Contains g.verts u → Contains g.verts v → Contains g.verts x → Contains g.verts y
      → ConnectedWithout G (at u) (at v) (at x) (at y) ↔ ConnectedWithout g u v x y
  connected_numbers u v x y cu cv cx cy =
      subst (λ (es : List (ℕ × ℕ)). Connected (without_vertex (at u) (without_vertex (at v) es)) (at x) (at y)
      ↔ ConnectedWithout g u v x y) (sym pairs_numbered)
      (places_connected g live u v cu cv x y cx cy)

  -- a bond by numbers is a bond
  pub IsBond-named : (u v : ℕ) → Contains g.verts u → Contains g.verts v → IsBond G (at u) (at v) → IsBond g u v
  IsBond-named u v cu cv bond = record {
    differ = λ same. bond.differ (ap at same);
    no_loop = λ e c same.
        bond.no_loop (nth e) (edge_forth u e c).0 ((edge_forth u e c).1 ∙ ap at same);
    one_each = λ e f ce cf off joined.
        let a = edge_forth u e ce in
        let b = edge_forth u f cf in
        let one : nth e ≡ nth f = bond.one_each (nth e) (nth f) a.0 b.0
        (λ same. off (rank_one g.verts (far g u e) v (live_far u e ce) cv (sym a.1 ∙ same)))
        (subst (λ (x : ℕ). ConnectedWithout G (at u) (at v) x (far G (at u) (nth f))) (sym a.1)
        (subst (λ (x : ℕ). ConnectedWithout G (at u) (at v) (at (far g u e)) x) (sym b.1)
        ((connected_numbers u v (far g u e) (far g u f) cu cv (live_far u e ce) (live_far u f cf)).1 joined))) in
        rank_one g.edges e f (edges_at-Contains g u e ce).0 (edges_at-Contains g u f cf).0 one;
    reach = λ e c off.
        let a = edge_forth u e c in
        let to = bond.reach (nth e) a.0
        (λ same. off (rank_one g.verts (far g u e) v (live_far u e c) cv (sym a.1 ∙ same))) in
        let f = edge_back v to.0 cv to.1 in
        let b = edge_forth v f.0 f.1 in (
          f.0,
          f.1,
          (connected_numbers u v (far g u e) (far g v f.0) cu cv (live_far u e c) (live_far v f.0 f.1)).0
              (subst (λ (x : ℕ). ConnectedWithout G (at u) (at v) x (at (far g v f.0))) a.1
              (subst (λ (x : ℕ). ConnectedWithout G (at u) (at v) (far G (at u) (nth e)) x)
              (ap (far G (at v)) (sym f.2) ∙ b.1) to.2)),
        );
  }
