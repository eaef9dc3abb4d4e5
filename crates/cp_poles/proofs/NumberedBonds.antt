-- A bond of two vertices of an instance is one of the numbered graph of its rotation system.
use Rattle.std.proofs.Common.{◌≡◌, ℕ, ◌<◌, ◌↔◌, List, length, map, slice_index, sym, refl, ap, ap₂, ◌∙◌, subst, inl, inr, ⊎_elim, arith}
use Rattle.std.specs.List.{All, Contains}
use Rattle.std.proofs.lemmas.List.{get_or-map, length-map, same_lists}
use Rattle.std.proofs.lemmas.List.Elements.{Contains-get_or}
use Rattle.cp_lists.proofs.DistinctLists.{Has-Contains}
use Rattle.cp_orbits.specs.Connected.{Connected, Joins}
use Rattle.cp_conn.specs.Bonds.{ConnectedWithout, IsBond}
use Rattle.cp_conn.specs.CutVertex.{without_vertex}
use Rattle.cp_conn.specs.NamedGraphs.{NamedGraph, edges_at, far, pairs, rank}
use Rattle.cp_conn.proofs.NamedGraphs.{Contains-edges_at, edges_at-Contains, far_joins, joins_ends, joins_far, rank_at, rank_is}
use Rattle.cp_rot.specs.Systems.{System, edges}
use Rattle.cp_rot.proofs.ListEdits.{length-values, values_at}
use Rattle.cp_rotlaw.specs.Poles.{graph_of}
use Rattle.cp_rotlaw.proofs.NamedMaps.{Has-numbers, numbers-below}
use Rattle.cp_board.specs.Instances.{Synchronized, IsSynchronized, graph}
use Rattle.cp_board.specs.Rotations.{ArrangesEdges, system}
use Rattle.cp_sync.specs.Numbering.{numbered_ends}
use Rattle.cp_synclaw.proofs.InstanceDarts.{edge_joins, edges_once, live_ends, live_far, two_each-first, two_each-second}
use Rattle.cp_synclaw.proofs.InstanceSystems.{system_edges}
use Rattle.cp_poles.proofs.NumberedParts.{places_connected, rank_one}

-- an instance and lists of its vertices
module _ (i : Synchronized) (is : IsSynchronized i) (s : ℕ → List ℕ)
    (arranged : All (λ v. ArrangesEdges (graph i) v (s v)) (graph i).verts) where
  -- the graph of the instance
  abbrev g : NamedGraph
  g = graph i

  -- its rotation system
  abbrev r : System
  r = system g s

  -- the graph of the system, by numbers
  abbrev G : NamedGraph
  G = graph_of r

  -- the place of the name of a vertex
  abbrev at : ℕ → ℕ
  at w = rank g.verts w

  -- the place of an edge
  abbrev nth : ℕ → ℕ
  nth e = rank g.edges e

  -- the number of edges
  size : edges r ≡ length g.edges
  size = system_edges i is s arranged

  -- the ends of the edge of a number
  ends_nth : (k : ℕ) → k < length g.edges → G.ends k ≡ numbered_ends g (slice_index g.edges k)
  ends_nth k lt =
      ap₂ (λ (a b : ℕ). (a, b)) (two_each-first (numbered_ends g) g.edges k lt)
      (two_each-second (numbered_ends g) g.edges k lt)

  -- of an edge by its name
  ends_named : (e : ℕ) → Contains g.edges e → G.ends (nth e) ≡ numbered_ends g e
  ends_named e c =
      let k = rank_at g.edges e c in
      ends_nth (nth e) k.0 ∙ ap (numbered_ends g) k.1

  -- the pairs of ends
  pairs_numbered : pairs G ≡ map (numbered_ends g) g.edges
  pairs_numbered = same_lists (pairs G) (map (numbered_ends g) g.edges)
      (length-map G.edges G.ends ∙ length-values (edges r) (λ e. e) ∙ size ∙ sym (length-map g.edges (numbered_ends g)))
      (λ k z lt.
      let few : k < edges r = omega (arith, lt, length-map G.edges G.ends, length-values (edges r) (λ e. e)) in
      let low : k < length g.edges = omega (arith, few, size) in
      get_or-map G.ends G.edges k 0 z (omega (arith, lt, length-map G.edges G.ends))
      ∙ ap G.ends (values_at (edges r) (λ e. e) k 0 few) ∙ ends_nth k low
      ∙ sym (get_or-map (numbered_ends g) g.edges k 0 z low))

  -- an edge of a vertex is one by numbers, with the far end by its number
  edge_forth : (w e : ℕ) → Contains (edges_at g w) e
      → Contains (edges_at G (at w)) (nth e) × (far G (at w) (nth e) ≡ at (far g w e))
  edge_forth w e c =
      let live : Contains g.edges e = (edges_at-Contains g w e c).0 in
      let k = rank_at g.edges e live in
      let is_at = ends_named e live in
      let joins : Joins (G.ends (nth e)) (at w) (at (far g w e)) =
      subst (λ (p : ℕ × ℕ). Joins p (at w) (at (far g w e))) (sym is_at)
      (⊎_elim (λ j. inl (ap at j.0, ap at j.1)) (λ j. inr (ap at j.0, ap at j.1)) (edge_joins i is w e c)) in (
        Contains-edges_at G (at w) (nth e)
            ((Has-Contains (nth e) G.edges).0 (Has-numbers (edges r) (nth e) (omega (arith, k.0, size))))
            (joins_ends G (at w) (at (far g w e)) (nth e) joins),
        joins_far G (at w) (at (far g w e)) (nth e) joins,
      )

  -- each edge of the number of a vertex is one of these
  edge_back : (w n : ℕ) → Contains g.verts w → Contains (edges_at G (at w)) n
      → (e : ℕ) × Contains (edges_at g w) e × (nth e ≡ n)
  edge_back w n cw c =
      let h = edges_at-Contains G (at w) n c in
      let few : n < edges r = numbers-below (edges r) n ((Has-Contains n G.edges).1 h.0) in
      let low : n < length g.edges = omega (arith, few, size) in
      let e : ℕ = slice_index g.edges n in
      let live : Contains g.edges e = Contains-get_or g.edges n 0 low in
      let ends = live_ends i is e live in
      let joins : Joins (numbered_ends g e) (at w) (far G (at w) n) =
      subst (λ (p : ℕ × ℕ). Joins p (at w) (far G (at w) n)) (ends_nth n low) (far_joins G (at w) n h.1) in
      let named : (x : ℕ) × Joins (g.ends e) w x =
      ⊎_elim
      (λ j. ((g.ends e).1, inl (rank_one g.verts (g.ends e).0 w ends.0 cw j.0, refl)))
      (λ j. ((g.ends e).0, inr (refl, rank_one g.verts (g.ends e).1 w ends.1 cw j.1)))
      joins in (
        e,
        Contains-edges_at g w e live (joins_ends g w named.0 e named.1),
        rank_is g.edges n e (edges_once i is) low refl,
      )

  -- connection by numbers is connection by names
  connected_numbers : (u v x y : ℕ) → Contains g.verts u → Contains g.verts v → Contains g.verts x → Contains g.verts y
      → ConnectedWithout G (at u) (at v) (at x) (at y) ↔ ConnectedWithout g u v x y
  connected_numbers u v x y cu cv cx cy =
      subst (λ (es : List (ℕ × ℕ)). Connected (without_vertex (at u) (without_vertex (at v) es)) (at x) (at y)
      ↔ ConnectedWithout g u v x y) (sym pairs_numbered)
      (places_connected g (λ e c. let h = live_ends i is e c in (h.0, h.1)) u v cu cv x y cx cy)

  -- a bond is a bond by numbers
  pub IsBond-numbered : (u v : ℕ) → Contains g.verts u → Contains g.verts v → IsBond g u v → IsBond G (at u) (at v)
  IsBond-numbered u v cu cv bond = record {
    differ = λ same. bond.differ (rank_one g.verts u v cu cv same);
    no_loop = λ n c same.
        let e = edge_back u n cu c in
        let f = edge_forth u e.0 e.1 in
        bond.no_loop e.0 e.1 (rank_one g.verts (far g u e.0) u (live_far i is u e.0 e.1) cu
        (sym f.1 ∙ ap (far G (at u)) e.2 ∙ same));
    one_each = λ n k cn ck off joined.
        let e = edge_back u n cu cn in
        let f = edge_back u k cu ck in
        let fe : far G (at u) n ≡ at (far g u e.0) = ap (far G (at u)) (sym e.2) ∙ (edge_forth u e.0 e.1).1 in
        let ff : far G (at u) k ≡ at (far g u f.0) = ap (far G (at u)) (sym f.2) ∙ (edge_forth u f.0 f.1).1 in
        sym e.2 ∙ ap nth (bond.one_each e.0 f.0 e.1 f.1 (λ ends. off (fe ∙ ap at ends))
        ((connected_numbers u v (far g u e.0) (far g u f.0) cu cv (live_far i is u e.0 e.1)
        (live_far i is u f.0 f.1)).0
        (subst (λ (a : ℕ). ConnectedWithout G (at u) (at v) a (at (far g u f.0))) fe
        (subst (λ (a : ℕ). ConnectedWithout G (at u) (at v) (far G (at u) n) a) ff joined)))) ∙ f.2;
    reach = λ n c off.
        let e = edge_back u n cu c in
        let fe : far G (at u) n ≡ at (far g u e.0) = ap (far G (at u)) (sym e.2) ∙ (edge_forth u e.0 e.1).1 in
        let to = bond.reach e.0 e.1 (λ ends. off (fe ∙ ap at ends)) in
        let k = edge_forth v to.0 to.1 in (
          nth to.0,
          k.0,
          subst (λ (a : ℕ). ConnectedWithout G (at u) (at v) a (far G (at v) (nth to.0))) (sym fe)
              (subst (λ (a : ℕ). ConnectedWithout G (at u) (at v) (at (far g u e.0)) a) (sym k.1)
              ((connected_numbers u v (far g u e.0) (far g v to.0) cu cv (live_far i is u e.0 e.1)
              (live_far i is v to.0 to.1)).1 to.2)),
        );
  }
