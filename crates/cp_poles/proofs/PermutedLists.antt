-- Lists of an instance where the parts between the poles of a bond stand in another order.
use Rattle.std.proofs.Common.{◌≡◌, ◌≢◌, ℕ, ◌/◌, ◌<◌, true, eqb, List, [], length, map, get_or, slice_index_or, sym, refl, ap, ◌∙◌, subst, arith}
use Rattle.std.specs.List.{All, Contains}
use Rattle.std.proofs.lemmas.List.{get_or-map, get_or_default, length-map, same_lists}
use Rattle.std.proofs.lemmas.List.Elements.{Contains-get_or}
use Rattle.cp_lists.specs.CyclicLists.{Distinct, Has}
use Rattle.cp_lists.proofs.DistinctLists.{Exactly-from, Has-Contains}
use Rattle.cp_lists.proofs.FilteredLists.{filter-Distinct}
use Rattle.cp_lists.proofs.MappedLists.{Distinct-map_on, Has-map_on, map_on-Has, map_undone}
use Rattle.std.proofs.lemmas.Bool.{eq-eqb, eqb-true}
use Rattle.std.proofs.lemmas.List.Sorted.{IsPermutation-sym}
use Rattle.cp_conn.specs.Bonds.{IsBond}
use Rattle.cp_conn.specs.NamedGraphs.{NamedGraph, edges_at, ends_at, rank}
use Rattle.cp_conn.proofs.NamedGraphs.{rank_at, rank_is}
use Rattle.cp_rot.specs.Genus.{HasGenusZero}
use Rattle.cp_rot.specs.Systems.{Arranges, IsRotation, System, darts, list_of, vertex_of}
use Rattle.cp_rot.proofs.ListSystems.{Listed, Listed-system}
use Rattle.cp_rotlaw.specs.Poles.{IsPermutedAt}
use Rattle.cp_rotlaw.proofs.PermutedSystems.{HasPermuted}
use Rattle.cp_board.specs.Instances.{Synchronized, IsSynchronized, graph}
use Rattle.cp_board.specs.Rotations.{ArrangesEdges, IsRotationOf, dart, system}
use Rattle.cp_synclaw.proofs.InstanceDarts.{dart_edge, dart_low, dart_of_edge, dart_stands, edges_once, live_at, verts_once}
use Rattle.cp_synclaw.proofs.InstanceSystems.{listed_edge, system_darts, system_list, system-IsRotation}
use Rattle.cp_poles.proofs.NumberedBonds.{IsBond-numbered}
use Rattle.cp_poles.proofs.NumberedParts.{rank_one}
use Rattle.cp_poles.proofs.PermutedExists.{HasPermuted-some}
use Rattle.cp_lists.proofs.PermutedLists.{Distinct-IsPermutation, Has-IsPermutation, IsPermutation-from}
use Rattle.cp_poles.specs.Permuted.{IsReordered, edge_of_dart, listed_edges}

-- an instance, a rotation of it, and an order of the edges of a vertex
module _ (i : Synchronized) (is : IsSynchronized i) (s : ℕ → List ℕ) (rotation : IsRotationOf (graph i) s) where
  -- the graph
  abbrev g : NamedGraph
  g = graph i

  -- the system
  abbrev r : System
  r = system g s

  -- is a rotation system
  rot : IsRotation r
  rot = system-IsRotation i is s rotation.arranged

  -- the edge of the dart of an edge
  edge_back : (w e : ℕ) → Contains (edges_at g w) e → edge_of_dart g (dart g w e) ≡ e
  edge_back w e c = dart_edge i is w e c

  -- an order of edges of a vertex is one of its darts
  module _ (u : ℕ) (order : List ℕ) (cu : Contains g.verts u) (arr : ArrangesEdges g u order) where
    -- the items of the order are edges of u
    order_edge : (e : ℕ) → Has e order → Contains (edges_at g u) e
    order_edge e h =
        (Has-Contains e (edges_at g u)).0
        (Has-IsPermutation e order (edges_at g u) (IsPermutation-sym (edges_at g u) order arr) h)

    -- and each edge of the vertex is in it
    edge_order : (e : ℕ) → Contains (edges_at g u) e → Has e order
    edge_order e c = Has-IsPermutation e (edges_at g u) order arr ((Has-Contains e (edges_at g u)).1 c)

    -- each edge stands once in it
    order_once : Distinct order
    order_once = Distinct-IsPermutation (edges_at g u) order arr
        (filter-Distinct (ends_at g u) g.edges (edges_once i is))

    -- the darts
    pub order_darts : Arranges r.at (rank g.verts u) (map (dart g u) order)
    order_darts = Exactly-from (darts r) (λ d. eqb (vertex_of r d) (rank g.verts u)) (map (dart g u) order)
        (Distinct-map_on (dart g u) order
        (λ e f he hf same. sym (edge_back u e (order_edge e he)) ∙ ap (edge_of_dart g) same
        ∙ edge_back u f (order_edge f hf))
        order_once)
        (λ d h.
        let k = map_on-Has (dart g u) d order h in
        let c : Contains (edges_at g u) k.0 = order_edge k.0 k.1 in
        subst (λ x. (x < darts r) × (eqb (vertex_of r x) (rank g.verts u) ≡ true)) k.2 (
          subst (λ n. dart g u k.0 < n) (sym (system_darts i is s rotation.arranged)) (dart_low i is u k.0 c),
          eq-eqb (vertex_of r (dart g u k.0)) (rank g.verts u) (dart_stands i is u k.0 c),
        ))
        (λ d lt t.
        let k = dart_of_edge i is d (subst (λ n. d < n) (system_darts i is s rotation.arranged) lt) in
        let place : rank g.verts k.0 ≡ rank g.verts u =
        sym (dart_stands i is k.0 k.1 k.2) ∙ ap (vertex_of r) k.3 ∙ eqb-true (vertex_of r d) (rank g.verts u) t in
        let at : k.0 ≡ u = rank_one g.verts k.0 u (live_at i is k.0 k.1 k.2) cu place in
        subst (λ x. Has x (map (dart g u) order)) (ap (λ w. dart g w k.1) (sym at) ∙ k.3)
        (Has-map_on (dart g u) k.1 order
        (edge_order k.1 (subst (λ w. Contains (edges_at g w) k.1) at k.2))))

    -- the order of the darts gives the order of the edges
    pub order_named : map (edge_of_dart g) (map (dart g u) order) ≡ order
    order_named = map_undone (dart g u) (edge_of_dart g) order (λ e h. edge_back u e (order_edge e h))

    -- a system that is permuted at u and v
    module _ (v : ℕ) (cv : Contains g.verts v) (t : System) (rot_t : IsRotation t)
        (made : IsPermutedAt r (rank g.verts u) (rank g.verts v) (map (dart g u) order) t)
        (flat : HasGenusZero t) where
      -- its lists
      listed : Listed t.vertices (darts t) (vertex_of t) (list_of t)
      listed = Listed-system t rot_t

      -- the place of a vertex is one
      place_low : (w : ℕ) → Contains g.verts w → rank g.verts w < t.vertices
      place_low w c = subst (λ n. rank g.verts w < n) (sym made.vertices) (rank_at g.verts w c).0

      -- its darts stand where those of the instance do
      dart_there : (w d : ℕ) → Contains g.verts w → Has d (list_of t (rank g.verts w))
          → (e : ℕ) × Contains (edges_at g w) e × (dart g w e ≡ d)
      dart_there w d c h =
          let l = listed.item (rank g.verts w) d (place_low w c) h in
          let lt : d < darts r = subst (λ xs. d < length xs) made.at l.0 in
          let k = dart_of_edge i is d (subst (λ n. d < n) (system_darts i is s rotation.arranged) lt) in
          let place : rank g.verts k.0 ≡ rank g.verts w =
          sym (dart_stands i is k.0 k.1 k.2) ∙ ap (vertex_of r) k.3
          ∙ subst (λ xs. slice_index_or xs d 0 ≡ rank g.verts w) made.at l.1 in
          let at : k.0 ≡ w = rank_one g.verts k.0 w (live_at i is k.0 k.1 k.2) c place in
          (k.1, subst (λ x. Contains (edges_at g x) k.1) at k.2, ap (λ x. dart g x k.1) (sym at) ∙ k.3)

      -- so they have edges
      pub listed_low : (w : ℕ) → Contains g.verts w
          → All (λ d. d / 2 < length g.edges) (list_of t (rank g.verts w))
      listed_low w c k d lt =
          let x : ℕ = slice_index_or (list_of t (rank g.verts w)) k d in
          let h : Has x (list_of t (rank g.verts w)) =
          (Has-Contains x (list_of t (rank g.verts w))).1 (Contains-get_or (list_of t (rank g.verts w)) k d lt) in
          let l = listed.item (rank g.verts w) x (place_low w c) h in
          let low : x < darts r = subst (λ xs. x < length xs) made.at l.0 in
          omega (arith, low, system_darts i is s rotation.arranged)

      -- and each has its place
      there_dart : (w e : ℕ) → Contains (edges_at g w) e → Has (dart g w e) (list_of t (rank g.verts w))
      there_dart w e c =
          let low : dart g w e < darts r =
          subst (λ n. dart g w e < n) (sym (system_darts i is s rotation.arranged)) (dart_low i is w e c) in
          subst (λ x. Has (dart g w e) (list_of t x))
          (ap (λ xs. slice_index_or xs (dart g w e) 0) made.at ∙ dart_stands i is w e c)
          (listed.own (dart g w e) (subst (λ xs. dart g w e < length xs) (sym made.at) low))

      -- the edges of a list of darts give these darts
      darts_back : (w : ℕ) → Contains g.verts w
          → map (dart g w) (listed_edges g t w) ≡ list_of t (rank g.verts w)
      darts_back w c = map_undone (edge_of_dart g) (dart g w) (list_of t (rank g.verts w))
          (λ d h. let k = dart_there w d c h in
          ap (λ x. dart g w (edge_of_dart g x)) (sym k.2) ∙ ap (dart g w) (edge_back w k.0 k.1) ∙ k.2)

      -- each list arranges the edges of its vertex
      listed_arranged : (w : ℕ) → Contains g.verts w → ArrangesEdges g w (listed_edges g t w)
      listed_arranged w c = IsPermutation-from (edges_at g w) (listed_edges g t w)
          (filter-Distinct (ends_at g w) g.edges (edges_once i is))
          (Distinct-map_on (edge_of_dart g) (list_of t (rank g.verts w))
          (λ d b hd hb same.
          let k = dart_there w d c hd in
          let l = dart_there w b c hb in
          sym k.2 ∙ ap (dart g w) (sym (edge_back w k.0 k.1) ∙ ap (edge_of_dart g) k.2 ∙ same
          ∙ ap (edge_of_dart g) (sym l.2) ∙ edge_back w l.0 l.1) ∙ l.2)
          (listed.distinct (rank g.verts w) (place_low w c)))
          (λ e h.
          let k : Contains (edges_at g w) e = (Has-Contains e (edges_at g w)).0 h in
          subst (λ x. Has x (listed_edges g t w)) (edge_back w e k)
          (Has-map_on (edge_of_dart g) (dart g w e) (list_of t (rank g.verts w)) (there_dart w e k)))
          (λ e h.
          let m = map_on-Has (edge_of_dart g) e (list_of t (rank g.verts w)) h in
          let k = dart_there w m.0 c m.1 in
          (Has-Contains e (edges_at g w)).1
          (subst (Contains (edges_at g w)) (sym (edge_back w k.0 k.1) ∙ ap (edge_of_dart g) k.2 ∙ m.2) k.1))

      -- the list of u is the order
      pub listed-first : listed_edges g t u ≡ order
      listed-first = ap (map (edge_of_dart g)) made.first ∙ order_named

      -- other lists stay
      pub listed-other : (w : ℕ) → Contains g.verts w → w ≢ u → w ≢ v → listed_edges g t w ≡ s w
      listed-other w c nu nv =
          ap (map (edge_of_dart g))
          (made.others (rank g.verts w) (rank_at g.verts w c).0 (λ e. nu (rank_one g.verts w u c cu e))
          (λ e. nv (rank_one g.verts w v c cv e))
          ∙ system_list i is s rotation.arranged w c)
          ∙ map_undone (dart g w) (edge_of_dart g) (s w)
          (λ e h. edge_back w e ((listed_edge i is s rotation.arranged w e c).0 h))

      -- lists that are these at the vertices are a rotation
      pub listed-IsRotationOf : (s' : ℕ → List ℕ) → ((w : ℕ) → Contains g.verts w → s' w ≡ listed_edges g t w)
          → IsRotationOf g s'
      listed-IsRotationOf s' same = record {
        arranged = λ k d lt.
            let w : ℕ = slice_index_or g.verts k d in
            let c : Contains g.verts w = Contains-get_or g.verts k d lt in
            subst (ArrangesEdges g w) (sym (same w c)) (listed_arranged w c);
        flat = subst HasGenusZero (sym whole) flat;
      }
        where
          lists_same : (system g s').lists ≡ t.lists
          lists_same = same_lists (map (λ v. map (dart g v) (s' v)) g.verts) t.lists
              (length-map g.verts (λ v. map (dart g v) (s' v)) ∙ sym made.vertices ∙ sym rot_t.listed)
              (λ k z lt.
              let low : k < length g.verts = omega (arith, lt, length-map g.verts (λ v. map (dart g v) (s' v))) in
              let w : ℕ = get_or g.verts k 0 in
              let c : Contains g.verts w = Contains-get_or g.verts k 0 low in
              let place : rank g.verts w ≡ k = rank_is g.verts k w (verts_once i is) low refl in
              let within : k < length t.lists = omega (arith, low, made.vertices, rot_t.listed) in
              get_or-map (λ v. map (dart g v) (s' v)) g.verts k 0 z low
              ∙ ap (map (dart g w)) (same w c) ∙ darts_back w c ∙ ap (list_of t) place
              ∙ get_or_default t.lists k [] z within)

          whole : system g s' ≡ t
          whole =
              ap (λ n. record { vertices = n; at = r.at; lists = (system g s').lists }) (sym made.vertices)
              ∙ ap (λ xs. record { vertices = t.vertices; at = xs; lists = (system g s').lists }) (sym made.at)
              ∙ ap (λ xs. record { vertices = t.vertices; at = t.at; lists = xs }) lists_same

-- there are such
pub IsReordered-some : (i : Synchronized) → IsSynchronized i → (s : ℕ → List ℕ) → IsRotationOf (graph i) s
    → (u v : ℕ) → Contains (graph i).verts u → Contains (graph i).verts v → IsBond (graph i) u v → (order : List ℕ)
    → ArrangesEdges (graph i) u order → (s' : ℕ → List ℕ) × IsReordered (graph i) s u v order s'
IsReordered-some i is s rotation u v cu cv bond order arr =
    let g : NamedGraph = graph i in
    let r : System = system g s in
    let rot : IsRotation r = system-IsRotation i is s rotation.arranged in
    let h : (t : System) × HasPermuted r (rank g.verts u) (rank g.verts v) (map (dart g u) order) t =
    HasPermuted-some r rot (rank g.verts u) (rank g.verts v) (rank_at g.verts u cu).0 (rank_at g.verts v cv).0
    (IsBond-numbered i is s rotation.arranged u v cu cv bond) (map (dart g u) order)
    (order_darts i is s rotation u order cu arr) rotation.flat in (
      listed_edges g h.0,
      record {
        rotation = listed-IsRotationOf i is s rotation u order cu arr v cv h.0 h.1.rotation h.1.made h.1.genus
            (listed_edges g h.0) (λ w c. refl);
        first = listed-first i is s rotation u order cu arr v cv h.0 h.1.rotation h.1.made h.1.genus;
        others = listed-other i is s rotation u order cu arr v cv h.0 h.1.rotation h.1.made h.1.genus;
      },
    )
