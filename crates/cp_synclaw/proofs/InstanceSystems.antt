-- Lists that arrange the edges of the vertices of an instance make a rotation system.
use Rattle.std.proofs.Common.{◌≡◌, ℕ, ◌*◌, ◌<◌, ◌↔◌, List, [], length, map, get_or, sym, refl, ap, ◌∙◌, subst, arith}
use Rattle.std.specs.List.{All, Contains}
use Rattle.std.proofs.lemmas.List.{get_or-map, length-map, same_lists}
use Rattle.std.proofs.lemmas.List.Elements.{All-contains, Contains-get_or}
use Rattle.std.proofs.lemmas.List.Sorted.{IsPermutation-sym}
use Rattle.cp_lists.specs.CyclicLists.{Distinct, Has}
use Rattle.cp_lists.proofs.DistinctLists.{Has-Contains}
use Rattle.cp_lists.proofs.FilteredLists.{filter-Distinct}
use Rattle.cp_lists.proofs.MappedLists.{Distinct-map_on, Has-map_on, map_on-Has}
use Rattle.cp_conn.specs.NamedGraphs.{NamedGraph, edges_at, ends_at, rank}
use Rattle.cp_conn.proofs.NamedGraphs.{rank_at, rank_is}
use Rattle.cp_maps.specs.Maps.{IsMapOf}
use Rattle.cp_maplaw.specs.NamedDarts.{AreDartsOf, IsArrangedBy, dart_list}
use Rattle.cp_rot.specs.Rewrites.{values}
use Rattle.cp_rot.specs.Systems.{IsRotation, System, darts, edges, list_of, next, vertex_of}
use Rattle.cp_rot.proofs.ListEdits.{length-values, values_at}
use Rattle.cp_rot.proofs.ListSystems.{Listed, Listed-exact}
use Rattle.cp_rotlaw.proofs.NamedMaps.{Has-numbers, numbers-Distinct, numbers-below}
use Rattle.cp_rotlaw.proofs.PoleMaps.{IsMapOf-vertices}
use Rattle.cp_board.specs.Instances.{Synchronized, IsSynchronized, graph}
use Rattle.cp_board.specs.Rotations.{ArrangesEdges, dart, system}
use Rattle.cp_sync.specs.Numbering.{numbered_ends}
use Rattle.cp_synclaw.proofs.InstanceDarts.{dart_low, dart_of_edge, dart_stands, edges_once, far_differs, instance_darts, length-two_each, live_at, verts_once}
use Rattle.cp_lists.proofs.PermutedLists.{Distinct-IsPermutation, Has-IsPermutation}

-- an instance and lists of its vertices
module _ (i : Synchronized) (is : IsSynchronized i) (s : ℕ → List ℕ)
    (arranged : All (λ v. ArrangesEdges (graph i) v (s v)) (graph i).verts) where
  -- the graph
  abbrev g : NamedGraph
  g = graph i

  -- the system
  abbrev r : System
  r = system g s

  -- the darts
  are_darts : AreDartsOf g (dart g)
  are_darts = instance_darts i is

  -- the list of a vertex
  arranged_at : (w : ℕ) → Contains g.verts w → ArrangesEdges g w (s w)
  arranged_at w c = All-contains (λ v. ArrangesEdges g v (s v)) g.verts w arranged c

  -- has its edges
  pub listed_edge : (w e : ℕ) → Contains g.verts w → Has e (s w) ↔ Contains (edges_at g w) e
  listed_edge w e c = (
    λ h. (Has-Contains e (edges_at g w)).0
        (Has-IsPermutation e (s w) (edges_at g w) (IsPermutation-sym (edges_at g w) (s w) (arranged_at w c)) h),
    λ k. Has-IsPermutation e (edges_at g w) (s w) (arranged_at w c) ((Has-Contains e (edges_at g w)).1 k),
  )

  -- each once
  pub listed_once : (w : ℕ) → Contains g.verts w → Distinct (s w)
  listed_once w c =
      Distinct-IsPermutation (edges_at g w) (s w) (arranged_at w c)
      (filter-Distinct (ends_at g w) g.edges (edges_once i is))

  -- so the graph is arranged
  pub instance-IsArrangedBy : IsArrangedBy g s
  instance-IsArrangedBy = record {
    once_verts = verts_once i is;
    once_edges = edges_once i is;
    ends_in = λ w e c. (Has-Contains w g.verts).1 (live_at i is w e c);
    no_loop = far_differs i is;
    arranged = λ w e h. listed_edge w e ((Has-Contains w g.verts).0 h);
  }

  -- the number of darts
  pub system_darts : darts r ≡ 2 * length g.edges
  system_darts = length-two_each (numbered_ends g) g.edges

  -- the list of a vertex, as one of darts
  pub system_list : (w : ℕ) → Contains g.verts w → list_of r (rank g.verts w) ≡ map (dart g w) (s w)
  system_list w c =
      let k = rank_at g.verts w c in
      get_or-map (λ x. map (dart g x) (s x)) g.verts (rank g.verts w) 0 [] k.0
      ∙ ap (λ x. map (dart g x) (s x)) k.1

  -- the lists hold exactly the darts
  pub system-Listed : Listed r.vertices (darts r) (vertex_of r) (list_of r)
  system-Listed = record {
    placed = λ d lt. let k = dart_of_edge i is d (subst (λ n. d < n) system_darts lt) in
        subst (λ x. x < r.vertices) (sym (dart_stands i is k.0 k.1 k.2) ∙ ap (vertex_of r) k.3)
        (rank_at g.verts k.0 (live_at i is k.0 k.1 k.2)).0;
    distinct = λ x lt.
        let w : ℕ = get_or g.verts x 0 in
        let c : Contains g.verts w = Contains-get_or g.verts x 0 lt in
        subst (λ y. Distinct (list_of r y)) (rank_is g.verts x w (verts_once i is) lt refl)
        (subst Distinct (sym (system_list w c))
        (Distinct-map_on (dart g w) (s w)
        (λ e f he hf same. sym (are_darts.named w e ((listed_edge w e c).0 he)) ∙ ap are_darts.edge_of same
        ∙ are_darts.named w f ((listed_edge w f c).0 hf))
        (listed_once w c)));
    own = λ d lt.
        let k = dart_of_edge i is d (subst (λ n. d < n) system_darts lt) in
        let c : Contains g.verts k.0 = live_at i is k.0 k.1 k.2 in
        subst (λ y. Has y (list_of r (vertex_of r y))) k.3
        (subst (λ x. Has (dart g k.0 k.1) (list_of r x)) (sym (dart_stands i is k.0 k.1 k.2))
        (subst (Has (dart g k.0 k.1)) (sym (system_list k.0 c))
        (Has-map_on (dart g k.0) k.1 (s k.0) ((listed_edge k.0 k.1 c).1 k.2))));
    item = λ x d lt h.
        let w : ℕ = get_or g.verts x 0 in
        let c : Contains g.verts w = Contains-get_or g.verts x 0 lt in
        let place : rank g.verts w ≡ x = rank_is g.verts x w (verts_once i is) lt refl in
        let k = map_on-Has (dart g w) d (s w)
        (subst (Has d) (ap (list_of r) (sym place) ∙ system_list w c) h) in
        let e : Contains (edges_at g w) k.0 = (listed_edge w k.0 c).0 k.1 in
        subst (λ y. (y < darts r) × (vertex_of r y ≡ x)) k.2
        (subst (λ n. dart g w k.0 < n) (sym system_darts) (dart_low i is w k.0 e), dart_stands i is w k.0 e ∙ place);
  }

  -- it is a rotation system
  pub system-IsRotation : IsRotation r
  system-IsRotation = record {
    paired = omega (arith, system_darts);
    placed = system-Listed.placed;
    listed = length-map g.verts (λ v. map (dart g v) (s v));
    arranged = Listed-exact r.vertices (darts r) (vertex_of r) (list_of r) system-Listed;
  }

  -- the number of its edges
  pub system_edges : edges r ≡ length g.edges
  system_edges = omega (arith, system_darts)

  -- its map has the lists of the vertices
  pub system-IsMapOf : IsMapOf (2 * length g.edges) (next r) (map (dart_list (dart g) s) g.verts)
  system-IsMapOf =
      let names : List ℕ = values r.vertices (λ v. v) in
      let same : map (list_of r) names ≡ map (dart_list (dart g) s) g.verts =
      same_lists (map (list_of r) names) (map (dart_list (dart g) s) g.verts)
      (length-map names (list_of r) ∙ length-values r.vertices (λ v. v)
      ∙ sym (length-map g.verts (dart_list (dart g) s)))
      (λ k z lt.
      let low : k < length g.verts =
      omega (arith, lt, length-map names (list_of r), length-values r.vertices (λ v. v)) in
      get_or-map (list_of r) names k 0 z (omega (arith, lt, length-map names (list_of r)))
      ∙ ap (list_of r) (values_at r.vertices (λ v. v) k 0 low)
      ∙ get_or-map (dart_list (dart g) s) g.verts k 0 [] low
      ∙ sym (get_or-map (dart_list (dart g) s) g.verts k 0 z low)) in
      subst (λ n. IsMapOf (2 * n) (next r) (map (dart_list (dart g) s) g.verts)) system_edges
      (subst (IsMapOf (2 * edges r) (next r)) same
      (IsMapOf-vertices r system-IsRotation names (numbers-Distinct r.vertices) (numbers-below r.vertices)
      (Has-numbers r.vertices)))
