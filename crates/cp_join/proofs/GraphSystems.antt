-- The rotation system of a graph whose vertices and edges have names: it has genus zero exactly where its lists of
-- darts
-- can be flat.
use Rattle.std.proofs.Common.{◌≡◌, ◌≢◌, ◌↔◌, ℕ, ◌*◌, ◌<◌, List, [], ◌∷◌, length, map, get_or, sym, refl, ap, ◌∙◌, subst, arith}
use Rattle.std.specs.List.{All, Contains, flat_map}
use Rattle.std.specs.List.Sorted.{IsStrictlyIncreasing}
use Rattle.std.proofs.lemmas.List.{get_or-map, length-map, same_lists}
use Rattle.cp_conn.specs.Blocks.{HaveNoLoop}
use Rattle.cp_conn.specs.NamedGraphs.{NamedGraph, pairs, rank}
use Rattle.cp_conn.proofs.NamedGraphs.{edge_at}
use Rattle.cp_maps.specs.Genus.{CanBeFlat, IsFlat}
use Rattle.cp_maps.specs.Maps.{IsMapOf}
use Rattle.cp_maps.proofs.FewerDarts.{CanBeFlat-IsFlat}
use Rattle.cp_maplaw.specs.NamedDarts.{dart_list}
use Rattle.cp_maplaw.proofs.Systems.{system_flat}
use Rattle.cp_rot.specs.Genus.{HasGenusZero}
use Rattle.cp_rot.specs.Rewrites.{values}
use Rattle.cp_rot.specs.Systems.{IsRotation, System, darts, edges, list_of, next}
use Rattle.cp_rot.proofs.ListEdits.{length-values, values_at}
use Rattle.cp_rotlaw.proofs.NamedMaps.{Has-numbers, numbers-Distinct, numbers-below}
use Rattle.cp_rotlaw.proofs.PoleMaps.{IsMapOf-vertices}
use Rattle.cp_board.specs.Instances.{IsSynchronized, Synchronized, graph}
use Rattle.cp_board.specs.Rotations.{ArrangesEdges, dart, system}
use Rattle.cp_sync.proofs.NumberedGraphs.{IsRotation-system}
use Rattle.cp_join.proofs.DartsBeside.{rows_of}
use Rattle.cp_join.proofs.LiveRows.{live_ends}

-- the names of the graph rise, and its edges end at two different vertices of it
pub record IsLoopless (g : NamedGraph) : Type 0 where
  pub verts_rise : IsStrictlyIncreasing g.verts
  pub edges_rise : IsStrictlyIncreasing g.edges
  pub live : (e : ℕ) → Contains g.edges e → Contains g.verts (g.ends e).0 × Contains g.verts (g.ends e).1
  pub differ : (e : ℕ) → Contains g.edges e → (g.ends e).0 ≢ (g.ends e).1

-- two numbers for each item
length-two_each : (f : ℕ → ℕ × ℕ) (es : List ℕ) → length (flat_map (λ e. (f e).0 ∷ (f e).1 ∷ []) es) ≡ 2 * length es
length-two_each f [] = refl
length-two_each f (e ∷ es) = omega (arith, length-two_each f es)

-- the system of a graph in which the edges of each vertex are arranged
module _ (g : NamedGraph) (s : ℕ → List ℕ) (is : IsRotation (system g s)) where
  -- the system
  abbrev r : System
  r = system g s

  -- it has as many edges as the graph
  system_edges : edges r ≡ length g.edges
  system_edges =
      let two : darts r ≡ 2 * length g.edges =
      length-two_each (λ e. (rank g.verts (g.ends e).0, rank g.verts (g.ends e).1)) g.edges in
      omega (arith, two)

  -- its map has the lists of the vertices
  pub system-rows : IsMapOf (2 * length g.edges) (next r) (rows_of g s)
  system-rows =
      let names : List ℕ = values r.vertices (λ v. v) in
      let same : map (list_of r) names ≡ rows_of g s =
      same_lists (map (list_of r) names) (rows_of g s)
      (length-map names (list_of r) ∙ length-values r.vertices (λ v. v)
      ∙ sym (length-map g.verts (dart_list (dart g) s)))
      (λ k z lt.
      let low : k < length g.verts =
      omega (arith, lt, length-map names (list_of r), length-values r.vertices (λ v. v)) in
      get_or-map (list_of r) names k 0 z (omega (arith, lt, length-map names (list_of r)))
      ∙ ap (list_of r) (values_at r.vertices (λ v. v) k 0 low)
      ∙ get_or-map (dart_list (dart g) s) g.verts k 0 [] low
      ∙ sym (get_or-map (dart_list (dart g) s) g.verts k 0 z low)) in
      subst (λ n. IsMapOf (2 * n) (next r) (rows_of g s)) system_edges
      (subst (IsMapOf (2 * edges r) (next r)) same
      (IsMapOf-vertices r is names (numbers-Distinct r.vertices) (numbers-below r.vertices) (Has-numbers r.vertices)))

  -- it has genus zero exactly where its lists can be flat
  pub system-CanBeFlat : HasGenusZero r ↔ CanBeFlat (length g.edges) (rows_of g s)
  system-CanBeFlat = (
    λ z. (next r, system-rows, subst (λ n. IsFlat n (next r)) system_edges ((system_flat r is).0 z)),
    λ can. (system_flat r is).1 (subst (λ n. IsFlat n (next r)) (sym system_edges)
        (CanBeFlat-IsFlat (length g.edges) (next r) (rows_of g s) system-rows can)),
  )

-- the lists of a graph without loops that arrange the edges of each vertex make such a system
pub arranged-CanBeFlat : (g : NamedGraph) → IsLoopless g → (s : ℕ → List ℕ)
    → All (λ v. ArrangesEdges g v (s v)) g.verts
    → HasGenusZero (system g s) ↔ CanBeFlat (length g.edges) (rows_of g s)
arranged-CanBeFlat g simple s arranged =
    system-CanBeFlat g s
    (IsRotation-system g simple.verts_rise simple.edges_rise simple.live simple.differ s arranged)

-- no pair of its ends is a loop
pub IsLoopless-pairs : (g : NamedGraph) → IsLoopless g → HaveNoLoop (pairs g)
IsLoopless-pairs g simple k lt same =
    let there = edge_at g k lt in
    simple.differ (get_or g.edges k 0) there.0
    (ap (λ (x : ℕ × ℕ). x.0) there.1 ∙ same ∙ sym (ap (λ (x : ℕ × ℕ). x.1) there.1))

-- the graph of an instance that keeps the rules is such a graph
pub instance-IsLoopless : (i : Synchronized) → IsSynchronized i → IsLoopless (graph i)
instance-IsLoopless i is = record {
  verts_rise = is.verts_named.rise;
  edges_rise = is.edges_named.rise;
  live = λ e c. let l = live_ends i is e c in (l.0, l.1);
  differ = λ e c. (live_ends i is e c).2;
}
