-- At a vertex of a flat rotation the edges into two components of the rest of the graph do not cross.
use Rattle.std.proofs.Common.{◌≡◌, ℕ, ◌*◌, ◌/◌, ◌≤◌, ◌↔◌, List, [], ◌∷◌, map, sym, refl, ap, ◌∙◌, subst, inl, inr, ⊎_elim, arith}
use Rattle.std.specs.List.{Contains}
use Rattle.cp_lists.specs.Crossings.{NoCross}
use Rattle.cp_lists.specs.CyclicLists.{Has}
use Rattle.cp_lists.proofs.Orders.{order_Has}
use Rattle.cp_orbits.proofs.ClassLabels.{labels-le}
use Rattle.cp_orbits.proofs.Twins.{half_twin}
use Rattle.cp_conn.specs.Blocks.{HaveNoLoop}
use Rattle.cp_conn.specs.NamedGraphs.{NamedGraph, edges_at, pairs, rank}
use Rattle.cp_conn.proofs.BlockLabels.{block_of, meeting_pairs, same_block_of}
use Rattle.cp_conn.proofs.NamedGraphs.{InOneBlock_at}
use Rattle.cp_maps.specs.Blocks.{NoneCross}
use Rattle.cp_maps.specs.Genus.{IsFlat}
use Rattle.cp_maps.specs.Maps.{IsMapOf}
use Rattle.cp_maplaw.specs.NamedDarts.{AreDartsOf, IsArrangedBy, dart_list}
use Rattle.cp_maplaw.proofs.NamedBlocks.{named_blocks-IsFlat}
use Rattle.cp_maplaw.proofs.NamedRests.{dart_edge}
use Rattle.cp_join.proofs.PartValues.{part_value, part_value-Connected}

-- the number of a block is at most that of an edge of it
block_of-le : (es : List (ℕ × ℕ)) (e : ℕ) → block_of es e ≤ e
unfolding block_of
block_of-le es e = labels-le (meeting_pairs es) e

-- a flat rotation of a graph without loops, and the names of the edges of its darts
module _ (n : ℕ) (g : NamedGraph) (dart : ℕ → ℕ → ℕ) (s : ℕ → List ℕ) (f : ℕ → ℕ) (darts : AreDartsOf g dart)
    (arr : IsArrangedBy g s) (is : IsMapOf (2 * n) f (map (dart_list dart s) g.verts)) (none : HaveNoLoop (pairs g))
    (z : IsFlat n f) (name : ℕ → ℕ) (named : (w e : ℕ) → Contains (edges_at g w) e → name (dart w e / 2) ≡ e)
    (few : (e : ℕ) → rank g.edges e ≤ n) where
  -- the number of the block of an edge
  abbrev number : ℕ → ℕ
  number e = block_of (pairs g) (rank g.edges e)

  -- and of the edge of a dart
  abbrev class : ℕ → ℕ
  class d = number (name (d / 2))

  -- no two blocks cross
  blocks_apart : NoneCross class (map (dart_list dart s) g.verts)
  blocks_apart =
      ((named_blocks-IsFlat n g dart s f darts arr is none number class
      (λ e k ce ck. same_block_of (pairs g) none (rank g.edges e) (rank g.edges k))
      (λ d lt. let le = block_of-le (pairs g) (rank g.edges (name (d / 2))) in
      omega (arith, le, few (name (d / 2)), lt))
      (λ d lt. ap (λ k. number (name k)) (half_twin d))
      (λ w e c. ap number (named w e c))).0 z).1

  -- so they do not cross at one vertex
  at_vertex : (names : List ℕ) (u : ℕ) → Has u names → NoneCross class (map (dart_list dart s) names)
      → NoCross class (dart_list dart s u)
  at_vertex [] u h apart = absurd h
  at_vertex (w ∷ names) u h apart = ⊎_elim
      (λ same. subst (λ x. NoCross class (dart_list dart s x)) same apart.0)
      (λ k. at_vertex names u k apart.1) h

  -- so the parts of the edges of a vertex do not cross at it
  pub parts-NoCross : (u : ℕ) → Has u g.verts → NoCross (λ d. part_value g u (name (d / 2))) (dart_list dart s u)
  parts-NoCross u live w x y v order wy xv =
      let item : (d : ℕ) → Has d (w ∷ x ∷ y ∷ v ∷ []) → Contains (edges_at g u) (name (d / 2)) =
      λ d h.
      let e = dart_edge g dart s darts arr u d live (order_Has d (w ∷ x ∷ y ∷ v ∷ []) (dart_list dart s u) order h) in
      subst (Contains (edges_at g u)) (sym (named u e.0 e.1) ∙ ap (λ k. name (k / 2)) e.2) e.1 in
      let same : (c d : ℕ) → Contains (edges_at g u) (name (c / 2)) → Contains (edges_at g u) (name (d / 2))
      → (class c ≡ class d) ↔ (part_value g u (name (c / 2)) ≡ part_value g u (name (d / 2))) =
      λ c d hc hd.
      let blocks = same_block_of (pairs g) none (rank g.edges (name (c / 2))) (rank g.edges (name (d / 2))) in
      let one = InOneBlock_at g u (name (c / 2)) (name (d / 2)) none hc hd in
      let values = part_value-Connected g u (name (c / 2)) (name (d / 2)) in
      ((λ q. values.1 (one.0 (blocks.0 q))), (λ q. blocks.1 (one.1 (values.0 q)))) in
      let hw = item w (inl refl) in
      let hx = item x (inr (inl refl)) in
      let hy = item y (inr (inr (inl refl))) in
      let hv = item v (inr (inr (inr (inl refl)))) in
      (same w x hw hx).0
      (at_vertex g.verts u live blocks_apart w x y v order ((same w y hw hy).1 wy) ((same x v hx hv).1 xv))
