-- Graphs whose vertices and edges have names: their edges as pairs of ends, and the places of these pairs.
use Rattle.std.proofs.Common.{◌≡◌, ℕ, ◌<◌, ◌↔◌, Bool, true, eqb, List, [], ◌∷◌, length, map, get_or, sym, refl, ap, ◌∙◌, subst, inl, inr, ⊎_elim, arith}
use Rattle.std.specs.List.{Contains}
use Rattle.std.proofs.lemmas.Bool.{cases_eq, eq-eqb, eqb-true, ne_eqb, or_cases, or_left, or_right}
use Rattle.std.proofs.lemmas.List.{get_or-map, length-map}
use Rattle.std.proofs.lemmas.List.Elements.{Contains-get_or}
use Rattle.cp_lists.specs.CyclicLists.{Distinct}
use Rattle.cp_lists.proofs.DistinctLists.{Distinct-once}
use Rattle.cp_lists.proofs.ExactLists.{place_at, place_is}
use Rattle.cp_orbits.specs.Connected.{Joins, Connected}
use Rattle.cp_orbits.proofs.ClassLabels.{Contains-head, Contains-tail, Contains-cons_cases}
use Rattle.cp_conn.specs.Blocks.{HaveNoLoop}
use Rattle.cp_conn.specs.CutVertex.{without_vertex}
use Rattle.cp_conn.specs.NamedGraphs.{NamedGraph, pairs, ends_at, edges_at, far, rank, InOneBlock, IsBlockOf}
use Rattle.cp_conn.proofs.BlockLabels.{block_of, same_block_of}
use Rattle.cp_conn.proofs.CutBlocks.{parts_are_blocks}
use Rattle.cp_conn.proofs.CutVertices.{kept_of, kept_pair}
use Rattle.cp_conn.proofs.DartChains.{Joins-sym}
use Rattle.cp_conn.proofs.OneBlock.{Joins-same}

-- the name of an edge has a place
pub rank_at : (names : List ℕ) (e : ℕ) → Contains names e
    → (rank names e < length names) × (get_or names (rank names e) 0 ≡ e)
rank_at names e c = place_at names e c

-- the name at a place has that place, where no name stands twice
pub rank_is : (names : List ℕ) (i e : ℕ) → Distinct names → i < length names → get_or names i 0 ≡ e
    → rank names e ≡ i
rank_is names i e once lt at = place_is names i e (Distinct-once names once) lt at

-- what a mapped list contains comes from an item of the list
pub map_from : {A B : Type 0} (f : A → B) (xs : List A) (y : B) → Contains (map f xs) y
    → (x : A) × Contains xs x × (f x ≡ y)
map_from f [] y c = absurd (omega (arith, c.1))
map_from f (x ∷ xs) y c =
    ⊎_elim
    (λ same. (x, Contains-head x xs, same))
    (λ k. let h = map_from f xs y k in (h.0, Contains-tail x h.0 xs h.1, h.2))
    (Contains-cons_cases (f x) y (map f xs) c)

-- the image of an item is contained in the mapped list
pub map_has : {A B : Type 0} (f : A → B) (xs : List A) (x : A) → Contains xs x → Contains (map f xs) (f x)
map_has f xs x c =
    (c.0, omega (arith, c.1, length-map xs f), get_or-map f xs c.0 x (f x) c.1 ∙ ap f c.2)

-- there are as many pairs as edges
pub length-pairs : (g : NamedGraph) → length (pairs g) ≡ length g.edges
length-pairs g = length-map g.edges g.ends

-- the ends of an edge are one of the pairs
pub pairs_have : (g : NamedGraph) (e : ℕ) → Contains g.edges e → Contains (pairs g) (g.ends e)
pairs_have g e c = map_has g.ends g.edges e c

-- each pair is that of an edge
pub pairs_from : (g : NamedGraph) (p : ℕ × ℕ) → Contains (pairs g) p
    → (e : ℕ) × Contains g.edges e × (g.ends e ≡ p)
pairs_from g p c = map_from g.ends g.edges p c

-- the pair of an edge stands at the place of its name
pub pair_of_edge : (g : NamedGraph) (e : ℕ) → Contains g.edges e
    → (rank g.edges e < length (pairs g)) × (get_or (pairs g) (rank g.edges e) (0, 0) ≡ g.ends e)
pair_of_edge g e c =
    let at = rank_at g.edges e c in
    (omega (arith, at.0, length-pairs g), get_or-map g.ends g.edges (rank g.edges e) 0 (0, 0) at.0 ∙ ap g.ends at.1)

-- an edge at v is an edge, and has v as an end
pub edges_at-Contains : (g : NamedGraph) (v e : ℕ) → Contains (edges_at g v) e
    → Contains g.edges e × (ends_at g v e ≡ true)
edges_at-Contains g v e c = kept_pair (ends_at g v) g.edges e c

-- an edge with an end v is an edge at v
pub Contains-edges_at : (g : NamedGraph) (v e : ℕ) → Contains g.edges e → ends_at g v e ≡ true
    → Contains (edges_at g v) e
Contains-edges_at g v e c t = kept_of (ends_at g v) g.edges e c t

-- an edge with an end v joins v and its far end
pub far_joins : (g : NamedGraph) (v e : ℕ) → ends_at g v e ≡ true → Joins (g.ends e) v (far g v e)
far_joins g v e t =
    ⊎_elim
    (λ h. inl (h, sym (rw (eq-eqb (g.ends e).0 v h) refl)))
    (λ nh. ⊎_elim
    (λ h. absurd (nh (eqb-true (g.ends e).0 v h)))
    (λ h. inr (sym (rw (ne_eqb (g.ends e).0 v nh) refl), eqb-true (g.ends e).1 v h))
    (or_cases (eqb (g.ends e).0 v) (eqb (g.ends e).1 v) t))
    (cases_eq (g.ends e).0 v)

-- an edge that joins v and x has v as an end
pub joins_ends : (g : NamedGraph) (v x e : ℕ) → Joins (g.ends e) v x → ends_at g v e ≡ true
joins_ends g v x e j =
    ⊎_elim
    (λ h. or_left (eqb (g.ends e).0 v) (eqb (g.ends e).1 v) (eq-eqb (g.ends e).0 v h.0))
    (λ h. or_right (eqb (g.ends e).0 v) (eqb (g.ends e).1 v) (eq-eqb (g.ends e).1 v h.1))
    j

-- where an edge joins v to x, its far end from v is x
pub joins_far : (g : NamedGraph) (v x e : ℕ) → Joins (g.ends e) v x → far g v e ≡ x
joins_far g v x e j = Joins-same (g.ends e) v (far g v e) x (far_joins g v e (joins_ends g v x e j)) j

-- an edge of v ends at v, seen from its far end
pub far_back : (g : NamedGraph) (v e : ℕ) → ends_at g v e ≡ true → far g (far g v e) e ≡ v
far_back g v e t =
    joins_far g (far g v e) v e (Joins-sym (g.ends e) v (far g v e) (far_joins g v e t))

-- an edge at v is an edge at its far end
pub far_edges_at : (g : NamedGraph) (v e : ℕ) → Contains (edges_at g v) e → Contains (edges_at g (far g v e)) e
far_edges_at g v e c =
    let h = edges_at-Contains g v e c in
    Contains-edges_at g (far g v e) e h.0
    (joins_ends g (far g v e) v e (Joins-sym (g.ends e) v (far g v e) (far_joins g v e h.1)))

-- the pair of an edge at v joins v and the far end of the edge
pub pair_joins : (g : NamedGraph) (v e : ℕ) → Contains (edges_at g v) e
    → Joins (get_or (pairs g) (rank g.edges e) (0, 0)) v (far g v e)
pair_joins g v e c =
    let h = edges_at-Contains g v e c in
    subst (λ (p : ℕ × ℕ). Joins p v (far g v e)) (sym (pair_of_edge g e h.0).1) (far_joins g v e h.1)

-- what stands at a place is an edge, with the ends that stand there among the pairs
pub edge_at : (g : NamedGraph) (i : ℕ) → i < length (pairs g)
    → Contains g.edges (get_or g.edges i 0) × (g.ends (get_or g.edges i 0) ≡ get_or (pairs g) i (0, 0))
edge_at g i lt =
    let within : i < length g.edges = omega (arith, length-pairs g) in
    (Contains-get_or g.edges i 0 within, sym (get_or-map g.ends g.edges i 0 (0, 0) within))

-- the test whether an edge is in one block with e
abbrev pub block_test : NamedGraph → ℕ → ℕ → Bool
block_test g e f = eqb (block_of (pairs g) (rank g.edges e)) (block_of (pairs g) (rank g.edges f))

-- without loops each edge has a block, which is told by a test
pub IsBlockOf-block_test : (g : NamedGraph) (e : ℕ) → HaveNoLoop (pairs g) → Contains g.edges e
    → IsBlockOf g e (block_test g e)
IsBlockOf-block_test g e none c = record {
  live = c;
  tells = λ f k.
      let same = same_block_of (pairs g) none (rank g.edges e) (rank g.edges f) in (
        λ t. same.0 (eqb-true (block_of (pairs g) (rank g.edges e)) (block_of (pairs g) (rank g.edges f)) t),
        λ b. eq-eqb (block_of (pairs g) (rank g.edges e)) (block_of (pairs g) (rank g.edges f)) (same.1 b),
      );
}

-- two edges at v are in one block exactly where their far ends are connected without v
pub InOneBlock_at : (g : NamedGraph) (v e f : ℕ) → HaveNoLoop (pairs g) → Contains (edges_at g v) e
    → Contains (edges_at g v) f
    → InOneBlock g e f ↔ Connected (without_vertex v (pairs g)) (far g v e) (far g v f)
InOneBlock_at g v e f none ce cf =
    parts_are_blocks (pairs g) v (rank g.edges e) (rank g.edges f) (far g v e) (far g v f) none
    (pair_of_edge g e (edges_at-Contains g v e ce).0).0 (pair_of_edge g f (edges_at-Contains g v f cf).0).0
    (pair_joins g v e ce) (pair_joins g v f cf)
