-- The order in which the vertices are taken: its root, and the facts that its maker needs.
use Rattle.std.proofs.Common.{◌≡◌, ℕ, zero, suc, ◌+◌, ◌<◌, ◌≤◌, Bool, true, false, cond, eqb, List, length, slice_index, slice_index_or, sym, refl, ap, ◌∙◌, subst, inl, inr, ⊎_elim, arith}
use Rattle.std.specs.List.Sorted.{IsStrictlyIncreasing}
use Rattle.std.proofs.lemmas.Bool.{eq-eqb, eqb-true, false≢true}
use Rattle.cp_lists.proofs.Counting.{count_all}
use Rattle.cp_lists.proofs.DistinctLists.{Has_at, Has-place}
use Rattle.cp_lists.proofs.ExactLists.{Exactly-length}
use Rattle.cp_orbits.specs.Connected.{Joins}
use Rattle.cp_base.specs.Graphs.{PlainGraph}
use Rattle.cp_conn.proofs.DartChains.{Contains-at}
use Rattle.cp_ears.specs.Bipolar.{AreAdjacent, IsBipolar}
use Rattle.cp_embed.specs.ListedBlocks.{ListedGraph, IsListedBlock, touches, edges_at, other_end}
use Rattle.cp_embed.specs.VertexOrders.{IsTakingOrder, AreLaterEnds, last_of}
use Rattle.cp_embed.proofs.EdgeDarts.{touches-cases, first-touches, second-touches, edges_at-Has}
use Rattle.cp_embed.proofs.StageTrees.{edges_at-rising}

-- the first item of a rising list is the least
rising_least : (xs : List ℕ) → IsStrictlyIncreasing xs → (j : ℕ) → j < length xs → slice_index xs 0 ≤ slice_index xs j
rising_least xs up zero lt = omega arith
rising_least xs up (suc j) lt =
    let one = rising_least xs up j (omega arith) in
    let two : slice_index xs j < slice_index xs (suc j) =
    subst (λ i. slice_index xs j < slice_index xs i) (let e : j + 1 ≡ suc j = omega arith in e) (up j (omega (arith, lt)))
    in
    omega (arith, one, two)

-- an edge of a vertex joins it to its other end
pub touches-AreAdjacent : (ends : List (ℕ × ℕ)) (v k : ℕ) → k < length ends → touches ends v k ≡ true
    → AreAdjacent ends (other_end ends v k) v × AreAdjacent ends v (other_end ends v k)
touches-AreAdjacent ends v k lt at = (
  record { pair = slice_index_or ends k (0, 0); contained = Contains-at ends k lt; joined = joined },
  record { pair = slice_index_or ends k (0, 0); contained = Contains-at ends k lt; joined = ⊎_elim inr inl joined },
)
  where
    by_first : (b : Bool) → eqb (slice_index_or ends k (0, 0)).0 v ≡ b
        → Joins (slice_index_or ends k (0, 0))
        (cond b (slice_index_or ends k (0, 0)).1 (slice_index_or ends k (0, 0)).0) v
    by_first true e = inr (eqb-true (slice_index_or ends k (0, 0)).0 v e, refl)
    by_first false e = inl (
      refl,
      ⊎_elim
          (λ f. absurd (false≢true (sym e ∙ eq-eqb (slice_index_or ends k (0, 0)).0 v f)))
          (λ s. s)
          (touches-cases ends v k at),
    )

    joined : Joins (slice_index_or ends k (0, 0)) (other_end ends v k) v
    joined = by_first (eqb (slice_index_or ends k (0, 0)).0 v) refl

-- a block and a vertex of it
module _ (block : ListedGraph) (well : IsListedBlock block) (v : ℕ) (lt : v < block.graph.vertices) where
  -- the ends of its edges
  abbrev ends : List (ℕ × ℕ)
  ends = block.graph.ends

  -- the least edge of the vertex
  abbrev root : ℕ
  root = slice_index (edges_at ends v) 0

  -- the vertex has an edge
  pub edges-some : 0 < length (edges_at ends v)
  edges-some =
      let e = well.each_has_edge v lt in
      let h = (edges_at-Has ends v e.0).1 (e.1, ⊎_elim (λ f. first-touches ends v e.0 f) (λ s. second-touches ends v e.0 s) e.2)
      in
      let w = Has-place e.0 (edges_at ends v) h in
      omega (arith, w.1)

  -- the root is an edge of it
  pub root-edge : (root < length ends) × (touches ends v root ≡ true)
  root-edge = (edges_at-Has ends v root).0 (Has_at (edges_at ends v) 0 edges-some)

  -- and the least one
  pub root-least : (k : ℕ) → k < length ends → touches ends v k ≡ true → root ≤ k
  root-least k less t =
      let w = Has-place k (edges_at ends v) ((edges_at-Has ends v k).1 (less, t)) in
      let least = rising_least (edges_at ends v) (edges_at-rising ends v) w.0 w.1 in
      omega (arith, least, w.2)

  -- it joins the vertex to its other end
  pub root-adjacent : AreAdjacent ends (other_end ends v root) v
  root-adjacent = (touches-AreAdjacent ends v root root-edge.0 root-edge.1).0

  -- a bipolar order from the other end to the vertex, with the later ends of the edges
  pub bipolar-IsTakingOrder : (order later : List ℕ) → IsBipolar block.graph (other_end ends v root) v order
      → AreLaterEnds ends order later → IsTakingOrder block.graph order later root
  bipolar-IsTakingOrder order later b ends_are = record {
    root_within = root-edge.0;
    root_at_last = subst (λ u. touches ends u root ≡ true) (sym b.last) root-edge.1;
    root_to_first = ap (λ u. other_end ends u root) b.last ∙ sym b.first;
    bipolar = subst (λ u. IsBipolar block.graph u (last_of order) order) (sym b.first)
        (subst (λ u. IsBipolar block.graph (other_end ends v root) u order) (sym b.last) b);
    later_ends = ends_are;
  }

-- an order of all vertices is as long as there are vertices
pub bipolar-length : (g : PlainGraph) (s t : ℕ) (order : List ℕ) → IsBipolar g s t order → length order ≡ g.vertices
bipolar-length g s t order b = Exactly-length g.vertices (λ v. true) order b.each_once
    ∙ count_all g.vertices (λ v. true) (λ x lt. refl)
