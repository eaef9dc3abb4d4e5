-- The first vertex has another edge than the root, where the last one has two.
use Rattle.std.proofs.Common.{◌≡◌, ◌≢◌, ℕ, ◌+◌, ◌-◌, ◌<◌, ◌⊎◌, Bool, true, false, cond, eqb, List, [], length, slice_index, slice_index_or, sym, refl, ap, ◌∙◌, subst, inl, inr, ⊎_elim, arith}
use Rattle.std.proofs.lemmas.Bool.{cases_eq, eq-eqb, eqb-true, false≢true}
use Rattle.cp_lists.specs.CyclicLists.{Has, but}
use Rattle.cp_lists.proofs.DistinctLists.{Has-place, but-Has}
use Rattle.cp_base.specs.Graphs.{AreWithin}
use Rattle.cp_conn.specs.Blocks.{HaveNoLoop}
use Rattle.cp_conn.proofs.DartChains.{pair_at}
use Rattle.cp_ears.specs.Bipolar.{AreAdjacent}
use Rattle.cp_embed.specs.Embeddings.{HasTwoEdges}
use Rattle.cp_embed.specs.ListedBlocks.{ListedGraph, IsListedBlock, touches, edges_at, other_end}
use Rattle.cp_embed.specs.VertexOrders.{IsTakingOrder, last_of}
use Rattle.cp_embed.proofs.EdgeDarts.{first-touches, second-touches, edges_at-Has, other_end-is}
use Rattle.cp_embed.proofs.StageTrees.{order-long, order-within}

-- the end of an edge that is not v: it is an end of the edge, a vertex, and not v
other_end-end : (n : ℕ) (ends : List (ℕ × ℕ)) (v k : ℕ) → AreWithin n ends → HaveNoLoop ends → k < length ends
    → touches ends v k ≡ true → (touches ends (other_end ends v k) k ≡ true) × (other_end ends v k < n)
    × (other_end ends v k ≢ v)
other_end-end n ends v k within no_loop lt t = by_first (eqb (slice_index_or ends k (0, 0)).0 v) refl
  where
    by_first : (b : Bool) → eqb (slice_index_or ends k (0, 0)).0 v ≡ b
        → (touches ends (cond b (slice_index_or ends k (0, 0)).1 (slice_index_or ends k (0, 0)).0) k ≡ true)
        × (cond b (slice_index_or ends k (0, 0)).1 (slice_index_or ends k (0, 0)).0 < n)
        × (cond b (slice_index_or ends k (0, 0)).1 (slice_index_or ends k (0, 0)).0 ≢ v)
    by_first true e = (
      second-touches ends (slice_index_or ends k (0, 0)).1 k refl,
      (within k lt).1,
      λ f. no_loop k lt (eqb-true (slice_index_or ends k (0, 0)).0 v e ∙ sym f),
    )
    by_first false e = (
      first-touches ends (slice_index_or ends k (0, 0)).0 k refl,
      (within k lt).0,
      λ f. false≢true (sym e ∙ eq-eqb (slice_index_or ends k (0, 0)).0 v f),
    )

-- an edge that joins two vertices
adjacent-edge : (ends : List (ℕ × ℕ)) (x y : ℕ) → AreAdjacent ends x y
    → (k : ℕ) × (k < length ends) × (touches ends x k ≡ true) × (touches ends y k ≡ true)
adjacent-edge ends x y a =
    let k : ℕ = a.contained.0 in
    let is : slice_index_or ends k (0, 0) ≡ a.pair = pair_at ends a.pair a.contained in (
      k,
      a.contained.1,
      ⊎_elim
          (λ j. first-touches ends x k (ap (λ (p : ℕ × ℕ). p.0) is ∙ j.0))
          (λ j. second-touches ends x k (ap (λ (p : ℕ × ℕ). p.1) is ∙ j.1))
          a.joined,
      ⊎_elim
          (λ j. second-touches ends y k (ap (λ (p : ℕ × ℕ). p.1) is ∙ j.1))
          (λ j. first-touches ends y k (ap (λ (p : ℕ × ℕ). p.0) is ∙ j.0))
          a.joined,
    )

-- a block and the order in which its vertices are taken, where the last one has two edges
module _ (block : ListedGraph) (well : IsListedBlock block) (order later : List ℕ) (root : ℕ)
    (ord : IsTakingOrder block.graph order later root) (two : HasTwoEdges block.graph.ends (last_of order)) where
  -- the ends of its edges
  abbrev ends : List (ℕ × ℕ)
  ends = block.graph.ends

  -- an edge of the first vertex that is not the root
  other_edge : (k : ℕ) × (k < length ends) × (touches ends (slice_index order 0) k ≡ true) × (k ≢ root)
  other_edge = ⊎_elim (λ l. l) by_length (longer (length order) refl)
    where
      -- an edge of the last vertex that is not the root
      at_last : (k : ℕ) × (k < length ends) × (touches ends (last_of order) k ≡ true) × (k ≢ root)
      at_last = ⊎_elim
          (λ same. (two.second, two.within, two.second_at, λ e. omega (arith, e, same, two.less)))
          (λ ne. (two.first, omega (arith, two.less, two.within), two.first_at, ne))
          (cases_eq two.first root)

      -- with two vertices it ends at the first
      by_length : length order ≡ 2
          → (k : ℕ) × (k < length ends) × (touches ends (slice_index order 0) k ≡ true) × (k ≢ root)
      by_length len =
          let k : ℕ = at_last.0 in
          let far = other_end-end block.graph.vertices ends (last_of order) k well.within well.no_loop at_last.1 at_last.2 in
          let w = Has-place (other_end ends (last_of order) k) order
          ((order-within block well order later root ord (other_end ends (last_of order) k)).1 far.1)
          in
          ⊎_elim
          (λ zero_place. (
            k,
            at_last.1,
            subst (λ v. touches ends v k ≡ true) (sym w.2 ∙ ap (slice_index order) zero_place) far.0,
            at_last.3,
          ))
          (λ ne.
          let place : w.0 ≡ length order - 1 = omega (arith, w.1, len, ne) in
          absurd (far.2 (sym w.2 ∙ ap (slice_index order) place)))
          (cases_eq w.0 0)

      -- with more the second vertex has an edge to the first
      longer : (m : ℕ) → length order ≡ m
          → ((k : ℕ) × (k < length ends) × (touches ends (slice_index order 0) k ≡ true) × (k ≢ root))
          ⊎ (length order ≡ 2)
      longer m len = ⊎_elim
          (λ is_two. inr is_two)
          (λ ne. inl (three ne))
          (cases_eq (length order) 2)
        where
          three : (length order ≡ 2 → ⊥)
              → (k : ℕ) × (k < length ends) × (touches ends (slice_index order 0) k ≡ true) × (k ≢ root)
          three ne =
              let long : 1 + 1 < length order = omega (arith, order-long block well order later root ord, ne) in
              let b = ord.bipolar.before 1 (omega arith) long in
              let first : b.0 ≡ 0 = omega (arith, b.1) in
              let k = adjacent-edge ends (slice_index order 1) (slice_index order b.0) b.2 in (
                k.0,
                k.1,
                subst (λ i. touches ends (slice_index order i) k.0 ≡ true) first k.3,
                λ same.
                    let x_at_root : touches ends (slice_index order 1) root ≡ true =
                    subst (λ j. touches ends (slice_index order 1) j ≡ true) same k.2
                    in
                    let far : other_end ends (last_of order) root ≡ slice_index order 1 =
                    other_end-is ends well.no_loop (last_of order) (slice_index order 1) root x_at_root ord.root_at_last
                    (λ e. let p : 1 ≡ length order - 1 = ord.bipolar.each_once.each_once 1 (length order - 1)
                    (omega (arith, long)) (omega (arith, long)) e in omega (arith, p, long))
                    in
                    let p : 0 ≡ 1 = ord.bipolar.each_once.each_once 0 1 (omega (arith, long)) (omega (arith, long))
                    (sym ord.root_to_first ∙ far)
                    in
                    omega (arith, p),
              )

  -- so its edges but the root are not empty
  pub rest-some : but root (edges_at ends (slice_index order 0)) ≢ []
  rest-some none =
      let k = other_edge in
      subst (Has k.0) none (but-Has root k.0 (edges_at ends (slice_index order 0)) k.3
      ((edges_at-Has ends (slice_index order 0) k.0).1 (k.1, k.2)))

-- the root ends at the first vertex
module _ (block : ListedGraph) (well : IsListedBlock block) (order later : List ℕ) (root : ℕ)
    (ord : IsTakingOrder block.graph order later root) where
  -- as the end that is not the last vertex
  pub root-touches_first : touches block.graph.ends (slice_index order 0) root ≡ true
  root-touches_first = subst (λ v. touches block.graph.ends v root ≡ true) ord.root_to_first
      (other_end-end block.graph.vertices block.graph.ends (last_of order) root well.within well.no_loop
      ord.root_within ord.root_at_last).0
