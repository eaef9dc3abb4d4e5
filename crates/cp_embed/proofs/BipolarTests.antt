-- Orders of all vertices whose edges show that they are bipolar.
use Rattle.std.proofs.Common.{◌≡◌, ℕ, ◌+◌, ◌-◌, ◌<◌, true, Bool, List, length, slice_index, sym, ◌∙◌, subst, arith}
use Rattle.std.specs.List.Sorted.{IsPermutation}
use Rattle.std.proofs.lemmas.List.Sorted.{IsPermutation-sym, length_permutation}
use Rattle.cp_lists.specs.Count.{Exactly}
use Rattle.cp_lists.proofs.DistinctLists.{Exactly-Distinct, Exactly-Has, Exactly-from}
use Rattle.cp_lists.proofs.PermutedLists.{Distinct-IsPermutation, Has-IsPermutation}
use Rattle.cp_base.specs.Graphs.{PlainGraph}
use Rattle.cp_ears.specs.Bipolar.{AreAdjacent, IsBipolar}
use Rattle.cp_embed.specs.Levels.{AreEarlier, AreLater, EndWithin, HaveFlags}
use Rattle.cp_embed.specs.ListedBlocks.{other_end}
use Rattle.cp_embed.specs.VertexOrders.{AreLaterEnds}
use Rattle.cp_embed.proofs.TakingOrders.{bipolar-length, touches-AreAdjacent}

-- a bipolar order has all vertices once
pub Exactly-own : (g : PlainGraph) (s t : ℕ) (order slice : List ℕ) → IsBipolar g s t order → slice ≡ order
    → Exactly (length slice) (λ v. true) slice
Exactly-own g s t order slice b same =
    subst (λ us. Exactly (length us) (λ v. true) us) (sym same)
    (subst (λ n. Exactly n (λ v. true) order) (sym (bipolar-length g s t order b)) b.each_once)

-- so has a list of the same vertices in another order
pub Exactly-permuted : (order other : List ℕ) → IsPermutation order other → Exactly (length order) (λ v. true) order
    → Exactly (length other) (λ v. true) other
Exactly-permuted order other p once =
    subst (λ n. Exactly n (λ v. true) other) (sym (length_permutation order other p))
    (Exactly-from (length order) (λ v. true) other
    (Distinct-IsPermutation order other p (Exactly-Distinct (length order) (λ v. true) order once))
    (λ x h. (Exactly-Has (length order) (λ v. true) order once x).0
    (Has-IsPermutation x other order (IsPermutation-sym order other p) h))
    (λ x lt e. Has-IsPermutation x order other p
    ((Exactly-Has (length order) (λ v. true) order once x).1 (lt, e))))

-- an order of all vertices, with the later end of each edge
module _ (ends : List (ℕ × ℕ)) (order later : List ℕ) (once : Exactly (length order) (λ v. true) order)
    (are : AreLaterEnds ends order later) where
  -- both ends of each edge are below the number of vertices
  pub later-EndWithin : EndWithin (length order) ends later
  later-EndWithin k lt =
      let e = (are.later_of k lt).other_before in (
        subst (λ v. v < length order) e.second_is (once.each_passes e.second e.within).0,
        subst (λ v. v < length order) e.first_is
            (once.each_passes e.first (let b = e.before in let w = e.within in omega (arith, b, w))).0,
      )

  -- where each vertex between the first and the last is the later end of an edge and the earlier end of one, the order
  -- is bipolar
  pub flags-IsBipolar : (s t : ℕ) (laters earliers : List Bool)
      → (slice_index order 0 ≡ s) × (slice_index order (length order - 1) ≡ t)
      → AreLater ends later laters → HaveFlags order laters
      → AreEarlier ends later earliers → HaveFlags order earliers
      → IsBipolar (record { vertices = length order; ends = ends }) s t order
  flags-IsBipolar s t laters earliers leads are_later all_later are_earlier all_earlier = record {
    each_once = once;
    first = leads.0;
    last = leads.1;
    before = before;
    after = after;
  }
    where
      before : (i : ℕ) → 0 < i → i + 1 < length order
          → (j : ℕ) × (j < i) × AreAdjacent ends (slice_index order i) (slice_index order j)
      before i pos lt =
          let f = are_later (slice_index order i) (all_later i pos lt) in
          let k = f.0 in let v = slice_index order i in
          let one = are.later_of k f.1 in
          let e = one.other_before in
          let here : e.second ≡ i =
          once.each_once e.second i e.within (omega (arith, lt)) (e.second_is ∙ f.2) in
          let both = touches-AreAdjacent ends (slice_index later k) k f.1 one.is_end in (
            e.first,
            subst (λ n. e.first < n) here e.before,
            subst (λ x. AreAdjacent ends x (slice_index order e.first)) f.2
                (subst (AreAdjacent ends (slice_index later k)) (sym e.first_is) both.1),
          )

      after : (i : ℕ) → 0 < i → i + 1 < length order
          → (j : ℕ) × (i < j) × (j < length order) × AreAdjacent ends (slice_index order i) (slice_index order j)
      after i pos lt =
          let f = are_earlier (slice_index order i) (all_earlier i pos lt) in
          let k = f.0 in
          let one = are.later_of k f.1 in
          let e = one.other_before in
          let here : e.first ≡ i =
          once.each_once e.first i (let b = e.before in let w = e.within in omega (arith, b, w)) (omega (arith, lt))
          (e.first_is ∙ f.2) in
          let both = touches-AreAdjacent ends (slice_index later k) k f.1 one.is_end in (
            e.second,
            subst (λ n. n < e.second) here e.before,
            e.within,
            subst (λ x. AreAdjacent ends x (slice_index order e.second)) f.2
                (subst (AreAdjacent ends (other_end ends (slice_index later k) k)) (sym e.second_is) both.0),
          )
