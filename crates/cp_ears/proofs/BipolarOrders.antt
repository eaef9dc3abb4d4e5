-- Where each vertex of a search tree stands between its low point and its parent the order is bipolar.
use Rattle.std.proofs.Common.{◌≡◌, ◌≢◌, ℕ, ◌+◌, ◌-◌, ◌<◌, List, length, get_or, sym, refl, ap, ◌∙◌, subst, ⊎_elim, arith}
use Rattle.std.proofs.lemmas.List.{get_or_default}
use Rattle.cp_base.specs.Graphs.{PlainGraph}
use Rattle.cp_orbits.specs.Connected.{Joins}
use Rattle.cp_orbits.specs.Orbits.{Permutes}
use Rattle.cp_orbits.proofs.OrbitLaws.{Permutes-onto}
use Rattle.cp_conn.specs.Blocks.{HaveNoLoop}
use Rattle.cp_conn.specs.CutVertex.{IsNeighbour}
use Rattle.cp_conn.specs.SearchTree.{IsSearchTree, AreJoinedAt}
use Rattle.cp_conn.proofs.DartChains.{Joins-sym}
use Rattle.cp_ears.specs.Bipolar.{AreAdjacent, IsBipolar}
use Rattle.cp_ears.specs.Placing.{ArePlaces, StandAt}

-- vertices that an edge joins in a graph with no loop are neighbours
pub adjacent_neighbour : (es : List (ℕ × ℕ)) (s t : ℕ) → HaveNoLoop es → AreAdjacent es s t → IsNeighbour es s t
adjacent_neighbour es s t no_loop a =
    record { pair = a.pair; contained = a.contained; joined = a.joined; other = differ }
  where
    -- the edge stands where it was found
    at : get_or es a.contained.0 (0, 0) ≡ a.pair
    at = get_or_default es a.contained.0 (0, 0) a.pair a.contained.1 ∙ a.contained.2

    -- its two ends differ
    one_end : a.pair.0 ≡ a.pair.1 → ⊥
    one_end e = no_loop a.contained.0 a.contained.1 (ap (λ (p : ℕ × ℕ). p.0) at ∙ e ∙ sym (ap (λ (p : ℕ × ℕ). p.1) at))

    -- so s and t differ
    differ : t ≡ s → ⊥
    differ e = ⊎_elim (λ j. one_end (j.0 ∙ sym e ∙ sym j.1)) (λ j. one_end (j.0 ∙ e ∙ sym j.1)) a.joined

-- the k-th vertex of the tree has a neighbour before it and one behind it
record Sides (es : List (ℕ × ℕ)) (n : ℕ) (order places : List ℕ) (k : ℕ) : Type 0 where
  lower : (j : ℕ) × (j < n) × (get_or places j 0 < get_or places k 0)
      × AreAdjacent es (get_or order k 0) (get_or order j 0)
  upper : (j : ℕ) × (j < n) × (get_or places k 0 < get_or places j 0)
      × AreAdjacent es (get_or order k 0) (get_or order j 0)

-- some neighbour of the k-th vertex of the tree stands on the same side of it as the u-th vertex
abbrev OnLowSide : List (ℕ × ℕ) → ℕ → List ℕ → List ℕ → ℕ → ℕ → Type 0
OnLowSide es n order places k u =
    (j : ℕ) × (j < n) × (get_or places u 0 < get_or places k 0 → get_or places j 0 < get_or places k 0)
    × (get_or places k 0 < get_or places u 0 → get_or places k 0 < get_or places j 0)
    × AreAdjacent es (get_or order k 0) (get_or order j 0)

-- each vertex from the third on has a neighbour on the side of its low point
low_side : (es : List (ℕ × ℕ)) (n : ℕ) (order up low places : List ℕ) (k : ℕ) → IsSearchTree es n order up low
    → ArePlaces n up low places → 1 < k → k < n → OnLowSide es n order places k (get_or low k 0)
low_side es n order up low places k t pl late lt =
    ⊎_elim
    (λ j. (
      get_or low k 0,
      omega (arith, t.low_lower k late lt, t.up_lower k (omega arith) lt),
      λ less. less,
      λ more.
          more,
      record { pair = j.pair; contained = j.contained; joined = j.joined },
    ))
    (λ c. let j : ℕ = c.0 in
    let joined : AreJoinedAt es order j (get_or up j 0) = t.up_joined j (omega (arith, c.2)) c.1 in
    let at_up : get_or places (get_or up j 0) 0 ≡ get_or places k 0 = ap (λ (z : ℕ). get_or places z 0) c.2.1 in
    let at_low : get_or places (get_or low j 0) 0 ≡ get_or places (get_or low k 0) 0 =
    ap (λ (z : ℕ). get_or places z 0) c.2.2 in
    let b = pl.between j (omega (arith, c.2)) c.1 in (
      j,
      c.1,
      λ less. ⊎_elim (λ h. omega (arith, h, at_up)) (λ h. absurd (omega (arith, h, at_up, at_low, less))) b,
      λ more. ⊎_elim (λ h. absurd (omega (arith, h, at_up, at_low, more))) (λ h. omega (arith, h, at_up)) b,
      record {
        pair = joined.pair;
        contained = joined.contained;
        joined = subst (λ (z : ℕ). Joins joined.pair (get_or order z 0) (get_or order j 0)) c.2.1
            (Joins-sym joined.pair (get_or order j 0) (get_or order (get_or up j 0) 0) joined.joined);
      },
    ))
    (t.low_reached k late lt)

-- each vertex from the third on has a neighbour on each side
sides : (es : List (ℕ × ℕ)) (n : ℕ) (order up low places : List ℕ) (k : ℕ) → IsSearchTree es n order up low
    → ArePlaces n up low places → 1 < k → k < n → Sides es n order places k
sides es n order up low places k t pl late lt =
    let o = low_side es n order up low places k t pl late lt in
    let joined : AreJoinedAt es order k (get_or up k 0) = t.up_joined k (omega arith) lt in
    let parent : AreAdjacent es (get_or order k 0) (get_or order (get_or up k 0) 0) =
    record { pair = joined.pair; contained = joined.contained; joined = joined.joined } in
    let ltp : get_or up k 0 < n = omega (arith, t.up_lower k (omega arith) lt) in
    ⊎_elim
    (λ b. record { lower = (o.0, o.1, o.2 b.0, o.4); upper = (get_or up k 0, ltp, b.1, parent) })
    (λ b. record { lower = (get_or up k 0, ltp, b.0, parent); upper = (o.0, o.1, o.3 b.1, o.4) })
    (pl.between k late lt)

-- the vertices of a search tree, each at its place, are a bipolar order
pub bipolar_of : (g : PlainGraph) (s t : ℕ) (order up low places found : List ℕ)
    → IsSearchTree g.ends g.vertices order up low → get_or order 0 0 ≡ s → get_or order 1 0 ≡ t
    → ArePlaces g.vertices up low places → StandAt order places found (length order) → IsBipolar g s t found
bipolar_of g s t order up low places found tree s_is t_is pl st = record {
  each_once = record {
    each_passes = λ i lti. let k = onto i lti in (
      subst (λ (z : ℕ). z < g.vertices) (sym (found_at i lti))
          (tree.each_once.each_passes k.0 (omega (arith, k.1, tree.order_size))).0,
      refl,
    );
    each_once = λ i j lti ltj e.
        let k = onto i lti in
        let l = onto j ltj in
        let same : k.0 ≡ l.0 = tree.each_once.each_once k.0 l.0 (omega (arith, k.1, tree.order_size))
        (omega (arith, l.1, tree.order_size)) (sym (found_at i lti) ∙ e ∙ found_at j ltj) in
        sym k.2 ∙ ap (λ (z : ℕ). get_or places z 0) same ∙ l.2;
    all = λ x lt pass.
        let k = tree.each_once.all x lt refl in
        let ltk : k.0 < g.vertices = omega (arith, k.1, tree.order_size) in
        let lti : get_or places k.0 0 < length found = omega (arith, pl.within k.0 ltk, size) in (
          get_or places k.0 0,
          lti,
          sym (get_or_default found (get_or places k.0 0) 0 x lti) ∙ at k.0 ltk
              ∙ get_or_default order k.0 0 x k.1 ∙ k.2,
        );
  };
  first = ap (λ (z : ℕ). get_or found z 0) (sym pl.first) ∙ at 0 (omega (arith, tree.two)) ∙ s_is;
  last = let e : length found - 1 ≡ get_or places 1 0 = omega (arith, size, pl.last) in
      ap (λ (z : ℕ). get_or found z 0) e ∙ at 1 tree.two ∙ t_is;
  before = λ i some lti.
      let k = onto i (omega arith) in
      let w = (inner i some lti).lower in (
        get_or places w.0 0,
        omega (arith, w.2, k.2),
        subst
            (λ (z : ℕ). AreAdjacent g.ends z (get_or found (get_or places w.0 0) 0)) (sym (found_at i (omega arith)))
            (subst (AreAdjacent g.ends (get_or order k.0 0)) (sym (at w.0 w.1)) w.3),
      );
  after = λ i some lti.
      let k = onto i (omega arith) in
      let w = (inner i some lti).upper in (
        get_or places w.0 0,
        omega (arith, w.2, k.2),
        omega (arith, pl.within w.0 w.1, size),
        subst
            (λ (z : ℕ). AreAdjacent g.ends z (get_or found (get_or places w.0 0) 0)) (sym (found_at i (omega arith)))
            (subst (AreAdjacent g.ends (get_or order k.0 0)) (sym (at w.0 w.1)) w.3),
      );
}
  where
    -- there are as many places as vertices
    size : length found ≡ g.vertices
    size = st.size ∙ tree.order_size

    -- at the place of the k-th vertex of the tree stands that vertex
    at : (k : ℕ) → k < g.vertices → get_or found (get_or places k 0) 0 ≡ get_or order k 0
    at k lt = st.each k (omega (arith, lt, tree.order_size))

    -- no two vertices have one place
    permutes : Permutes g.vertices (λ x. get_or places x 0)
    permutes = record { below = pl.within; apart = pl.apart }

    -- each place is that of some vertex
    onto : (i : ℕ) → i < length found → (k : ℕ) × (k < g.vertices) × (get_or places k 0 ≡ i)
    onto i lt = Permutes-onto g.vertices (λ x. get_or places x 0) permutes i (omega (arith, lt, size))

    -- what stands at a place is the vertex that has it
    found_at : (i : ℕ) (lt : i < length found) → get_or found i 0 ≡ get_or order (onto i lt).0 0
    found_at i lt = let k = onto i lt in ap (λ (z : ℕ). get_or found z 0) (sym k.2) ∙ at k.0 k.1

    -- a vertex that is neither first nor last has a neighbour on each side
    inner : (i : ℕ) → 0 < i → (lt : i + 1 < length found)
        → Sides g.ends g.vertices order places (onto i (omega arith)).0
    inner i some lt =
        let k = onto i (omega arith) in
        let not_first : k.0 ≢ 0 = λ e. omega (arith, some, k.2, pl.first, ap (λ (z : ℕ). get_or places z 0) e) in
        let not_second : k.0 ≢ 1 = λ e. omega (arith, lt, size, k.2, pl.last, ap (λ (z : ℕ). get_or places z 0) e) in
        sides g.ends g.vertices order up low places k.0 tree pl (omega arith) k.1

-- the same, as a program reads the lists
pub bipolar_read : (g : PlainGraph) (s t : ℕ) (order up low order' up' low' places places' found : List ℕ)
    → IsSearchTree g.ends g.vertices order up low → get_or order 0 0 ≡ s → get_or order 1 0 ≡ t → order' ≡ order
    → up' ≡ up → low' ≡ low → places' ≡ places
    → ArePlaces (length up') up' low' places → StandAt order' places' found (length order') → IsBipolar g s t found
bipolar_read g s t order up low order' up' low' places places' found tree s_is t_is order_is up_is low_is places_is pl
    st =
    bipolar_of g s t order up low places found tree s_is t_is
    (subst (λ (k : ℕ). ArePlaces k up low places) tree.up_size
    (subst (λ (xs : List ℕ). ArePlaces (length xs) xs low places) up_is
    (subst (λ (xs : List ℕ). ArePlaces (length up') up' xs places) low_is pl)))
    (subst (λ (xs : List ℕ). StandAt xs places found (length xs)) order_is
    (subst (λ (xs : List ℕ). StandAt order' xs found (length order')) places_is st))
