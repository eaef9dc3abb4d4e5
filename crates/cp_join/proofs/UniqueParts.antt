-- The parts of the edges of a vertex are told by the graph: any two rows of lists that are its parts are equal.
use Rattle.std.proofs.Common.{◌≡◌, ℕ, zero, suc, ◌<◌, ◌≤◌, List, [], length, map, slice_index, slice_index_or, sym, ap, ◌∙◌, subst, arith}
use Rattle.std.specs.List.{Contains}
use Rattle.std.specs.List.Sorted.{IsStrictlyIncreasing}
use Rattle.std.proofs.lemmas.List.{get_or_default, get_or-map, length-map, same_lists}
use Rattle.cp_lists.specs.CyclicLists.{Has}
use Rattle.cp_lists.proofs.DistinctLists.{Has-place, Has_at}
use Rattle.cp_conn.specs.NamedGraphs.{NamedGraph, edges_at}
use Rattle.cp_board.specs.Joins.{ArePartsAt, part_of}
use Rattle.cp_board.proofs.NamedLists.{rises_from}
use Rattle.cp_join.proofs.PartLists.{all_from, all_has, all_once, part_has, part_is}
use Rattle.cp_join.proofs.RisingLists.{Has-flat_map, rising_order}
use Rattle.cp_join.proofs.SameLists.{one_order}

-- the least edges of the parts
abbrev least_edges : List (List ℕ) → List ℕ
least_edges parts = map (λ part. slice_index part 0) parts

module _ (g : NamedGraph) (u : ℕ) (rise : IsStrictlyIncreasing g.edges) where
  -- parts of the edges of u
  module _ (parts : List (List ℕ)) (are : ArePartsAt g u parts) where
    -- an edge of a part is one of u
    part_edge : (k e : ℕ) → k < length parts → Has e (slice_index_or parts k []) → Contains (edges_at g u) e
    part_edge k e lt m = all_from g u parts rise are e (Has-flat_map e parts k lt m)

    -- the least edge of a part
    abbrev least : ℕ → ℕ
    least k = slice_index (slice_index_or parts k []) 0

    -- is an edge of this part
    least_in : (k : ℕ) → k < length parts → Has (least k) (slice_index_or parts k [])
    least_in k lt = Has_at (slice_index_or parts k []) 0 (are.filled k [] lt)

    -- no edge of the part is below it
    least-le : (k e : ℕ) → k < length parts → Has e (slice_index_or parts k []) → least k ≤ e
    least-le k e lt m =
        let w = Has-place e (slice_index_or parts k []) m in by_place w.0 w.1 w.2
      where
        by_place : (j : ℕ) → j < length (slice_index_or parts k []) → slice_index (slice_index_or parts k []) j ≡ e
            → least k ≤ e
        by_place zero low same = omega (arith, same)
        by_place (suc j) low same =
            let less = rising_order (slice_index_or parts k []) (are.rise k [] lt) 0 (suc j) (omega arith) low in
            omega (arith, less, same)

    -- it is among the least edges of the parts
    least_has : (k : ℕ) → k < length parts → Has (least k) (least_edges parts)
    least_has k lt =
        subst (λ z. Has z (least_edges parts)) (get_or-map (λ (part : List ℕ). slice_index part 0) parts k [] 0 lt)
        (Has_at (least_edges parts) k (omega (arith, lt, length-map parts (λ (part : List ℕ). slice_index part 0))))

    -- and each of these is that of some part
    has_least : (z : ℕ) → Has z (least_edges parts) → (k : ℕ) × (k < length parts) × (least k ≡ z)
    has_least z m =
        let w = Has-place z (least_edges parts) m in
        let lt : w.0 < length parts = omega (arith, w.1, length-map parts (λ (part : List ℕ). slice_index part 0)) in
        (w.0, lt, sym (get_or-map (λ (part : List ℕ). slice_index part 0) parts w.0 [] 0 lt) ∙ w.2)

    -- the part of an edge of a part
    part_number : (k e : ℕ) → k < length parts → Has e (slice_index_or parts k []) → part_of parts e ≡ k
    part_number k e lt m = part_is parts k e (all_once g u parts rise are) lt m

    -- an edge that is in one part with one of a part is in this part
    same_part : (k e f : ℕ) → k < length parts → Has e (slice_index_or parts k []) → Contains (edges_at g u) f
        → part_of parts f ≡ part_of parts e → Has f (slice_index_or parts k [])
    same_part k e f lt m c same =
        subst (λ n. Has f (slice_index_or parts n [])) (same ∙ part_number k e lt m)
        (part_has parts f (all_has g u parts rise are f c)).1

  -- two rows of parts
  module _ (ps qs : List (List ℕ)) (are : ArePartsAt g u ps) (bre : ArePartsAt g u qs) where
    -- edges of one part are of one part in the other row
    carried : (e f : ℕ) → Contains (edges_at g u) e → Contains (edges_at g u) f → part_of ps e ≡ part_of ps f
        → part_of qs e ≡ part_of qs f
    carried e f ce cf same = (bre.one e f ce cf).1 ((are.one e f ce cf).0 same)

    -- an edge that is least in its part is so in the other row
    least_carried : (z : ℕ) → Has z (least_edges ps) → Has z (least_edges qs)
    least_carried z m =
        let k = has_least ps are z m in
        let here : Has z (slice_index_or ps k.0 []) =
        subst (λ y. Has y (slice_index_or ps k.0 [])) k.2 (least_in ps are k.0 k.1) in
        let live : Contains (edges_at g u) z = part_edge ps are k.0 z k.1 here in
        let there = part_has qs z (all_has g u qs rise bre z live) in
        let n : ℕ = part_of qs z in
        let w : ℕ = least qs bre n in
        let w_in : Has w (slice_index_or qs n []) = least_in qs bre n there.0 in
        let w_live : Contains (edges_at g u) w = part_edge qs bre n w there.0 w_in in
        let back : part_of ps w ≡ part_of ps z =
        (are.one w z w_live live).1 ((bre.one w z w_live live).0 (part_number qs bre n w there.0 w_in)) in
        let above = least-le ps are k.0 w k.1 (same_part ps are k.0 z w k.1 here w_live back) in
        let below = least-le qs bre n z there.0 there.1 in
        let is_least = k.2 in
        let one : w ≡ z = omega (arith, above, below, is_least) in
        subst (λ y. Has y (least_edges qs)) one (least_has qs bre n there.0)

-- so the rows are equal
pub parts_unique : (g : NamedGraph) (u : ℕ) → IsStrictlyIncreasing g.edges → (ps qs : List (List ℕ)) → ArePartsAt g u ps
    → ArePartsAt g u qs → ps ≡ qs
parts_unique g u rise ps qs are bre =
    same_lists ps qs size (λ k d lt.
    let low : k < length qs = omega (arith, lt, size) in
    get_or_default ps k d [] lt
    ∙ one_order (slice_index_or ps k []) (slice_index_or qs k [])
    (rises_from (slice_index_or ps k []) (are.rise k [] lt)) (rises_from (slice_index_or qs k []) (bre.rise k [] low))
    (λ e m. carried_part ps qs are bre k lt low e m (least_same k lt low))
    (λ e m. carried_part qs ps bre are k low lt e m (sym (least_same k lt low)))
    ∙ get_or_default qs k [] d low)
  where
    same : least_edges ps ≡ least_edges qs
    same = one_order (least_edges ps) (least_edges qs) (rises_from (least_edges ps) are.by_least)
        (rises_from (least_edges qs) bre.by_least) (least_carried g u rise ps qs are bre)
        (least_carried g u rise qs ps bre are)

    size : length ps ≡ length qs
    size = sym (length-map ps (λ (part : List ℕ). slice_index part 0)) ∙ ap length same
        ∙ length-map qs (λ (part : List ℕ). slice_index part 0)

    least_same : (k : ℕ) → k < length ps → k < length qs → least g u rise ps are k ≡ least g u rise qs bre k
    least_same k lt low =
        sym (get_or-map (λ (part : List ℕ). slice_index part 0) ps k [] 0 lt) ∙ ap (λ zs. slice_index zs k) same
        ∙ get_or-map (λ (part : List ℕ). slice_index part 0) qs k [] 0 low

    carried_part : (xs ys : List (List ℕ)) (axe : ArePartsAt g u xs) (aye : ArePartsAt g u ys) (k : ℕ) → k < length xs
        → k < length ys → (e : ℕ) → Has e (slice_index_or xs k []) → least g u rise xs axe k ≡ least g u rise ys aye k
        → Has e (slice_index_or ys k [])
    carried_part xs ys axe aye k lt low e m one =
        let live = part_edge g u rise xs axe k e lt m in
        let z : ℕ = least g u rise xs axe k in
        let z_in : Has z (slice_index_or xs k []) = least_in g u rise xs axe k lt in
        let z_live = part_edge g u rise xs axe k z lt z_in in
        same_part g u rise ys aye k z e low
        (subst (λ y. Has y (slice_index_or ys k [])) (sym one) (least_in g u rise ys aye k low)) live
        (carried g u rise xs ys axe aye e z live z_live
        (part_number g u rise xs axe k e lt m ∙ sym (part_number g u rise xs axe k z lt z_in)))
