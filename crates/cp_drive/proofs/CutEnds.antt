-- A vertex is a cut vertex exactly where its edges are in more than one part.
use Rattle.std.proofs.Common.{◌≡◌, ℕ, ◌<◌, ◌↔◌, true, List, [], ◌∷◌, length, slice_index_or, refl, sym, subst, ◌∙◌, inl, inr, ⊎_elim, eqb, arith}
use Rattle.std.specs.List.{Contains, flat_map}
use Rattle.std.proofs.lemmas.Bool.{eq-eqb, or_left, or_right}
use Rattle.std.proofs.lemmas.List.Elements.{All-head, All-tail}
use Rattle.std.proofs.lemmas.List.Sorted.{IsPermutation-sym}
use Rattle.std.proofs.lemmas.List.Sums.{passes_at_first, position_or_len_is}
use Rattle.cp_lists.specs.CyclicLists.{Distinct, Has}
use Rattle.cp_lists.proofs.DistinctLists.{Distinct-apart_right, Has-Contains, Has-append_right, has_lacks}
use Rattle.cp_lists.proofs.FilteredLists.{filter-Distinct}
use Rattle.cp_lists.proofs.PermutedLists.{Distinct-IsPermutation, Has-IsPermutation}
use Rattle.cp_conn.specs.CutVertex.{IsNeighbour}
use Rattle.cp_conn.specs.NamedGraphs.{IsCut, edges_at, ends_at, far, pairs}
use Rattle.cp_conn.proofs.NamedGraphs.{edges_at-Contains, pairs_have}
use Rattle.cp_board.specs.Instances.{Synchronized, IsSynchronized, edges_of, graph}
use Rattle.cp_board.specs.Joins.{ArePartsAt, part_of}
use Rattle.cp_board.specs.Names.{has}
use Rattle.cp_board.proofs.ListTests.{Contains-from_has}
use Rattle.cp_runlaw.proofs.PartWeights.{two_parts}
use Rattle.cp_synclaw.proofs.InstanceDarts.{edge_joins, edges_once, far_differs}

-- the first edges of the first two parts are in different parts
first_apart : (x : ℕ) (xs : List ℕ) (y : ℕ) (ys : List ℕ) (rest : List (List ℕ))
    → Distinct (flat_map (λ part. part) ((x ∷ xs) ∷ (y ∷ ys) ∷ rest))
    → part_of ((x ∷ xs) ∷ (y ∷ ys) ∷ rest) x ≡ part_of ((x ∷ xs) ∷ (y ∷ ys) ∷ rest) y → ⊥
first_apart x xs y ys rest once same =
    let parts : List (List ℕ) = (x ∷ xs) ∷ (y ∷ ys) ∷ rest in
    let here : has (x ∷ xs) x ≡ true = or_left (eqb x x) (has xs x) (eq-eqb x x refl) in
    let first : part_of parts x ≡ 0 =
    position_or_len_is (λ part. has part x) parts 0 [] (omega arith) (λ k lt. absurd (omega (arith, lt))) (λ lt. here) in
    let zero_y : part_of parts y ≡ 0 = sym same ∙ first in
    let below : part_of parts y < length parts = omega (arith, zero_y) in
    let passes : has (slice_index_or parts (part_of parts y) []) y ≡ true =
    passes_at_first (λ part. has part y) parts [] below in
    let in_first : has (x ∷ xs) y ≡ true = subst (λ (k : ℕ). has (slice_index_or parts k []) y ≡ true) zero_y passes in
    has_lacks y (x ∷ xs) ((Has-Contains y (x ∷ xs)).1 (Contains-from_has (x ∷ xs) y in_first))
    (Distinct-apart_right y (x ∷ xs) (flat_map (λ part. part) ((y ∷ ys) ∷ rest)) once (inl refl))

-- the edges of a vertex in parts
module _ (i : Synchronized) (is : IsSynchronized i) (u : ℕ) where
  -- the far end of an edge is a neighbour
  near : (e : ℕ) → Contains (edges_of i u) e → IsNeighbour (pairs (graph i)) u (far (graph i) u e)
  near e c = record {
    pair = (graph i).ends e;
    contained = pairs_have (graph i) e (edges_at-Contains (graph i) u e c).0;
    joined = edge_joins i is u e c;
    other = far_differs i is u e c;
  }

  -- with two parts it is a cut vertex
  pub several-IsCut : (parts : List (List ℕ)) → ArePartsAt (graph i) u parts → 1 < length parts → IsCut (graph i) u
  several-IsCut [] are lt = absurd (omega (arith, lt))
  several-IsCut (p ∷ []) are lt = absurd (omega (arith, lt))
  several-IsCut ([] ∷ q ∷ rest) are lt =
      absurd (omega (arith, All-head (λ (part : List ℕ). 0 < length part) [] (q ∷ rest) are.filled))
  several-IsCut ((x ∷ xs) ∷ [] ∷ rest) are lt =
      absurd (omega (
        arith,
        All-head (λ (part : List ℕ). 0 < length part) [] rest
            (All-tail (λ (part : List ℕ). 0 < length part) (x ∷ xs) ([] ∷ rest) are.filled),
      ))
  several-IsCut ((x ∷ xs) ∷ (y ∷ ys) ∷ rest) are lt =
      let parts : List (List ℕ) = (x ∷ xs) ∷ (y ∷ ys) ∷ rest in
      let all : List ℕ = flat_map (λ part. part) parts in
      let from : (e : ℕ) → Has e all → Contains (edges_of i u) e = λ e h.
      (Has-Contains e (edges_of i u)).0
      (Has-IsPermutation e all (edges_of i u) (IsPermutation-sym (edges_of i u) all are.whole) h) in
      let cx : Contains (edges_of i u) x = from x (inl refl) in
      let cy : Contains (edges_of i u) y =
      from y (Has-append_right y (x ∷ xs) (flat_map (λ part. part) ((y ∷ ys) ∷ rest)) (inl refl)) in
      let once : Distinct all =
      Distinct-IsPermutation (edges_of i u) all are.whole
      (filter-Distinct (ends_at (graph i) u) (graph i).edges (edges_once i is)) in
      record {
        one = far (graph i) u x;
        two = far (graph i) u y;
        near_one = near x cx;
        near_two = near y cy;
        apart = λ c. first_apart x xs y ys rest once ((are.one x y cx cy).1 c);
      }

  -- and only then
  pub IsCut-several : (parts : List (List ℕ)) → ArePartsAt (graph i) u parts → IsCut (graph i) u → 1 < length parts
  IsCut-several parts are cut = omega (arith, two_parts (graph i) u parts are cut)
