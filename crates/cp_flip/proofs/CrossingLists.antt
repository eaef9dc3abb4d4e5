-- Blocks cross at a Q-vertex exactly where the numbers of the blocks along its list take turns.
use Rattle.std.proofs.Common.{◌≡◌, ℕ, ◌<◌, ◌≤◌, true, eqb, List, [], ◌∷◌, length, map, slice_index, sym, refl, ap, ◌∙◌, subst, ⊎_elim, arith}
use Rattle.std.specs.Prelude.{Option, Some, None}
use Rattle.std.specs.List.{Contains}
use Rattle.std.specs.List.Sorted.{IsStrictlyIncreasing}
use Rattle.std.specs.Option.{option_map, option_map_or}
use Rattle.std.proofs.lemmas.Bool.{cases_Bool, cases_lt, cond-false, eqb-true, false≢true}
use Rattle.std.proofs.lemmas.List.{get_or-map, length-map}
use Rattle.std.proofs.lemmas.List.Elements.{Contains-get_or}
use Rattle.std.proofs.lemmas.List.Kept.{AllPairs-from_increasing}
use Rattle.std.proofs.lemmas.List.Sorted.{Contains-permutation, IsPermutation-sym}
use Rattle.cp_lists.proofs.ExactLists.{place_of}
use Rattle.cp_orbits.proofs.ClassLabels.{Contains-head, Contains-tail}
use Rattle.cp_conn.specs.Blocks.{AreInOneBlock}
use Rattle.cp_conn.specs.NamedGraphs.{InOneBlock, edges_at, rank}
use Rattle.cp_conn.specs.Numbering.{AreNumbered}
use Rattle.cp_conn.proofs.NamedGraphs.{edges_at-Contains}
use Rattle.cp_sync.specs.Numbering.{numbered}
use Rattle.cp_board.specs.declared.parts.Kind.{Kind}
use Rattle.cp_board.specs.declared.parts.Kind.TheVariants.{P, Q}
use Rattle.cp_board.specs.declared.parts.Vert.{Vert}
use Rattle.cp_board.specs.Instances.{IsSynchronized, Synchronized, edge_names, graph, is_q, is_q_kind, kind_of, kind_psi, names_of_verts, psi_at, vert_in, vert_names}
use Rattle.cp_board.specs.Blocks.{HaveCrossing}
use Rattle.cp_embed.proofs.BoardBlocks.{psi-ArrangesEdges}
use Rattle.cp_embed.proofs.NumberedBlocks.{number_of, one_number}
use Rattle.cp_flip.specs.TakingTurns.{TakeTurns}

-- what is found under a name has the name
found_live : (vs : List Vert) (v : ℕ) (x : Vert) → vert_in vs v ≡ Some x → Contains (names_of_verts vs) v
found_live [] v x e = absurd cc
found_live (y ∷ vs) v x e = ⊎_elim
    (λ t. subst (Contains (names_of_verts (y ∷ vs))) (eqb-true y.name v t) (Contains-head y.name (names_of_verts vs)))
    (λ f. Contains-tail y.name v (names_of_verts vs)
    (found_live vs v x (sym (cond-false (eqb y.name v) (Some y) (vert_in vs v) f) ∙ e)))
    (cases_Bool (eqb y.name v))

-- a vertex that has a kind is live
kind_live : (vs : List Vert) (v : ℕ) (k : Kind) (o : Option Vert) → vert_in vs v ≡ o
    → option_map (λ (x : Vert). x.kind) o ≡ Some k
    → Contains (names_of_verts vs) v
kind_live vs v k None e h = absurd cc
kind_live vs v k (Some x) e h = found_live vs v x e

-- a Q-vertex by its kind
kind_q : (o : Option Kind) → is_q_kind o ≡ true → (cell : ℕ) × (psi : List ℕ) × (o ≡ Some (Q cell psi))
kind_q None t = absurd (false≢true t)
kind_q (Some P) t = absurd (false≢true t)
kind_q (Some (Q cell psi)) t = (cell, psi, refl)

-- vertices at which blocks cross are live Q-vertices
pub crossing-is_q : (i : Synchronized) (q : ℕ) → HaveCrossing i q → is_q i q ≡ true
crossing-is_q i q h = ap is_q_kind h.kind

-- vertices at which blocks cross are live
pub crossing-live : (i : Synchronized) (q : ℕ) → HaveCrossing i q → Contains (vert_names i) q
crossing-live i q h = kind_live i.verts q (Q h.cell h.psi) (vert_in i.verts q) refl h.kind

module _ (i : Synchronized) (is : IsSynchronized i) (numbers : List ℕ)
    (are : AreNumbered (AreInOneBlock (numbered (graph i)).ends) (length (edge_names i)) numbers) (q : ℕ)
    (live : Contains (vert_names i) q) where
  -- the number of the block of an edge
  abbrev number : ℕ → ℕ
  number = number_of i is (length (edge_names i)) numbers refl are

  -- the numbers along the list
  abbrev along : List ℕ
  along = map number (psi_at i q)

  -- an item of the list is an edge
  pub psi-live : is_q i q ≡ true → (k : ℕ) → k < length (psi_at i q)
      → Contains (edge_names i) (slice_index (psi_at i q) k)
  psi-live t k lt =
      let perm = psi-ArrangesEdges i is q live t in
      (edges_at-Contains (graph i) q (slice_index (psi_at i q) k)
      (Contains-permutation (psi_at i q) (edges_at (graph i) q) (slice_index (psi_at i q) k)
      (IsPermutation-sym (edges_at (graph i) q) (psi_at i q) perm) (Contains-get_or (psi_at i q) k 0 lt))).0

  -- the number at a place
  number_at : (k : ℕ) → k < length (psi_at i q) → slice_index along k ≡ number (slice_index (psi_at i q) k)
  number_at k lt = get_or-map number (psi_at i q) k 0 0 lt

  -- numbers at two places are equal exactly where the edges are in one block
  numbers_one : is_q i q ≡ true → (j k : ℕ) → j < length (psi_at i q) → k < length (psi_at i q)
      → slice_index along j ≡ slice_index along k → InOneBlock (graph i) (slice_index (psi_at i q) j)
      (slice_index (psi_at i q) k)
  numbers_one t j k ltj ltk same =
      (one_number i is (length (edge_names i)) numbers refl are (slice_index (psi_at i q) j)
      (slice_index (psi_at i q) k) (psi-live t j ltj) (psi-live t k ltk)).0
      (sym (number_at j ltj) ∙ same ∙ number_at k ltk)

  -- and edges of one block have equal numbers
  one_numbers : is_q i q ≡ true → (j k : ℕ) → j < length (psi_at i q) → k < length (psi_at i q)
      → InOneBlock (graph i) (slice_index (psi_at i q) j) (slice_index (psi_at i q) k)
      → slice_index along j ≡ slice_index along k
  one_numbers t j k ltj ltk b =
      number_at j ltj
      ∙ (one_number i is (length (edge_names i)) numbers refl are (slice_index (psi_at i q) j)
      (slice_index (psi_at i q) k) (psi-live t j ltj) (psi-live t k ltk)).1 b
      ∙ sym (number_at k ltk)

  -- where numbers take turns blocks cross
  pub turns-HaveCrossing : is_q i q ≡ true → TakeTurns along → HaveCrossing i q
  turns-HaveCrossing t turns =
      let kind = kind_q (kind_of i q) t in
      let is_psi : psi_at i q ≡ kind.1 = ap (λ o. option_map_or kind_psi o []) kind.2 in
      let size : length along ≡ length (psi_at i q) = length-map (psi_at i q) number in
      let l4 : turns.fourth < length (psi_at i q) = omega (arith, turns.in_order.3, size) in
      let l3 : turns.third < length (psi_at i q) = omega (arith, turns.in_order.2, l4) in
      let l2 : turns.second < length (psi_at i q) = omega (arith, turns.in_order.1, l3) in
      let l1 : turns.first < length (psi_at i q) = omega (arith, turns.in_order.0, l2) in
      record {
        cell = kind.0;
        psi = psi_at i q;
        kind = kind.2 ∙ ap (λ xs. Some (Q kind.0 xs)) (sym is_psi);
        first = turns.first;
        second = turns.second;
        third = turns.third;
        fourth = turns.fourth;
        in_order = (turns.in_order.0, turns.in_order.1, turns.in_order.2, l4);
        one = numbers_one t turns.first turns.third l1 l3 turns.one;
        other = numbers_one t turns.second turns.fourth l2 l4 turns.other;
        apart = λ b. turns.apart (one_numbers t turns.first turns.second l1 l2 b);
      }

  -- and back
  pub HaveCrossing-turns : HaveCrossing i q → TakeTurns along
  HaveCrossing-turns h =
      let t = crossing-is_q i q h in
      let is_psi : psi_at i q ≡ h.psi = ap (λ o. option_map_or kind_psi o []) h.kind in
      let size : length along ≡ length (psi_at i q) = length-map (psi_at i q) number in
      let long : length (psi_at i q) ≡ length h.psi = ap length is_psi in
      let l4 : h.fourth < length (psi_at i q) = omega (arith, h.in_order.3, long) in
      let l3 : h.third < length (psi_at i q) = omega (arith, h.in_order.2, l4) in
      let l2 : h.second < length (psi_at i q) = omega (arith, h.in_order.1, l3) in
      let l1 : h.first < length (psi_at i q) = omega (arith, h.in_order.0, l2) in
      record {
        first = h.first;
        second = h.second;
        third = h.third;
        fourth = h.fourth;
        in_order = (h.in_order.0, h.in_order.1, h.in_order.2, omega (arith, l4, size));
        one = one_numbers t h.first h.third l1 l3
            (subst (λ xs. InOneBlock (graph i) (slice_index xs h.first) (slice_index xs h.third)) (sym is_psi) h.one);
        other = one_numbers t h.second h.fourth l2 l4
            (subst (λ xs. InOneBlock (graph i) (slice_index xs h.second) (slice_index xs h.fourth)) (sym is_psi)
            h.other);
        apart = λ same. h.apart
            (subst (λ xs. InOneBlock (graph i) (slice_index xs h.first) (slice_index xs h.second)) is_psi
            (numbers_one t h.first h.second l1 l2 same));
      }

-- the numbers along a list, as a program tells them
pub told_along : (names edges psi items numbers kept told : List ℕ) → edges ≡ names → items ≡ psi → told ≡ kept
    → kept ≡ map (λ e. slice_index numbers (rank edges e)) items
    → told ≡ map (λ e. slice_index numbers (rank names e)) psi
told_along names edges psi items numbers kept told is_names is_psi is_kept is_told =
    is_kept ∙ is_told
    ∙ ap (λ (xs : List ℕ). map (λ e. slice_index numbers (rank xs e)) items) is_names
    ∙ ap (map (λ e. slice_index numbers (rank names e))) is_psi

-- where none of the first vertices crosses, none less than the next one does
pub none_before : (i : Synchronized) → IsSynchronized i → (verts : List ℕ) (k : ℕ) → verts ≡ vert_names i
    → ((j : ℕ) → j < k → HaveCrossing i (slice_index verts j) → ⊥) → k < length verts
    → (r : ℕ) → r < slice_index verts k → HaveCrossing i r → ⊥
none_before i is verts k named none lt r less h =
    let p = place_of verts r (subst (λ xs. Contains xs r) (sym named) (crossing-live i r h)) in
    ⊎_elim
    (λ (l : p.0 < k). none p.0 l (subst (HaveCrossing i) (sym p.2) h))
    (λ (g : k ≤ p.0). ⊎_elim
    (λ (l : k < p.0).
    let up = AllPairs-from_increasing verts (subst IsStrictlyIncreasing (sym named) is.verts_named.rise) k p.0 0 l p.1
    in
    omega (arith, up, p.2, less))
    (λ (e : p.0 ≤ k). let same : p.0 ≡ k = omega (arith, g, e) in
    let at = ap (slice_index verts) same in omega (arith, at, p.2, less))
    (cases_lt k p.0))
    (cases_lt p.0 k)

-- where none of all vertices crosses, none does
pub none_at_all : (i : Synchronized) (verts : List ℕ) (k : ℕ) → verts ≡ vert_names i
    → ((j : ℕ) → j < k → HaveCrossing i (slice_index verts j) → ⊥) → length verts ≤ k
    → (r : ℕ) → HaveCrossing i r → ⊥
none_at_all i verts k named none le r h =
    let p = place_of verts r (subst (λ xs. Contains xs r) (sym named) (crossing-live i r h)) in
    none p.0 (omega (arith, p.1, le)) (subst (HaveCrossing i) (sym p.2) h)
