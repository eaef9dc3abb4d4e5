-- The blocks at a vertex of the numbered graph, by the names of their edges, are the parts at the vertex.
use Rattle.std.proofs.Common.{◌≡◌, ◌≢◌, ℕ, ◌+◌, ◌<◌, ◌↔◌, true, false, eqb, List, [], ◌∷◌, length, map, slice_index, slice_index_or, sym, refl, ap, ◌∙◌, subst, subst₂, inl, inr, ⊎_elim, arith}
use Rattle.std.specs.List.{All, Contains, flat_map}
use Rattle.std.specs.List.Sorted.{IsStrictlyIncreasing}
use Rattle.std.proofs.lemmas.Bool.{cases_Bool, eq-eqb, eqb-true, or_cases, or_left, or_right}
use Rattle.std.proofs.lemmas.List.{get_or-map, get_or_default, length-map}
use Rattle.std.proofs.lemmas.List.Elements.{Contains-get_or}
use Rattle.std.proofs.lemmas.List.Kept.{IsStrictlyIncreasing-filter}
use Rattle.std.proofs.lemmas.List.Sums.{position_or_len_is}
use Rattle.cp_lists.specs.CyclicLists.{Distinct, Has}
use Rattle.cp_lists.proofs.DistinctLists.{Distinct-once, Has-Contains, Has-place, Has_at}
use Rattle.cp_base.specs.Graphs.{AreWithin}
use Rattle.cp_conn.specs.Blocks.{HaveNoLoop, AreInOneBlock, AreBlocksAt, Touches, item}
use Rattle.cp_conn.specs.NamedGraphs.{NamedGraph, pairs, ends_at, edges_at, rank}
use Rattle.cp_conn.proofs.BlockParts.{StandsIn, HasWholeBlocks, blocks_of_part}
use Rattle.cp_conn.proofs.NamedGraphs.{rank_at, rank_is, length-pairs, edges_at-Contains, Contains-edges_at, InOneBlock_at, edge_at}
use Rattle.cp_sync.specs.Numbering.{numbered_ends}
use Rattle.cp_board.specs.Names.{has}
use Rattle.cp_board.specs.Joins.{ArePartsAt, part_of}
use Rattle.cp_board.proofs.ListTests.{Contains-from_has}
use Rattle.cp_lists.proofs.PermutedLists.{IsPermutation-from}
use Rattle.cp_join.proofs.RisingLists.{Distinct-rising, Distinct-flat_map, Has-flat_map, Has-some_part, rising_order}

-- an item passes the test for it
pub has_from : (xs : List ℕ) (x : ℕ) → Has x xs → has xs x ≡ true
has_from [] x h = absurd h
has_from (y ∷ ys) x h =
    ⊎_elim
    (λ e. or_left (eqb x y) (has ys x) (eq-eqb x y (sym e)))
    (λ k. or_right (eqb x y) (has ys x) (has_from ys x k))
    h

-- and what passes is an item
pub from_has : (xs : List ℕ) (x : ℕ) → has xs x ≡ true → Has x xs
from_has xs x t = (Has-Contains x xs).1 (Contains-from_has xs x t)

-- what is no item fails the test
pub has_not : (xs : List ℕ) (x : ℕ) → (Has x xs → ⊥) → has xs x ≡ false
has_not xs x off = ⊎_elim (λ t. absurd (off (from_has xs x t))) (λ f. f) (cases_Bool (has xs x))

-- the place of the part of an edge that only one part has
pub part_of_is : (parts : List (List ℕ)) (i e : ℕ) → i < length parts → Has e (slice_index_or parts i [])
    → ((j : ℕ) → j < i → Has e (slice_index_or parts j []) → ⊥)
    → part_of parts e ≡ i
part_of_is parts i e lt here before =
    position_or_len_is (λ part. has part e) parts i [] (omega (arith, lt))
    (λ k less. has_not (slice_index_or parts k []) e (before k less))
    (λ l. has_from (slice_index_or parts i []) e here)

module _
    (g : NamedGraph)
    (verts_rise : IsStrictlyIncreasing g.verts)
    (edges_rise : IsStrictlyIncreasing g.edges)
    (live : (e : ℕ) → Contains g.edges e
    → Contains g.verts (g.ends e).0 × Contains g.verts (g.ends e).1 × ((g.ends e).0 ≢ (g.ends e).1)) where
  -- the ends of the numbered edges
  abbrev numbered : List (ℕ × ℕ)
  numbered = map (numbered_ends g) g.edges

  -- the name of a number
  abbrev name : ℕ → ℕ
  name k = slice_index g.edges k

  -- equal ranks are those of one vertex
  rank_one : (x y : ℕ) → Contains g.verts x → Contains g.verts y → rank g.verts x ≡ rank g.verts y → x ≡ y
  rank_one x y cx cy e = sym (rank_at g.verts x cx).1 ∙ ap (slice_index g.verts) e ∙ (rank_at g.verts y cy).1

  -- the pair of the edge at a place
  numbered_at : (k : ℕ) → k < length g.edges
      → slice_index_or numbered k (0, 0) ≡ (rank g.verts (g.ends (name k)).0, rank g.verts (g.ends (name k)).1)
  numbered_at k lt = get_or-map (numbered_ends g) g.edges k 0 (0, 0) lt

  -- is one of an edge
  named_live : (k : ℕ) → k < length g.edges → Contains g.edges (name k)
  named_live k lt = Contains-get_or g.edges k 0 lt

  -- the ends are numbers of vertices
  pub within : AreWithin (length g.verts) numbered
  within k lt =
      let l : k < length g.edges = omega (arith, lt, length-map g.edges (numbered_ends g)) in
      let ends = live (name k) (named_live k l) in
      subst (λ (x : ℕ × ℕ). (x.0 < length g.verts) × (x.1 < length g.verts)) (sym (numbered_at k l))
      ((rank_at g.verts (g.ends (name k)).0 ends.0).0, (rank_at g.verts (g.ends (name k)).1 ends.1).0)

  -- no numbered edge is a loop
  pub no_loop : HaveNoLoop numbered
  no_loop k lt e =
      let l : k < length g.edges = omega (arith, lt, length-map g.edges (numbered_ends g)) in
      let ends = live (name k) (named_live k l) in
      ends.2
      (rank_one (g.ends (name k)).0 (g.ends (name k)).1 ends.0 ends.1
      (sym (ap (λ (x : ℕ × ℕ). x.0) (numbered_at k l)) ∙ e ∙ ap (λ (x : ℕ × ℕ). x.1) (numbered_at k l)))

  -- nor one under its name
  named_no_loop : HaveNoLoop (pairs g)
  named_no_loop k lt e =
      let at = edge_at g k lt in
      (live (name k) at.0).2
      (ap (λ (x : ℕ × ℕ). x.0) at.1 ∙ e ∙ sym (ap (λ (x : ℕ × ℕ). x.1) at.1))

  -- the numbered graph stands in the named one
  stands : StandsIn (length g.verts) numbered (pairs g) (λ k. k) (slice_index g.verts)
  stands = record {
    within = within;
    edge_within = λ k lt. omega (arith, lt, length-map g.edges (numbered_ends g), length-pairs g);
    edges_apart = λ i j li lj e. e;
    vertices_apart = λ x y lx ly e. Distinct-once g.verts (Distinct-rising g.verts verts_rise) x y lx ly e;
    ends = λ k lt.
        let l : k < length g.edges = omega (arith, lt, length-map g.edges (numbered_ends g)) in
        let at = edge_at g k (omega (arith, l, length-pairs g)) in
        let ends = live (name k) at.0 in
        inl (
          sym (ap (λ (x : ℕ × ℕ). x.0) at.1)
              ∙ sym (rank_at g.verts (g.ends (name k)).0 ends.0).1
              ∙ sym (ap (λ (x : ℕ × ℕ). slice_index g.verts x.0) (numbered_at k l)),
          sym (ap (λ (x : ℕ × ℕ). x.1) at.1)
              ∙ sym (rank_at g.verts (g.ends (name k)).1 ends.1).1
              ∙ sym (ap (λ (x : ℕ × ℕ). slice_index g.verts x.1) (numbered_at k l)),
        );
  }

  -- each block of the numbered graph is whole in the named one
  whole_blocks : HasWholeBlocks numbered (pairs g) (λ k. k)
  whole_blocks i f lt block = (f, below, refl)
    where
      same : length (pairs g) ≡ length numbered
      same = length-pairs g ∙ sym (length-map g.edges (numbered_ends g))

      below : f < length numbered
      below =
          ⊎_elim
          (λ e. omega (arith, e, lt))
          (λ q. omega (arith, q.1.within q.3.0 q.3.1, q.3.2, same))
          block

  -- so the blocks are the same
  same_blocks : (i j : ℕ) → i < length g.edges → j < length g.edges
      → AreInOneBlock numbered i j ↔ AreInOneBlock (pairs g) i j
  same_blocks i j li lj =
      blocks_of_part (length g.verts) numbered (pairs g) (λ k. k) (slice_index g.verts) stands whole_blocks i j
      (omega (arith, li, length-map g.edges (numbered_ends g)))
      (omega (arith, lj, length-map g.edges (numbered_ends g)))

  module _ (u : ℕ) (vertex : Contains g.verts u) (numbers : List (List ℕ))
      (are : AreBlocksAt numbered (rank g.verts u) numbers) where
    -- the parts by their names
    abbrev parts : List (List ℕ)
    parts = map (map name) numbers

    -- the number of an edge of a part
    abbrev number : ℕ → ℕ → ℕ
    number i k = item numbers i k

    -- an edge at the vertex is one that ends there, in the graph of numbers and in that of names
    ends_there : (k : ℕ) → k < length g.edges → Touches numbered (rank g.verts u) k → ends_at g u (name k) ≡ true
    ends_there k lt touches =
        let ends = live (name k) (named_live k lt) in
        ⊎_elim
        (λ e. or_left (eqb (g.ends (name k)).0 u) (eqb (g.ends (name k)).1 u) (eq-eqb (g.ends (name k)).0 u
        (rank_one (g.ends (name k)).0 u ends.0 vertex (sym (ap (λ (x : ℕ × ℕ). x.0) (numbered_at k lt)) ∙ e))))
        (λ e. or_right (eqb (g.ends (name k)).0 u) (eqb (g.ends (name k)).1 u) (eq-eqb (g.ends (name k)).1 u
        (rank_one (g.ends (name k)).1 u ends.1 vertex (sym (ap (λ (x : ℕ × ℕ). x.1) (numbered_at k lt)) ∙ e))))
        touches

    -- an edge at the vertex is at its number
    touches_there : (k : ℕ) → k < length g.edges → ends_at g u (name k) ≡ true → Touches numbered (rank g.verts u) k
    touches_there k lt t =
        ⊎_elim
        (λ h. inl (ap (λ (x : ℕ × ℕ). x.0) (numbered_at k lt)
        ∙ ap (rank g.verts) (eqb-true (g.ends (name k)).0 u h)))
        (λ h. inr (ap (λ (x : ℕ × ℕ). x.1) (numbered_at k lt)
        ∙ ap (rank g.verts) (eqb-true (g.ends (name k)).1 u h)))
        (or_cases (eqb (g.ends (name k)).0 u) (eqb (g.ends (name k)).1 u) t)

    -- a part by its numbers
    part_at : (i : ℕ) → i < length numbers → slice_index_or parts i [] ≡ map name (slice_index_or numbers i [])
    part_at i lt = get_or-map (map name) numbers i [] [] lt

    -- the number of an edge of a part is one of an edge
    number_below : (i k : ℕ) → i < length numbers → k < length (slice_index_or numbers i [])
        → number i k < length g.edges
    number_below i k li lk = omega (arith, (are.touching i k li lk).0, length-map g.edges (numbered_ends g))

    -- each number in the parts is that of an edge
    pub numbers_below : All (All (λ k. k < length g.edges)) numbers
    numbers_below i d li k e lk =
        let part = slice_index_or numbers i [] in
        let same : part ≡ slice_index_or numbers i d = get_or_default numbers i [] d li in
        let size = ap length same in
        let lt : k < length part = omega (arith, lk, size) in
        subst (λ xs. slice_index_or xs k e < length g.edges) same
        (subst (λ n. n < length g.edges) (get_or_default part k 0 e lt) (number_below i k li lt))

    -- the edges of a part
    from_part : (i d : ℕ) → i < length numbers → Has d (slice_index_or parts i [])
        → (k : ℕ) × (k < length (slice_index_or numbers i [])) × (name (number i k) ≡ d)
    from_part i d lt h =
        let w = Has-place d (map name (slice_index_or numbers i [])) (subst (Has d) (part_at i lt) h) in
        let below : w.0 < length (slice_index_or numbers i []) =
        omega (arith, w.1, length-map (slice_index_or numbers i []) name) in
        (w.0, below, sym (get_or-map name (slice_index_or numbers i []) w.0 0 0 below) ∙ w.2)

    -- the edges of a part by their names
    in_part : (i k : ℕ) → i < length numbers → k < length (slice_index_or numbers i [])
        → Has (name (number i k)) (slice_index_or parts i [])
    in_part i k li lk =
        subst (Has (name (number i k))) (sym (part_at i li))
        (subst (λ d. Has d (map name (slice_index_or numbers i [])))
        (get_or-map name (slice_index_or numbers i []) k 0 0 lk)
        (Has_at (map name (slice_index_or numbers i [])) k
        (omega (arith, lk, length-map (slice_index_or numbers i []) name))))

    -- the rank of a named number
    rank_of_name : (k : ℕ) → k < length g.edges → rank g.edges (name k) ≡ k
    rank_of_name k lt = rank_is g.edges k (name k) (Distinct-rising g.edges edges_rise) lt refl

    -- an edge is in one part alone
    one_part : (i j d : ℕ) → i < length numbers → j < length numbers → Has d (slice_index_or parts i [])
        → Has d (slice_index_or parts j []) → i ≡ j
    one_part i j d li lj hi hj =
        let a = from_part i d li hi in
        let b = from_part j d lj hj in
        let same : number i a.0 ≡ number j b.0 =
        sym (rank_of_name (number i a.0) (number_below i a.0 li a.1))
        ∙ ap (rank g.edges) (a.2 ∙ sym b.2)
        ∙ rank_of_name (number j b.0) (number_below j b.0 lj b.1) in
        (are.by_block i j a.0 b.0 li lj a.1 b.1).0 (inl same)

    -- each edge of the vertex is in a part
    some_part : (e : ℕ) → Contains (edges_at g u) e
        → (i : ℕ) × (i < length numbers)
        × ((k : ℕ) × (k < length (slice_index_or numbers i [])) × (number i k ≡ rank g.edges e))
    some_part e c =
        let h = edges_at-Contains g u e c in
        let at = rank_at g.edges e h.0 in
        let r = are.all (rank g.edges e) (omega (arith, at.0, length-map g.edges (numbered_ends g)))
        (touches_there (rank g.edges e) at.0 (subst (λ n. ends_at g u n ≡ true) (sym at.1) h.1)) in (
          r.0,
          r.1,
          (
            r.2.0,
            r.2.1,
            get_or_default (slice_index_or numbers r.0 []) r.2.0 0 (rank g.edges e) r.2.1 ∙ r.2.2,
          ),
        )

    -- each edge of the vertex is in a part
    in_some : (e : ℕ) (c : Contains (edges_at g u) e) → Has e (slice_index_or parts (some_part e c).0 [])
    in_some e c =
        let r = some_part e c in
        subst (λ d. Has d (slice_index_or parts r.0 []))
        (ap name r.2.2 ∙ (rank_at g.edges e (edges_at-Contains g u e c).0).1)
        (in_part r.0 r.2.0 r.1 r.2.1)

    -- the place of its part
    part_is : (e : ℕ) (c : Contains (edges_at g u) e) → part_of parts e ≡ (some_part e c).0
    part_is e c =
        let r = some_part e c in
        part_of_is parts r.0 e (omega (arith, r.1, length-map numbers (map name))) (in_some e c)
        (λ j lt h. let same = one_part j r.0 e (omega (arith, lt, r.1)) r.1 h (in_some e c) in
        omega (arith, lt, same))

    -- names rise with numbers
    part_rises : (i : ℕ) → i < length numbers → IsStrictlyIncreasing (map name (slice_index_or numbers i []))
    part_rises i lt k within =
        let part = slice_index_or numbers i [] in
        let size : length (map name part) ≡ length part = length-map part name in
        let less : number i k < number i (k + 1) = are.rising i k (k + 1) lt (omega arith) (omega (arith, within, size)) in
        subst₂ (λ x y. x < y)
        (sym (get_or-map name part k 0 0 (omega (arith, within, size))))
        (sym (get_or-map name part (k + 1) 0 0 (omega (arith, within, size))))
        (rising_order g.edges edges_rise (number i k) (number i (k + 1)) less
        (number_below i (k + 1) lt (omega (arith, within, size))))

    -- the least edge of a part
    first_of_part : (i : ℕ) → i < length numbers
        → slice_index (map (λ part. slice_index part 0) parts) i ≡ name (number i 0)
    first_of_part i lt =
        get_or-map (λ part. slice_index part 0) parts i [] 0 (omega (arith, lt, length-map numbers (map name)))
        ∙ ap (λ part. slice_index part 0) (part_at i lt)
        ∙ get_or-map name (slice_index_or numbers i []) 0 0 0 (are.filled i lt)

    -- so they are the parts of the vertex
    pub named_parts : ArePartsAt g u parts
    named_parts = record {
      whole = IsPermutation-from (edges_at g u) (flat_map (λ part. part) parts)
          (Distinct-rising (edges_at g u) (IsStrictlyIncreasing-filter (ends_at g u) g.edges edges_rise))
          (Distinct-flat_map parts
          (λ i lt. subst Distinct (sym (part_at i (below i lt)))
          (Distinct-rising (map name (slice_index_or numbers i [])) (part_rises i (below i lt))))
          (λ i j d lt l h k. let e = one_part i j d (below i (omega (arith, lt, l))) (below j l) h k in
          omega (arith, e, lt)))
          (λ d h. let c = (Has-Contains d (edges_at g u)).0 h in
          Has-flat_map d parts (some_part d c).0
          (omega (arith, (some_part d c).1, length-map numbers (map name))) (in_some d c))
          (λ d h. let r = Has-some_part d parts h in
          let k = from_part r.0 d (below r.0 r.1) r.2 in
          let lt = number_below r.0 k.0 (below r.0 r.1) k.1 in
          (Has-Contains d (edges_at g u)).1
          (subst (Contains (edges_at g u)) k.2
          (Contains-edges_at g u (name (number r.0 k.0)) (named_live (number r.0 k.0) lt)
          (ends_there (number r.0 k.0) lt (are.touching r.0 k.0 (below r.0 r.1) k.1).1))));
      filled = λ i d lt.
          subst (λ part. 0 < length part) (get_or_default parts i [] d lt)
          (subst (λ part. 0 < length part) (sym (part_at i (below i lt)))
          (omega (arith, are.filled i (below i lt), length-map (slice_index_or numbers i []) name)));
      rise = λ i d lt.
          subst IsStrictlyIncreasing (get_or_default parts i [] d lt)
          (subst IsStrictlyIncreasing (sym (part_at i (below i lt))) (part_rises i (below i lt)));
      by_least = λ i lt.
          let l : i + 1 < length numbers =
          omega (arith, lt, length-map parts (λ (part : List ℕ). slice_index part 0), length-map numbers (map name)) in
          subst₂ (λ x y. x < y) (sym (first_of_part i (omega (arith, l)))) (sym (first_of_part (i + 1) l))
          (rising_order g.edges edges_rise (number i 0) (number (i + 1) 0) (are.by_least i (i + 1) (omega arith) l)
          (number_below (i + 1) 0 l (are.filled (i + 1) l)));
      one = λ e f ce cf.
          let a = some_part e ce in
          let b = some_part f cf in
          let le = (rank_at g.edges e (edges_at-Contains g u e ce).0).0 in
          let lf = (rank_at g.edges f (edges_at-Contains g u f cf).0).0 in
          let by = are.by_block a.0 b.0 a.2.0 b.2.0 a.1 b.1 a.2.1 b.2.1 in
          let joint = InOneBlock_at g u e f named_no_loop ce cf in
          let same = same_blocks (rank g.edges e) (rank g.edges f) le lf in (
            λ h. joint.0
                (same.0
                (subst₂ (AreInOneBlock numbered) a.2.2 b.2.2
                (by.1 (sym (part_is e ce) ∙ h ∙ part_is f cf)))),
            λ h. part_is e ce
                ∙ by.0 (subst₂ (AreInOneBlock numbered) (sym a.2.2) (sym b.2.2) (same.1 (joint.1 h)))
                ∙ sym (part_is f cf),
          );
    }
      where
        below : (i : ℕ) → i < length parts → i < length numbers
        below i lt = omega (arith, lt, length-map numbers (map name))
