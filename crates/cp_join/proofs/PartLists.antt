-- The parts of the edges of a vertex: where each edge is, and what stands at its place.
use Rattle.std.proofs.Common.{◌≡◌, ℕ, zero, suc, ◌<◌, ◌≤◌, Bool, true, List, [], ◌∷◌, length, slice_index_or, ⊎_elim, arith}
use Rattle.std.specs.List.{Contains, flat_map, position_or_len}
use Rattle.std.specs.List.Sorted.{IsStrictlyIncreasing}
use Rattle.std.proofs.lemmas.Bool.{both_ways, cases_lt}
use Rattle.std.proofs.lemmas.List.Kept.{IsStrictlyIncreasing-filter}
use Rattle.std.proofs.lemmas.List.Sums.{fails_before_first, passes_at_first}
use Rattle.std.proofs.lemmas.List.Sorted.{IsPermutation-sym}
use Rattle.cp_lists.specs.CyclicLists.{Distinct, Has}
use Rattle.cp_lists.proofs.DistinctLists.{Distinct-apart, Distinct-append_right, Has-Contains, Has_at, has_lacks}
use Rattle.cp_conn.specs.NamedGraphs.{NamedGraph, edges_at, ends_at}
use Rattle.cp_board.specs.Names.{has}
use Rattle.cp_board.specs.Joins.{ArePartsAt, part_of, vertex_for}
use Rattle.cp_lists.proofs.PermutedLists.{Distinct-IsPermutation, Has-IsPermutation}
use Rattle.cp_join.proofs.RisingLists.{Distinct-rising, Has-flat_map, Has-some_part}
use Rattle.cp_join.proofs.NamedParts.{from_has, has_from, part_of_is}

-- the items of all parts
abbrev pub all_of : List (List ℕ) → List ℕ
all_of parts = flat_map (λ part. part) parts

-- distinct parts have no item in common
pub parts_apart : (parts : List (List ℕ)) (i j d : ℕ) → Distinct (all_of parts) → i < j → j < length parts
    → Has d (slice_index_or parts i []) → Has d (slice_index_or parts j []) → ⊥
parts_apart [] i j d once lt within h k = absurd (omega (arith, within))
parts_apart (part ∷ parts) i zero d once lt within h k = absurd (omega (arith, lt))
parts_apart (part ∷ parts) zero (suc j) d once lt within h k =
    has_lacks d (all_of parts) (Has-flat_map d parts j (omega (arith, within)) k)
    (Distinct-apart d part (all_of parts) once h)
parts_apart (part ∷ parts) (suc i) (suc j) d once lt within h k =
    parts_apart parts i j d (Distinct-append_right part (all_of parts) once) (omega (arith, lt)) (omega (arith, within)) h k

-- the part of an item
pub part_has : (parts : List (List ℕ)) (e : ℕ) → Has e (all_of parts)
    → (part_of parts e < length parts) × Has e (slice_index_or parts (part_of parts e) [])
part_has parts e h =
    let below : part_of parts e < length parts =
    ⊎_elim (λ lt. lt) (λ le. absurd (nowhere le)) (cases_lt (part_of parts e) (length parts)) in
    (below, from_has (slice_index_or parts (part_of parts e) []) e (passes_at_first (λ part. has part e) parts [] below))
  where
    r : (i : ℕ) × (i < length parts) × Has e (slice_index_or parts i [])
    r = Has-some_part e parts h

    nowhere : length parts ≤ part_of parts e → ⊥
    nowhere le = omega (
      arith,
      le,
      r.1,
      first_le (λ part. has part e) parts r.0 r.1
          (has_from (slice_index_or parts r.0 []) e r.2),
    )
      where
        first_le : (p : List ℕ → Bool) (xs : List (List ℕ)) (k : ℕ) → k < length xs → p (slice_index_or xs k []) ≡ true
            → position_or_len p xs ≤ k
        first_le p xs k lt t =
            ⊎_elim
            (λ l. absurd (both_ways (p (slice_index_or xs k [])) (fails_before_first p xs k [] l) t))
            (λ le'. le')
            (cases_lt k (position_or_len p xs))

-- an item of a part of distinct items has this part
pub part_is : (parts : List (List ℕ)) (i e : ℕ) → Distinct (all_of parts) → i < length parts
    → Has e (slice_index_or parts i []) → part_of parts e ≡ i
part_is parts i e once lt h =
    part_of_is parts i e lt h (λ j less k. parts_apart parts j i e once less lt k h)

-- the vertex for an item is one of the vertices
pub vertex_has : (parts : List (List ℕ)) (verts : List ℕ) (e : ℕ) → length verts ≡ length parts → Has e (all_of parts)
    → Has (vertex_for parts verts e) verts
vertex_has parts verts e size h = Has_at verts (part_of parts e) (omega (arith, size, (part_has parts e h).0))

module _ (g : NamedGraph) (u : ℕ) (parts : List (List ℕ)) (rise : IsStrictlyIncreasing g.edges)
    (are : ArePartsAt g u parts) where
  -- the parts together hold the edges of the vertex, each once
  pub all_once : Distinct (all_of parts)
  all_once = Distinct-IsPermutation (edges_at g u) (all_of parts) are.whole
      (Distinct-rising (edges_at g u) (IsStrictlyIncreasing-filter (ends_at g u) g.edges rise))

  -- an edge of the vertex is in a part
  pub all_has : (e : ℕ) → Contains (edges_at g u) e → Has e (all_of parts)
  all_has e c = Has-IsPermutation e (edges_at g u) (all_of parts) are.whole ((Has-Contains e (edges_at g u)).1 c)

  -- and each edge of a part is one of the vertex
  pub all_from : (e : ℕ) → Has e (all_of parts) → Contains (edges_at g u) e
  all_from e h = (Has-Contains e (edges_at g u)).0
      (Has-IsPermutation e (all_of parts) (edges_at g u) (IsPermutation-sym (edges_at g u) (all_of parts) are.whole) h)
