-- The edges of a cut vertex fall into at least two parts, so the powers of three of the sizes of its parts add up to
-- less than half the power of its degree.
use Rattle.std.proofs.Common.{◌≡◌, ℕ, ◌+◌, ◌*◌, ◌^◌, ◌<◌, ◌≤◌, Bool, true, false, ◌||◌, eqb, List, [], ◌∷◌, ◌++◌, length, map, sym, refl, ap, ◌∙◌, subst, inl, inr, arith}
use Rattle.std.specs.List.{All, Contains, flat_map, sum_by}
use Rattle.std.proofs.lemmas.Bool.{eq-eqb}
use Rattle.std.proofs.lemmas.List.{length-append, length-map, append-nil}
use Rattle.std.proofs.lemmas.List.Elements.{All-head, All-tail}
use Rattle.std.proofs.lemmas.List.Sorted.{Contains-permutation}
use Rattle.std.proofs.lemmas.List.Sums.{sum_by-cons, position_or_len_is}
use Rattle.cp_lists.specs.CyclicLists.{Has}
use Rattle.cp_lists.proofs.DistinctLists.{Has-Contains}
use Rattle.cp_orbits.specs.Connected.{Joins, Connected}
use Rattle.cp_conn.specs.CutVertex.{IsNeighbour, without_vertex}
use Rattle.cp_conn.specs.NamedGraphs.{NamedGraph, IsCut, pairs, edges_at, far}
use Rattle.cp_conn.proofs.NamedGraphs.{pairs_from, Contains-edges_at, joins_ends, joins_far}
use Rattle.cp_board.specs.declared.parts.Pipe.{Pipe}
use Rattle.cp_board.specs.Names.{has}
use Rattle.cp_board.specs.Steps.{degree}
use Rattle.cp_board.specs.Joins.{ArePartsAt, part_of, part_pipes}
use Rattle.cp_runlaw.proofs.Powers.{two_powers, both_powers}

-- an edge leads to each neighbour
edge_to : (g : NamedGraph) (u x : ℕ) → IsNeighbour (pairs g) u x
    → (e : ℕ) × Contains (edges_at g u) e × (far g u e ≡ x)
edge_to g u x near =
    let f = pairs_from g near.pair near.contained in
    let j : Joins (g.ends f.0) u x = subst (λ (q : ℕ × ℕ). Joins q u x) (sym f.2) near.joined in
    (f.0, Contains-edges_at g u f.0 f.1 (joins_ends g u x f.0 j), joins_far g u x f.0 j)

-- an item passes the test for it
has_of : (xs : List ℕ) (e : ℕ) → Has e xs → has xs e ≡ true
has_of [] e h = absurd h
has_of (x ∷ xs) e (inl h) = ap (λ b. b || has xs e) (eq-eqb e x (sym h))
has_of (x ∷ xs) e (inr h) = ap (λ b. eqb e x || b) (has_of xs e h) ∙ or_true (eqb e x)
  where
    or_true : (b : Bool) → (b || true) ≡ true
    or_true true = refl
    or_true false = refl

-- where there is one part, each of its edges is in it
only_part : (x : List ℕ) (e : ℕ) → Contains (x ++ []) e → part_of (x ∷ []) e ≡ 0
only_part x e c =
    position_or_len_is (λ part. has part e) (x ∷ []) 0 [] (omega arith) (λ k lt. absurd (omega arith))
    (λ lt. has_of x e ((Has-Contains e x).1 (subst (λ ys. Contains ys e) (append-nil x) c)))

-- a cut vertex has at least two parts
pub two_parts : (g : NamedGraph) (u : ℕ) (parts : List (List ℕ)) → ArePartsAt g u parts → IsCut g u → 2 ≤ length parts
two_parts g u [] are cut =
    let e = edge_to g u cut.one cut.near_one in
    let c : Contains {X = ℕ} [] e.0 = Contains-permutation (edges_at g u) [] e.0 are.whole e.1 in
    absurd ((Has-Contains e.0 []).1 c)
two_parts g u (x ∷ []) are cut =
    let e = edge_to g u cut.one cut.near_one in
    let f = edge_to g u cut.two cut.near_two in
    let ce = only_part x e.0 (Contains-permutation (edges_at g u) (x ++ []) e.0 are.whole e.1) in
    let cf = only_part x f.0 (Contains-permutation (edges_at g u) (x ++ []) f.0 are.whole f.1) in
    let joined : Connected (without_vertex u (pairs g)) (far g u e.0) (far g u f.0) =
    (are.one e.0 f.0 e.1 f.1).0 (ce ∙ sym cf) in
    absurd (cut.apart (subst (λ y. Connected (without_vertex u (pairs g)) cut.one y) f.2
    (subst (λ y. Connected (without_vertex u (pairs g)) y (far g u f.0)) e.2 joined)))
two_parts g u (x ∷ y ∷ zs) are cut = omega arith

-- the sum over parts that are not empty is at most three to the number of their items
parts_le : (parts : List (List ℕ)) → All (λ part. 0 < length part) parts
    → sum_by (λ (part : List ℕ). 3 ^ length part) parts ≤ 3 ^ length (flat_map (λ part. part) parts)
parts_le [] filled = omega arith
parts_le (x ∷ []) filled =
    omega (
      arith,
      sum_by-cons (λ (part : List ℕ). 3 ^ length part) x [],
      ap (λ (zs : List ℕ). 3 ^ length zs)
          (append-nil x),
    )
parts_le (x ∷ y ∷ zs) filled =
    let w : List ℕ → ℕ = λ part. 3 ^ length part in
    let first : 0 < length x = All-head (λ (part : List ℕ). 0 < length part) x (y ∷ zs) filled in
    let rest = All-tail (λ (part : List ℕ). 0 < length part) x (y ∷ zs) filled in
    let second : 0 < length y = All-head (λ (part : List ℕ). 0 < length part) y zs rest in
    let r = parts_le (y ∷ zs) rest in
    let ys : List ℕ = flat_map (λ (part : List ℕ). part) (y ∷ zs) in
    let some : 1 ≤ length ys = omega (arith, second, length-append y (flat_map (λ (part : List ℕ). part) zs)) in
    let both = both_powers (length x) (length ys) (omega arith) some in
    omega (arith, r, both, sum_by-cons w x (y ∷ zs), ap (λ n. 3 ^ n) (length-append x ys))

-- and over at least two, with at least three items, twice the sum is less
pub parts_half : (parts : List (List ℕ)) → All (λ part. 0 < length part) parts → 2 ≤ length parts
    → 3 ≤ length (flat_map (λ part. part) parts)
    → 2 * sum_by (λ (part : List ℕ). 3 ^ length part) parts < 3 ^ length (flat_map (λ part. part) parts)
parts_half [] filled two three = absurd (omega arith)
parts_half (x ∷ []) filled two three = absurd (omega arith)
parts_half (x ∷ y ∷ zs) filled two three =
    let w : List ℕ → ℕ = λ part. 3 ^ length part in
    let first : 0 < length x = All-head (λ (part : List ℕ). 0 < length part) x (y ∷ zs) filled in
    let rest = All-tail (λ (part : List ℕ). 0 < length part) x (y ∷ zs) filled in
    let second : 0 < length y = All-head (λ (part : List ℕ). 0 < length part) y zs rest in
    let r = parts_le (y ∷ zs) rest in
    let ys : List ℕ = flat_map (λ (part : List ℕ). part) (y ∷ zs) in
    let some : 1 ≤ length ys = omega (arith, second, length-append y (flat_map (λ (part : List ℕ). part) zs)) in
    let total : 3 ≤ length x + length ys = omega (arith, three, length-append x ys) in
    let both = two_powers (length x) (length ys) (omega arith) some total in
    omega (arith, r, both, sum_by-cons w x (y ∷ zs), ap (λ n. 3 ^ n) (length-append x ys))

-- the pipes of parts have no more than the sum over the parts
pub part_pipes_le : (hat : ℕ → ℕ) (names outer inner : List ℕ) (parts : List (List ℕ))
    → sum_by (λ (p : Pipe). 3 ^ degree p) (part_pipes hat names outer inner parts)
    ≤ sum_by (λ (part : List ℕ). 3 ^ length part) parts
part_pipes_le hat [] outer inner parts = omega arith
part_pipes_le hat (n ∷ ns) [] inner parts = omega arith
part_pipes_le hat (n ∷ ns) (o ∷ os) [] parts = omega arith
part_pipes_le hat (n ∷ ns) (o ∷ os) (i ∷ is) [] = omega arith
part_pipes_le hat (n ∷ ns) (o ∷ os) (i ∷ is) (part ∷ parts) =
    let r = part_pipes_le hat ns os is parts in
    let same : length (map (λ (e : ℕ). (e, hat e)) part) ≡ length part =
    length-map {B = ℕ × ℕ} part (λ e. (e, hat e)) in
    let p : Pipe = record { name = n; a = o; b = i; pairs = map (λ e. (e, hat e)) part } in
    omega (
      arith,
      r,
      sum_by-cons (λ (p : Pipe). 3 ^ degree p) p (part_pipes hat ns os is parts),
      sum_by-cons
          (λ (z : List ℕ). 3 ^ length z) part parts,
      ap (λ k. 3 ^ k) same,
    )
