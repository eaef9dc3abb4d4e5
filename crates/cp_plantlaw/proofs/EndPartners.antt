-- The partners of the edges of a pipe, from either end, and the mirror of a list.
use Rattle.std.proofs.Common.{◌≡◌, ◌≢◌, ℕ, ◌<◌, true, false, cond, eqb, List, [], ◌∷◌, length, map, reverse, slice_index_or, sym, refl, ap, ◌∙◌, subst, ⊎_elim, IsPermutation}
use Rattle.std.specs.Prelude.{Some, find}
use Rattle.std.specs.List.{All, Contains}
use Rattle.std.specs.Option.{option_map_or}
use Rattle.std.proofs.lemmas.Bool.{cond-false, cond-true, eq-eqb, ne_eqb}
use Rattle.std.proofs.lemmas.List.{get_or_default, reverse-reverse}
use Rattle.std.proofs.lemmas.List.Elements.{All-contains, All-nil, All-cons, All-head, All-tail}
use Rattle.std.proofs.lemmas.List.Sorted.{Contains-permutation, IsPermutation-map, IsPermutation-reverse, IsPermutation-sym, IsPermutation-trans}
use Rattle.cp_lists.specs.CyclicLists.{Distinct, Has}
use Rattle.cp_lists.specs.Turns.{IsTurn}
use Rattle.cp_lists.proofs.DistinctLists.{Has-Contains, has_lacks}
use Rattle.cp_lists.proofs.FilteredLists.{filter-Distinct}
use Rattle.cp_lists.proofs.MappedLists.{map_undone}
use Rattle.cp_lists.proofs.PermutedLists.{Distinct-IsPermutation}
use Rattle.cp_lists.proofs.ReversedLists.{map-reverse}
use Rattle.cp_lists.proofs.TurnedLists.{turn-map, turn-reverse, turn-sym}
use Rattle.cp_conn.specs.NamedGraphs.{NamedGraph, edges_at, ends_at}
use Rattle.cp_conn.proofs.NamedGraphs.{map_from, map_has}
use Rattle.cp_board.specs.declared.parts.Pipe.{Pipe}
use Rattle.cp_board.specs.Instances.{Synchronized, IsSynchronized, HasRightPairs, graph}
use Rattle.cp_board.specs.Rotations.{ArrangesEdges}
use Rattle.cp_board.specs.Solutions.{IsMirror, first_of, second_of}
use Rattle.cp_board.specs.Steps.{IsEnd, opposite, partner}
use Rattle.cp_synclaw.proofs.InstanceDarts.{edges_once}

-- in a list with names of its own each item is found under its name
pub found_own : {A : Type 0} (name : A → ℕ) (xs : List A) → Distinct (map name xs)
    → All (λ x. find (λ y. eqb (name y) (name x)) xs ≡ Some x) xs
found_own name [] once = All-nil (λ x. find (λ y. eqb (name y) (name x)) [] ≡ Some x)
found_own {A} name (z ∷ xs) once =
    All-cons (λ x. find (λ y. eqb (name y) (name x)) (z ∷ xs) ≡ Some x) z xs
    (cond-true (eqb (name z) (name z)) (Some z) (find (λ y. eqb (name y) (name z)) xs) (eq-eqb (name z) (name z) refl))
    (λ k d lt.
    let x : A = slice_index_or xs k d in
    let there : Has (name x) (map name xs) =
    (Has-Contains (name x) (map name xs)).1 (map_has name xs x (k, lt, own k d lt)) in
    cond-false (eqb (name z) (name x)) (Some z) (find (λ y. eqb (name y) (name x)) xs)
    (ne_eqb (name z) (name x) (λ e. has_lacks (name z) (map name xs) (subst (λ n. Has n (map name xs)) (sym e) there)
    once.0))
    ∙ found_own name xs once.1 k d lt)
  where
    own : (k : ℕ) (d : A) (lt : k < length xs) → slice_index_or xs k (slice_index_or xs k d) ≡ slice_index_or xs k d
    own k d lt = get_or_default xs k (slice_index_or xs k d) d lt

-- items that are taken one by one
map_each : {A : Type 0} (f : ℕ → ℕ) (from to : A → ℕ) (xs : List A) → All (λ x. f (from x) ≡ to x) xs
    → map f (map from xs) ≡ map to xs
map_each f from to [] all = refl
map_each f from to (x ∷ xs) all =
    ap (λ y. y ∷ map f (map from xs)) (All-head (λ y. f (from y) ≡ to y) x xs all)
    ∙ ap (λ ys. to x ∷ ys) (map_each f from to xs (All-tail (λ y. f (from y) ≡ to y) x xs all))

-- a pipe of an instance
module _ (i : Synchronized) (is : IsSynchronized i) (p : Pipe) (differ : p.a ≢ p.b)
    (right : HasRightPairs (graph i) p) where
  -- the graph
  abbrev g : NamedGraph
  g = graph i

  -- the edges of the two ends in the order of the pairs
  abbrev firsts : List ℕ
  firsts = map (λ x. x.0) p.pairs

  -- the edges of the second end, in the order of the pairs
  abbrev seconds : List ℕ
  seconds = map (λ x. x.1) p.pairs

  -- no edge stands twice
  pub edges_at-Distinct : (v : ℕ) → Distinct (edges_at g v)
  edges_at-Distinct v = filter-Distinct (ends_at g v) g.edges (edges_once i is)

  -- each first edge has its second, and the other way round
  seconds_found : All (λ x. second_of p x.0 ≡ x.1) p.pairs
  seconds_found k d lt =
      ap (λ o. option_map_or (λ z. z.1) o 0)
      (found_own (λ x. x.0) p.pairs (subst Distinct (sym right.first) (edges_at-Distinct p.a)) k d lt)

  -- each second edge has its first
  firsts_found : All (λ x. first_of p x.1 ≡ x.0) p.pairs
  firsts_found k d lt =
      ap (λ o. option_map_or (λ z. z.0) o 0)
      (found_own (λ x. x.1) p.pairs
      (Distinct-IsPermutation (edges_at g p.b) seconds right.second (edges_at-Distinct p.b)) k d lt)

  -- the partners of an end
  pub seconds_are : map (second_of p) firsts ≡ seconds
  seconds_are = map_each (second_of p) (λ x. x.0) (λ x. x.1) p.pairs seconds_found

  -- the partners of the edges of the second end are those of the first
  firsts_are : map (first_of p) seconds ≡ firsts
  firsts_are = map_each (first_of p) (λ x. x.1) (λ x. x.0) p.pairs firsts_found

  -- an edge of an end is one of a pair
  pair_of_first : (x : ℕ) → Contains (edges_at g p.a) x → (y : ℕ × ℕ) × Contains p.pairs y × (y.0 ≡ x)
  pair_of_first x c = map_from (λ y. y.0) p.pairs x (subst (λ zs. Contains zs x) (sym right.first) c)

  -- an edge of the second end is the second of a pair
  pair_of_second : (x : ℕ) → Contains (edges_at g p.b) x → (y : ℕ × ℕ) × Contains p.pairs y × (y.1 ≡ x)
  pair_of_second x c =
      map_from (λ y. y.1) p.pairs x (Contains-permutation (edges_at g p.b) seconds x right.second c)

  -- partners are partners of each other
  pub first_second : (x : ℕ) → Contains (edges_at g p.a) x → first_of p (second_of p x) ≡ x
  first_second x c =
      let y = pair_of_first x c in
      let there = All-contains (λ z. second_of p z.0 ≡ z.1) p.pairs y.0 seconds_found y.1 in
      let back = All-contains (λ z. first_of p z.1 ≡ z.0) p.pairs y.0 firsts_found y.1 in
      ap (λ z. first_of p (second_of p z)) (sym y.2) ∙ ap (first_of p) there ∙ back ∙ y.2

  -- the partner of the partner is the edge, from the second end
  pub second_first : (x : ℕ) → Contains (edges_at g p.b) x → second_of p (first_of p x) ≡ x
  second_first x c =
      let y = pair_of_second x c in
      let there = All-contains (λ z. second_of p z.0 ≡ z.1) p.pairs y.0 seconds_found y.1 in
      let back = All-contains (λ z. first_of p z.1 ≡ z.0) p.pairs y.0 firsts_found y.1 in
      ap (λ z. second_of p (first_of p z)) (sym y.2) ∙ ap (second_of p) back ∙ there ∙ y.2

  -- what holds at the first end seen as u, and at the second, holds at each end
  pub by_end : (holds : ℕ → ℕ → (ℕ → ℕ) → (ℕ → ℕ) → Type 0)
      → holds p.a p.b (second_of p) (first_of p) → holds p.b p.a (first_of p) (second_of p)
      → (u : ℕ) → IsEnd p u → holds u (opposite p u) (λ x. partner p u x) (λ x. partner p (opposite p u) x)
  by_end holds at_a at_b u end =
      ⊎_elim
      (λ e.
      let first : eqb p.a u ≡ true = eq-eqb p.a u e in
      let second : eqb p.a p.b ≡ false = ne_eqb p.a p.b differ in
      let other : opposite p u ≡ p.b = cond-true (eqb p.a u) p.b p.a first in
      subst (λ w. holds u w (λ x. partner p u x) (λ x. partner p w x)) (sym other)
      (subst (λ c. holds u p.b (λ x. cond c (second_of p x) (first_of p x)) (λ x. partner p p.b x)) (sym first)
      (subst (λ c. holds u p.b (λ x. second_of p x) (λ x. cond c (second_of p x) (first_of p x))) (sym second)
      (subst (λ z. holds z p.b (second_of p) (first_of p)) e at_a))))
      (λ e.
      let first : eqb p.a u ≡ false = ne_eqb p.a u (λ s. differ (s ∙ sym e)) in
      let second : eqb p.a p.a ≡ true = eq-eqb p.a p.a refl in
      let other : opposite p u ≡ p.a = cond-false (eqb p.a u) p.b p.a first in
      subst (λ w. holds u w (λ x. partner p u x) (λ x. partner p w x)) (sym other)
      (subst (λ c. holds u p.a (λ x. cond c (second_of p x) (first_of p x)) (λ x. partner p p.a x)) (sym first)
      (subst (λ c. holds u p.a (λ x. first_of p x) (λ x. cond c (second_of p x) (first_of p x))) (sym second)
      (subst (λ z. holds z p.a (first_of p) (second_of p)) e at_b))))
      end

  -- a mirror seen from its other side
  mirror_back : (f h : ℕ → ℕ) (xs ys : List ℕ) → ((x : ℕ) → Has x xs → h (f x) ≡ x) → IsTurn (reverse (map f xs)) ys
      → IsTurn (reverse (map h ys)) xs
  mirror_back f h xs ys undone turn =
      turn-sym xs (reverse (map h ys))
      (subst (λ zs. IsTurn zs (reverse (map h ys)))
      (ap reverse (map-reverse h (map f xs)) ∙ reverse-reverse (map h (map f xs)) ∙ map_undone f h xs undone)
      (turn-reverse (map h (reverse (map f xs))) (map h ys) (turn-map h (reverse (map f xs)) ys turn)))

  -- the items of a list that arranges the edges of a vertex
  item_edge : (w : ℕ) (xs : List ℕ) → ArrangesEdges g w xs → (x : ℕ) → Has x xs → Contains (edges_at g w) x
  item_edge w xs arr x h =
      Contains-permutation xs (edges_at g w) x (IsPermutation-sym (edges_at g w) xs arr) ((Has-Contains x xs).0 h)

  -- lists of the two ends mirror each other, seen from the end u
  pub record MirrorsFrom (u w : ℕ) (there back : ℕ → ℕ) : Type 0 where
    pub arranges : (xs : List ℕ) → ArrangesEdges g u xs → ArrangesEdges g w (reverse (map there xs))
    pub mirrored : (s : ℕ → List ℕ) → ArrangesEdges g p.a (s p.a) → IsMirror (second_of p) (s p.a) (s p.b)
        → IsTurn (reverse (map there (s u))) (s w)
    -- lists of both ends mirror each other, seen from u
    pub mirrors : (s : ℕ → List ℕ) → ArrangesEdges g u (s u) → IsTurn (reverse (map there (s u))) (s w)
        → IsMirror (second_of p) (s p.a) (s p.b)

  -- seen from the first end
  from_first : MirrorsFrom p.a p.b (second_of p) (first_of p)
  from_first = record {
    arranges = λ xs arr. IsPermutation-trans (edges_at g p.b) (map (second_of p) xs) (reverse (map (second_of p) xs))
        (IsPermutation-trans (edges_at g p.b) seconds (map (second_of p) xs) right.second
        (subst (λ zs. IsPermutation zs (map (second_of p) xs)) seconds_are
        (IsPermutation-map (second_of p) firsts xs (subst (λ zs. IsPermutation zs xs) (sym right.first) arr))))
        (IsPermutation-reverse (map (second_of p) xs));
    mirrored = λ s arr m. m;
    mirrors = λ s arr m. m;
  }

  -- seen from the second end
  from_second : MirrorsFrom p.b p.a (first_of p) (second_of p)
  from_second = record {
    arranges = λ xs arr. subst (λ zs. IsPermutation zs (reverse (map (first_of p) xs))) (firsts_are ∙ right.first)
        (IsPermutation-trans (map (first_of p) seconds) (map (first_of p) xs) (reverse (map (first_of p) xs))
        (IsPermutation-map (first_of p) seconds xs
        (IsPermutation-trans seconds (edges_at g p.b) xs (IsPermutation-sym (edges_at g p.b) seconds right.second) arr))
        (IsPermutation-reverse (map (first_of p) xs)));
    mirrored = λ s arr m. mirror_back (second_of p) (first_of p) (s p.a) (s p.b)
        (λ x h. first_second x (item_edge p.a (s p.a) arr x h)) m;
    mirrors = λ s arr m. mirror_back (first_of p) (second_of p) (s p.b) (s p.a)
        (λ x h. second_first x (item_edge p.b (s p.b) arr x h)) m;
  }

  -- from each end
  pub end-MirrorsFrom : (u : ℕ) → IsEnd p u
      → MirrorsFrom u (opposite p u) (λ x. partner p u x) (λ x. partner p (opposite p u) x)
  end-MirrorsFrom u end = by_end MirrorsFrom from_first from_second u end
