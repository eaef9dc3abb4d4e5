-- The partners of the edges of a pipe, from either end.
use Rattle.std.proofs.Common.{◌≡◌, ◌≢◌, ℕ, ◌<◌, true, false, cond, eqb, List, [], ◌∷◌, length, map, reverse, slice_index_or, sym, refl, ap, ◌∙◌, subst, ⊎_elim, IsPermutation}
use Rattle.std.specs.Prelude.{Some, find}
use Rattle.std.specs.List.{All, Contains}
use Rattle.std.specs.Option.{option_map_or}
use Rattle.std.proofs.lemmas.Bool.{cond-false, cond-true, eq-eqb, ne_eqb}
use Rattle.std.proofs.lemmas.List.{get_or_default, length-map, reverse-reverse}
use Rattle.std.proofs.lemmas.List.Elements.{All-contains, All-nil, All-cons, All-head, All-tail}
use Rattle.std.proofs.lemmas.List.Sorted.{Contains-permutation, IsPermutation-map, IsPermutation-reverse, IsPermutation-sym, IsPermutation-trans, length_permutation}
use Rattle.cp_lists.specs.CyclicLists.{Distinct, Has}
use Rattle.cp_lists.specs.Turns.{IsTurn}
use Rattle.cp_lists.proofs.DistinctLists.{Has-Contains, has_lacks}
use Rattle.cp_lists.proofs.MappedLists.{map_undone}
use Rattle.cp_lists.proofs.ReversedLists.{map-reverse}
use Rattle.cp_lists.proofs.TurnedLists.{turn-refl}
use Rattle.cp_conn.specs.NamedGraphs.{NamedGraph, edges_at, ends_at}
use Rattle.cp_conn.proofs.NamedGraphs.{map_from, map_has}
use Rattle.cp_lists.proofs.FilteredLists.{filter-Distinct}
use Rattle.cp_board.specs.declared.parts.Pipe.{Pipe}
use Rattle.cp_board.specs.Instances.{Synchronized, IsSynchronized, HasRightPairs, graph}
use Rattle.cp_board.specs.Rotations.{ArrangesEdges}
use Rattle.cp_board.specs.Solutions.{IsMirror, first_of, second_of}
use Rattle.cp_board.specs.Steps.{IsEnd, opposite, partner}
use Rattle.cp_synclaw.proofs.InstanceDarts.{edges_once}
use Rattle.cp_lists.proofs.PermutedLists.{Distinct-IsPermutation}

-- in a list with names of its own each item is found under its name
pub found_own : {A : Type 0} (name : A → ℕ) (xs : List A) → Distinct (map name xs)
    → All (λ x. find (λ y. eqb (name y) (name x)) xs ≡ Some x) xs
found_own name [] once = All-nil (λ x. find (λ y. eqb (name y) (name x)) [] ≡ Some x)
found_own {A} name (z ∷ xs) once =
    All-cons (λ x. find (λ y. eqb (name y) (name x)) (z ∷ xs) ≡ Some x) z xs
    (cond-true (eqb (name z) (name z)) (Some z) (find (λ y. eqb (name y) (name z)) xs) (eq-eqb (name z) (name z) refl))
    (λ k d lt.
    let x : A = slice_index_or xs k d in
    let there : Has (name x) (map name xs) =
    (Has-Contains (name x) (map name xs)).1 (map_has name xs x (k, lt, own k d lt)) in
    cond-false (eqb (name z) (name x)) (Some z) (find (λ y. eqb (name y) (name x)) xs)
    (ne_eqb (name z) (name x) (λ e. has_lacks (name z) (map name xs) (subst (λ n. Has n (map name xs)) (sym e) there)
    once.0))
    ∙ found_own name xs once.1 k d lt)
  where
    own : (k : ℕ) (d : A) (lt : k < length xs) → slice_index_or xs k (slice_index_or xs k d) ≡ slice_index_or xs k d
    own k d lt = get_or_default xs k (slice_index_or xs k d) d lt

-- items that are taken one by one
map_each : {A : Type 0} (f : ℕ → ℕ) (from to : A → ℕ) (xs : List A) → All (λ x. f (from x) ≡ to x) xs
    → map f (map from xs) ≡ map to xs
map_each f from to [] all = refl
map_each f from to (x ∷ xs) all =
    ap (λ y. y ∷ map f (map from xs)) (All-head (λ y. f (from y) ≡ to y) x xs all)
    ∙ ap (λ ys. to x ∷ ys) (map_each f from to xs (All-tail (λ y. f (from y) ≡ to y) x xs all))

-- a pipe of an instance
module _ (i : Synchronized) (is : IsSynchronized i) (p : Pipe) (differ : p.a ≢ p.b)
    (right : HasRightPairs (graph i) p) where
  -- the graph
  abbrev g : NamedGraph
  g = graph i

  -- the first edges of the pairs
  abbrev firsts : List ℕ
  firsts = map (λ x. x.0) p.pairs

  -- the second edges, in the order of the pairs
  abbrev seconds : List ℕ
  seconds = map (λ x. x.1) p.pairs

  -- no edge stands twice
  pub edges_at-Distinct : (v : ℕ) → Distinct (edges_at g v)
  edges_at-Distinct v = filter-Distinct (ends_at g v) g.edges (edges_once i is)

  -- the partner of the first edge of a pair is its second edge
  seconds_found : All (λ x. second_of p x.0 ≡ x.1) p.pairs
  seconds_found k d lt =
      ap (λ o. option_map_or (λ z. z.1) o 0)
      (found_own (λ x. x.0) p.pairs (subst Distinct (sym right.first) (edges_at-Distinct p.a)) k d lt)

  -- each second edge has its first
  firsts_found : All (λ x. first_of p x.1 ≡ x.0) p.pairs
  firsts_found k d lt =
      ap (λ o. option_map_or (λ z. z.0) o 0)
      (found_own (λ x. x.1) p.pairs
      (Distinct-IsPermutation (edges_at g p.b) seconds right.second (edges_at-Distinct p.b)) k d lt)

  -- the partners of the first edges are the second edges, in the order of the pairs
  pub seconds_are : map (second_of p) firsts ≡ seconds
  seconds_are = map_each (second_of p) (λ x. x.0) (λ x. x.1) p.pairs seconds_found

  -- the partners of the second edges are the first ones
  firsts_are : map (first_of p) seconds ≡ firsts
  firsts_are = map_each (first_of p) (λ x. x.1) (λ x. x.0) p.pairs firsts_found

  -- each edge of the first end is the first of a pair
  pair_of_first : (x : ℕ) → Contains (edges_at g p.a) x → (y : ℕ × ℕ) × Contains p.pairs y × (y.0 ≡ x)
  pair_of_first x c = map_from (λ y. y.0) p.pairs x (subst (λ zs. Contains zs x) (sym right.first) c)

  -- an edge of the second end is one of a pair
  pair_of_second : (x : ℕ) → Contains (edges_at g p.b) x → (y : ℕ × ℕ) × Contains p.pairs y × (y.1 ≡ x)
  pair_of_second x c =
      map_from (λ y. y.1) p.pairs x (Contains-permutation (edges_at g p.b) seconds x right.second c)

  -- the partner of the partner of an edge of the first end is this edge
  pub first_second : (x : ℕ) → Contains (edges_at g p.a) x → first_of p (second_of p x) ≡ x
  first_second x c =
      let y = pair_of_first x c in
      let there = All-contains (λ z. second_of p z.0 ≡ z.1) p.pairs y.0 seconds_found y.1 in
      let back = All-contains (λ z. first_of p z.1 ≡ z.0) p.pairs y.0 firsts_found y.1 in
      ap (λ z. first_of p (second_of p z)) (sym y.2) ∙ ap (first_of p) there ∙ back ∙ y.2

  -- a second edge is the partner of its partner
  pub second_first : (x : ℕ) → Contains (edges_at g p.b) x → second_of p (first_of p x) ≡ x
  second_first x c =
      let y = pair_of_second x c in
      let there = All-contains (λ z. second_of p z.0 ≡ z.1) p.pairs y.0 seconds_found y.1 in
      let back = All-contains (λ z. first_of p z.1 ≡ z.0) p.pairs y.0 firsts_found y.1 in
      ap (λ z. second_of p (first_of p z)) (sym y.2) ∙ ap (second_of p) back ∙ there ∙ y.2

  -- what holds at the first end seen as u, and at the second, holds at each end
  pub by_end : (holds : ℕ → ℕ → (ℕ → ℕ) → (ℕ → ℕ) → Type 0)
      → holds p.a p.b (second_of p) (first_of p) → holds p.b p.a (first_of p) (second_of p)
      → (u : ℕ) → IsEnd p u → holds u (opposite p u) (λ x. partner p u x) (λ x. partner p (opposite p u) x)
  by_end holds at_a at_b u end =
      ⊎_elim
      (λ e.
      let first : eqb p.a u ≡ true = eq-eqb p.a u e in
      let second : eqb p.a p.b ≡ false = ne_eqb p.a p.b differ in
      let other : opposite p u ≡ p.b = cond-true (eqb p.a u) p.b p.a first in
      subst (λ w. holds u w (λ x. partner p u x) (λ x. partner p w x)) (sym other)
      (subst (λ c. holds u p.b (λ x. cond c (second_of p x) (first_of p x)) (λ x. partner p p.b x)) (sym first)
      (subst (λ c. holds u p.b (λ x. second_of p x) (λ x. cond c (second_of p x) (first_of p x))) (sym second)
      (subst (λ z. holds z p.b (second_of p) (first_of p)) e at_a))))
      (λ e.
      let first : eqb p.a u ≡ false = ne_eqb p.a u (λ s. differ (s ∙ sym e)) in
      let second : eqb p.a p.a ≡ true = eq-eqb p.a p.a refl in
      let other : opposite p u ≡ p.a = cond-false (eqb p.a u) p.b p.a first in
      subst (λ w. holds u w (λ x. partner p u x) (λ x. partner p w x)) (sym other)
      (subst (λ c. holds u p.a (λ x. cond c (second_of p x) (first_of p x)) (λ x. partner p p.a x)) (sym first)
      (subst (λ c. holds u p.a (λ x. first_of p x) (λ x. cond c (second_of p x) (first_of p x))) (sym second)
      (subst (λ z. holds z p.a (first_of p) (second_of p)) e at_b))))
      end

  -- what the reverse of the partners of a list of one end is for the other end
  pub record FitsEnd (u w : ℕ) (there back : ℕ → ℕ) : Type 0 where
    pub arranges : (xs : List ℕ) → ArrangesEdges g w xs → ArrangesEdges g u (reverse (map back xs))
    pub mirrors : (s : ℕ → List ℕ) → ArrangesEdges g w (s w) → s u ≡ reverse (map back (s w))
        → IsMirror (second_of p) (s p.a) (s p.b)
    pub undone : (x : ℕ) → Contains (edges_at g w) x → there (back x) ≡ x

  -- the items of a list that arranges the edges of a vertex
  item_edge : (w : ℕ) (xs : List ℕ) → ArrangesEdges g w xs → (x : ℕ) → Has x xs → Contains (edges_at g w) x
  item_edge w xs arr x h =
      Contains-permutation xs (edges_at g w) x (IsPermutation-sym (edges_at g w) xs arr) ((Has-Contains x xs).0 h)

  -- so it is for the first end
  at_first : FitsEnd p.a p.b (second_of p) (first_of p)
  at_first = record {
    arranges = λ xs arr. subst (λ zs. IsPermutation zs (reverse (map (first_of p) xs))) (firsts_are ∙ right.first)
        (IsPermutation-trans (map (first_of p) seconds) (map (first_of p) xs) (reverse (map (first_of p) xs))
        (IsPermutation-map (first_of p) seconds xs
        (IsPermutation-trans seconds (edges_at g p.b) xs (IsPermutation-sym (edges_at g p.b) seconds right.second) arr))
        (IsPermutation-reverse (map (first_of p) xs)));
    mirrors = λ s arr same.
        let whole : reverse (map (second_of p) (s p.a)) ≡ s p.b =
        ap (λ xs. reverse (map (second_of p) xs)) same
        ∙ ap reverse (map-reverse (second_of p) (map (first_of p) (s p.b)))
        ∙ reverse-reverse (map (second_of p) (map (first_of p) (s p.b)))
        ∙ map_undone (first_of p) (second_of p) (s p.b) (λ x h. second_first x (item_edge p.b (s p.b) arr x h)) in
        subst (λ xs. IsTurn xs (s p.b)) (sym whole) (turn-refl (s p.b));
    undone = second_first;
  }

  -- and for the second end
  at_second : FitsEnd p.b p.a (first_of p) (second_of p)
  at_second = record {
    arranges = λ xs arr. IsPermutation-trans (edges_at g p.b) (map (second_of p) xs) (reverse (map (second_of p) xs))
        (IsPermutation-trans (edges_at g p.b) seconds (map (second_of p) xs) right.second
        (subst (λ zs. IsPermutation zs (map (second_of p) xs)) seconds_are
        (IsPermutation-map (second_of p) firsts xs (subst (λ zs. IsPermutation zs xs) (sym right.first) arr))))
        (IsPermutation-reverse (map (second_of p) xs));
    mirrors = λ s arr same.
        subst (λ xs. IsTurn (reverse (map (second_of p) (s p.a))) xs) (sym same)
        (turn-refl (reverse (map (second_of p) (s p.a))));
    undone = first_second;
  }

  -- seen from each end
  pub end-FitsEnd : (u : ℕ) → IsEnd p u
      → FitsEnd u (opposite p u) (λ x. partner p u x) (λ x. partner p (opposite p u) x)
  end-FitsEnd u end = by_end FitsEnd at_first at_second u end

  -- the partners of the edges of one end are the edges of the other, and each edge is the partner of its partner
  pub record HasPartners (u w : ℕ) (there back : ℕ → ℕ) : Type 0 where
    pub arranged : IsPermutation (edges_at g w) (map there (edges_at g u))
    pub undone : (x : ℕ) → Contains (edges_at g u) x → back (there x) ≡ x
    pub size : length (edges_at g u) ≡ length p.pairs

  -- so it is for the first end
  first_partners : HasPartners p.a p.b (second_of p) (first_of p)
  first_partners = record {
    arranged = subst (λ es. IsPermutation (edges_at g p.b) (map (second_of p) es)) right.first
        (subst (IsPermutation (edges_at g p.b)) (sym seconds_are) right.second);
    undone = first_second;
    size = ap length (sym right.first) ∙ length-map p.pairs (λ (x : ℕ × ℕ). x.0);
  }

  -- and for the second end
  second_partners : HasPartners p.b p.a (first_of p) (second_of p)
  second_partners = record {
    arranged = subst (λ es. IsPermutation es (map (first_of p) (edges_at g p.b))) (firsts_are ∙ right.first)
        (IsPermutation-map (first_of p) seconds (edges_at g p.b)
        (IsPermutation-sym (edges_at g p.b) seconds right.second));
    undone = second_first;
    size = sym (length_permutation (edges_at g p.b) seconds right.second)
        ∙ length-map p.pairs (λ (x : ℕ × ℕ). x.1);
  }

  -- seen from each end
  pub end-HasPartners : (u : ℕ) → IsEnd p u
      → HasPartners u (opposite p u) (λ x. partner p u x) (λ x. partner p (opposite p u) x)
  end-HasPartners u end = by_end HasPartners first_partners second_partners u end
