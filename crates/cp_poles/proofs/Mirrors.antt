-- Pipes of few pairs: their ends mirror each other, or follow one direction.
use Rattle.std.proofs.Common.{◌≡◌, ℕ, ◌≤◌, ◌↔◌, Bool, true, false, List, [], ◌∷◌, length, map, reverse, sym, refl, ap, ◌∙◌, subst, arith, ⊎_elim, IsPermutation}
use Rattle.std.specs.List.{All}
use Rattle.std.specs.Option.{option_map_or}
use Rattle.std.proofs.lemmas.List.{length-map}
use Rattle.std.proofs.lemmas.List.Elements.{All-head, All-tail}
use Rattle.std.proofs.lemmas.List.Sorted.{IsPermutation-sym, length_permutation}
use Rattle.std.proofs.lemmas.List.Kept.{IsStrictlyIncreasing-filter}
use Rattle.cp_lists.specs.CyclicLists.{Distinct, Has}
use Rattle.cp_lists.specs.Turns.{IsTurn, turned_to_least}
use Rattle.cp_lists.proofs.LeastItems.{turned_to_least-IsTurn}
use Rattle.cp_lists.proofs.MappedLists.{Has-map_on, map_on-Has, Distinct-map_on, Distinct-map_on_apart}
use Rattle.cp_lists.proofs.ReversedLists.{Has-reverse, reverse-Has, Distinct-reverse, map-reverse}
use Rattle.cp_lists.proofs.SmallTurns.{turn_of_at_most_two, turn_of_three}
use Rattle.cp_lists.proofs.TurnedLists.{turn-map, turn-reverse, turn-sym, turn-trans}
use Rattle.cp_board.specs.declared.parts.Pipe.{Pipe}
use Rattle.cp_board.specs.Instances.{Synchronized, IsSynchronized, HasRightPairs, graph, edges_of, edge_names}
use Rattle.cp_board.specs.Rotations.{ArrangesEdges}
use Rattle.cp_board.specs.Solutions.{directed, IsMirror, second_of}
use Rattle.cp_board.proofs.ListTests.{rises}
use Rattle.cp_board.proofs.NamedLists.{found_at, rises_from}
use Rattle.cp_board.proofs.NumberOfNewNames.{Distinct-from_rises}
use Rattle.cp_lists.proofs.PermutedLists.{Distinct-IsPermutation, Has-IsPermutation}

-- where each first is taken to its second, the firsts are taken to the seconds
map_pairs : (f : ℕ → ℕ) (xs : List (ℕ × ℕ)) → All (λ x. f x.0 ≡ x.1) xs
    → map f (map (λ x. x.0) xs) ≡ map (λ x. x.1) xs
map_pairs f [] all = refl
map_pairs f (x ∷ xs) all =
    ap (λ y. y ∷ map f (map (λ z. z.0) xs)) (All-head (λ y. f y.0 ≡ y.1) x xs all)
    ∙ ap (λ ys. x.1 ∷ ys) (map_pairs f xs (All-tail (λ y. f y.0 ≡ y.1) x xs all))

-- a list of three items is met in one of the two directions by each list of the same items
three_directions : (xs ws : List ℕ) → length xs ≡ 3 → Distinct xs → Distinct ws → ((d : ℕ) → Has d ws ↔ Has d xs)
    → (back : Bool) × IsTurn (directed back xs) ws
three_directions [] ws is dx dw same = absurd (omega (arith, is))
three_directions (x ∷ []) ws is dx dw same = absurd (omega (arith, is))
three_directions (x ∷ y ∷ []) ws is dx dw same = absurd (omega (arith, is))
three_directions (x ∷ y ∷ z ∷ []) ws is dx dw same =
    ⊎_elim (λ t. (false, t)) (λ t. (true, t)) (turn_of_three x y z ws dx dw same)
three_directions (x ∷ y ∷ z ∷ u ∷ us) ws is dx dw same = absurd (omega (arith, is))

-- the mirror of a list in a direction is the mirror in this direction
mirror-directed : (f : ℕ → ℕ) (back : Bool) (xs : List ℕ)
    → reverse (map f (directed back xs)) ≡ directed back (reverse (map f xs))
mirror-directed f false xs = refl
mirror-directed f true xs = ap reverse (map-reverse f xs)

-- a turn in a direction
turn-directed : (back : Bool) (xs ys : List ℕ) → IsTurn xs ys → IsTurn (directed back xs) (directed back ys)
turn-directed false xs ys t = t
turn-directed true xs ys t = turn-reverse xs ys t

-- a pipe, and lists that arrange the edges of its ends
module _
    (i : Synchronized)
    (is : IsSynchronized i)
    (p : Pipe)
    (right : HasRightPairs (graph i) p)
    (s : ℕ → List ℕ)
    (at_a : ArrangesEdges (graph i) p.a (s p.a))
    (at_b : ArrangesEdges (graph i) p.b (s p.b)) where
  -- the first edges of the pairs
  abbrev firsts : List ℕ
  firsts = map (λ x. x.0) p.pairs

  -- the second edges of the pairs
  abbrev seconds : List ℕ
  seconds = map (λ x. x.1) p.pairs

  -- the list of b that mirrors that of a
  abbrev mirrored : List ℕ
  mirrored = reverse (map (second_of p) (s p.a))

  -- the edges of a vertex rise
  edges_rise : (v : ℕ) → rises (edges_of i v) ≡ true
  edges_rise v = rises_from (edges_of i v) (IsStrictlyIncreasing-filter _ (edge_names i) is.edges_named.rise)

  -- the first edges rise
  firsts_rise : rises firsts ≡ true
  firsts_rise = subst (λ z. rises z ≡ true) (sym right.first) (edges_rise p.a)

  -- the partners of the firsts are the seconds
  partners : map (second_of p) firsts ≡ seconds
  partners = map_pairs (second_of p) p.pairs
      (λ k d lt. ap (λ o. option_map_or (λ z. z.1) o 0) (found_at (λ z. z.0) p.pairs k d firsts_rise lt))

  -- the list of a has the first edges
  firsts_arranged : IsPermutation firsts (s p.a)
  firsts_arranged = subst (λ z. IsPermutation z (s p.a)) (sym right.first) at_a

  -- no edge stands twice in the list of a
  distinct_a : Distinct (s p.a)
  distinct_a = Distinct-IsPermutation firsts (s p.a) firsts_arranged (Distinct-from_rises firsts firsts_rise)

  -- nor in that of b
  distinct_b : Distinct (s p.b)
  distinct_b = Distinct-IsPermutation (edges_of i p.b) (s p.b) at_b
      (Distinct-from_rises (edges_of i p.b) (edges_rise p.b))

  -- nor among the second edges
  distinct_seconds : Distinct seconds
  distinct_seconds = Distinct-IsPermutation (edges_of i p.b) seconds right.second
      (Distinct-from_rises (edges_of i p.b) (edges_rise p.b))

  -- an edge of the list of a is a first edge
  to_firsts : (d : ℕ) → Has d (s p.a) → Has d firsts
  to_firsts d h = Has-IsPermutation d (s p.a) firsts (IsPermutation-sym firsts (s p.a) firsts_arranged) h

  -- no edge stands twice in the mirrored list
  mirrored_once : Distinct mirrored
  mirrored_once = Distinct-reverse (map (second_of p) (s p.a))
      (Distinct-map_on (second_of p) (s p.a)
      (λ x y hx hy e. Distinct-map_on_apart (second_of p) firsts x y (subst Distinct (sym partners) distinct_seconds) (to_firsts x hx) (to_firsts y hy) e)
      distinct_a)

  -- its items are in the list of b
  mirrored_to : (d : ℕ) → Has d mirrored → Has d (s p.b)
  mirrored_to d h =
      let w = map_on-Has (second_of p) d (s p.a) (reverse-Has d (map (second_of p) (s p.a)) h) in
      let there = subst (Has (second_of p w.0)) partners (Has-map_on (second_of p) w.0 firsts (to_firsts w.0 w.1)) in
      Has-IsPermutation d (edges_of i p.b) (s p.b) at_b
      (Has-IsPermutation d seconds (edges_of i p.b) (IsPermutation-sym (edges_of i p.b) seconds right.second) (subst (λ x. Has x seconds) w.2 there))

  -- and those of the list of b are in it
  mirrored_from : (d : ℕ) → Has d (s p.b) → Has d mirrored
  mirrored_from d h =
      let there = Has-IsPermutation d (edges_of i p.b) seconds right.second
      (Has-IsPermutation d (s p.b) (edges_of i p.b) (IsPermutation-sym (edges_of i p.b) (s p.b) at_b) h) in
      let w = map_on-Has (second_of p) d firsts (subst (Has d) (sym partners) there) in
      Has-reverse d (map (second_of p) (s p.a))
      (subst (λ x. Has x (map (second_of p) (s p.a))) w.2
      (Has-map_on (second_of p) w.0 (s p.a) (Has-IsPermutation w.0 firsts (s p.a) firsts_arranged w.1)))

  -- of at most two edges every order mirrors every other
  pub mirror_of_two : length p.pairs ≤ 2 → IsMirror (second_of p) (s p.a) (s p.b)
  mirror_of_two le = turn-sym (s p.b) mirrored (turn_of_at_most_two (s p.b) mirrored distinct_b mirrored_once
      (λ d. (mirrored_to d, mirrored_from d)) short)
    where
      short : length (s p.b) ≤ 2
      short = omega (arith, le, length_permutation (edges_of i p.b) (s p.b) at_b, length_permutation (edges_of i p.b) seconds right.second, length-map p.pairs (λ x. x.1))

  -- three edges stand in one of the two directions
  pub direction_of_three : length p.pairs ≡ 3 → (back : Bool) × IsTurn (directed back firsts) (s p.a)
  direction_of_three three = three_directions firsts (s p.a) (length-map p.pairs (λ x. x.0) ∙ three)
      (Distinct-from_rises firsts firsts_rise) distinct_a
      (λ d. (to_firsts d, Has-IsPermutation d firsts (s p.a) firsts_arranged))

  -- the mirrored list in the direction of a, by what the second end is given
  mirror_turn : (back : Bool) → IsTurn (directed back firsts) (s p.a)
      → IsTurn (directed back (turned_to_least (reverse seconds))) mirrored
  mirror_turn back turn =
      turn-trans (directed back (turned_to_least (reverse seconds))) (directed back (reverse seconds)) mirrored
      (turn-sym (directed back (reverse seconds)) (directed back (turned_to_least (reverse seconds)))
      (turn-directed back (reverse seconds) (turned_to_least (reverse seconds)) (turned_to_least-IsTurn (reverse seconds))))
      (subst (λ zs. IsTurn zs mirrored)
      (mirror-directed (second_of p) back firsts ∙ ap (λ zs. directed back (reverse zs)) partners)
      (turn-reverse (map (second_of p) (directed back firsts)) (map (second_of p) (s p.a))
      (turn-map (second_of p) (directed back firsts) (s p.a) turn)))

  -- where a stands in a direction and b mirrors it, b stands in this direction, too
  pub direction_from_mirror : (back : Bool) → IsTurn (directed back firsts) (s p.a)
      → IsMirror (second_of p) (s p.a) (s p.b)
      → IsTurn (directed back (turned_to_least (reverse seconds))) (s p.b)
  direction_from_mirror back turn mirror =
      turn-trans (directed back (turned_to_least (reverse seconds))) mirrored (s p.b) (mirror_turn back turn) mirror

  -- and where b stands in the direction of a, b mirrors a
  pub mirror_from_direction : (back : Bool) → IsTurn (directed back firsts) (s p.a)
      → IsTurn (directed back (turned_to_least (reverse seconds))) (s p.b)
      → IsMirror (second_of p) (s p.a) (s p.b)
  mirror_from_direction back turn other =
      turn-trans mirrored (directed back (turned_to_least (reverse seconds))) (s p.b)
      (turn-sym (directed back (turned_to_least (reverse seconds))) mirrored (mirror_turn back turn)) other
