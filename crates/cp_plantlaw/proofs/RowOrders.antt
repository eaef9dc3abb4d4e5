-- The orders of two planted rows, from lists that mirror each other over their pipe or keep the direction of their
-- cell.
use Rattle.std.proofs.Common.{◌≡◌, ℕ, Bool, true, false, not, eqb, List, [], ◌∷◌, map, reverse, sym, refl, ap, ap₂, ◌∙◌, subst, subst₂, inl, inr, ⊎_elim, IsPermutation}
use Rattle.std.specs.Prelude.{Some, find}
use Rattle.std.specs.List.{All, AllByRecursion, zip}
use Rattle.std.specs.Option.{option_map_or}
use Rattle.std.proofs.lemmas.Bool.{false≢true}
use Rattle.std.proofs.lemmas.List.{reverse-reverse}
use Rattle.std.proofs.lemmas.List.Elements.{recursion_from_All}
use Rattle.std.proofs.lemmas.List.Sorted.{All-permutation, IsPermutation-map, IsPermutation-refl, IsPermutation-reverse, IsPermutation-sym, IsPermutation-trans}
use Rattle.cp_lists.specs.CyclicLists.{Distinct, Has}
use Rattle.cp_lists.specs.Turns.{IsTurn, turned_to_least}
use Rattle.cp_lists.proofs.DistinctLists.{has_lacks}
use Rattle.cp_lists.proofs.LeastItems.{turned_to_least-IsTurn}
use Rattle.cp_lists.proofs.PermutedLists.{Distinct-IsPermutation, Has-IsPermutation, IsPermutation-from}
use Rattle.cp_lists.proofs.TurnedLists.{turn-map, turn-reverse, turn-sym, turn-trans, turn_to_item}
use Rattle.cp_board.specs.declared.parts.Pipe.{Pipe}
use Rattle.cp_board.specs.Plantings.{Planted}
use Rattle.cp_board.specs.Solutions.{IsMirror, directed, second_of}
use Rattle.cp_board.proofs.NamedLists.{by_name_keeps}
use Rattle.cp_plantlaw.proofs.EndPartners.{found_own}
use Rattle.cp_plantlaw.proofs.PermutedRows.{map-reverse}
use Rattle.cp_plantlaw.proofs.PropagatedTrees.{Holds, turn_back}
use Rattle.cp_plantlaw.proofs.RowPairs.{node_pipe, turn-IsPermutation}
use Rattle.cp_plantlaw.proofs.ToldTrees.{HaveOrder}

-- the pairs of the firsts and the seconds of pairs
pub zip_unzip : (ks : List (ℕ × ℕ)) → zip (map (λ k. k.0) ks) (map (λ k. k.1) ks) ≡ ks
zip_unzip [] = refl
zip_unzip (k ∷ ks) = ap (λ zs. k ∷ zs) (zip_unzip ks)

-- where f takes firsts to seconds, it gives all seconds
pub seconds_by : (f : ℕ → ℕ) (ks : List (ℕ × ℕ)) → AllByRecursion (λ k. f k.0 ≡ k.1) ks
    → map f (map (λ k. k.0) ks) ≡ map (λ k. k.1) ks
seconds_by f [] all = refl
seconds_by f (k ∷ ks) all = ap₂ (λ (x : ℕ) xs. x ∷ xs) all.0 (seconds_by f ks all.1)

-- and all pairs
pairs_by : (f : ℕ → ℕ) (ks : List (ℕ × ℕ)) → AllByRecursion (λ k. f k.0 ≡ k.1) ks
    → map (λ x. (x, f x)) (map (λ k. k.0) ks) ≡ ks
pairs_by f [] all = refl
pairs_by f (k ∷ ks) all = ap₂ (λ (x : ℕ × ℕ) xs. x ∷ xs) (ap (λ y. (k.0, y)) all.0) (pairs_by f ks all.1)

-- the firsts and the seconds of items with their values
firsts_of_values : (f : ℕ → ℕ) (xs : List ℕ) → map (λ (k : ℕ × ℕ). k.0) (map (λ x. (x, f x)) xs) ≡ xs
firsts_of_values f [] = refl
firsts_of_values f (x ∷ xs) = ap (λ zs. x ∷ zs) (firsts_of_values f xs)

-- and the seconds
seconds_of_values : (f : ℕ → ℕ) (xs : List ℕ) → map (λ (k : ℕ × ℕ). k.1) (map (λ x. (x, f x)) xs) ≡ map f xs
seconds_of_values f [] = refl
seconds_of_values f (x ∷ xs) = ap (λ zs. f x ∷ zs) (seconds_of_values f xs)

-- lists with one first item that are permuted are permuted without it
cancel_head : (x : ℕ) (xs ys : List ℕ) → Distinct (x ∷ xs) → IsPermutation (x ∷ xs) (x ∷ ys) → IsPermutation xs ys
cancel_head x xs ys once p =
    let other : Distinct (x ∷ ys) = Distinct-IsPermutation (x ∷ xs) (x ∷ ys) p once in
    IsPermutation-from xs ys once.1 other.1
    (λ d h. ⊎_elim
    (λ (e : x ≡ d). absurd (has_lacks x xs (subst (λ y. Has y xs) (sym e) h) once.0))
    (λ k. k)
    (Has-IsPermutation d (x ∷ xs) (x ∷ ys) p (inr h)))
    (λ d h. ⊎_elim
    (λ (e : x ≡ d). absurd (has_lacks x ys (subst (λ y. Has y ys) (sym e) h) other.0))
    (λ k. k)
    (Has-IsPermutation d (x ∷ ys) (x ∷ xs) (IsPermutation-sym (x ∷ xs) (x ∷ ys) p) (inr h)))

-- the partner by a pipe of two rows of each edge of the first
pub mate_of_row : (n : ℕ) (a b : Planted) (top : ℕ × ℕ) (kids : List (ℕ × ℕ)) → Distinct a.edges
    → a.edges ≡ top.0 ∷ map (λ k. k.0) kids
    → b.edges ≡ top.1 ∷ map (λ k. k.1) kids
    → AllByRecursion (λ k. second_of (node_pipe n a b) k.0 ≡ k.1) (top ∷ kids)
mate_of_row n a b top kids once ea eb =
    let q : Pipe = node_pipe n a b in
    let same : zip a.edges b.edges ≡ top ∷ kids = ap₂ zip ea eb ∙ zip_unzip (top ∷ kids) in
    let kept : IsPermutation (zip a.edges b.edges) q.pairs = by_name_keeps (λ x. x.0) (zip a.edges b.edges) in
    let firsts : IsPermutation a.edges (map (λ (x : ℕ × ℕ). x.0) q.pairs) =
    subst (λ zs. IsPermutation zs (map (λ (x : ℕ × ℕ). x.0) q.pairs)) (ap (map (λ (x : ℕ × ℕ). x.0)) same ∙ sym ea)
    (IsPermutation-map (λ (x : ℕ × ℕ). x.0) (zip a.edges b.edges) q.pairs kept) in
    let found : All (λ (x : ℕ × ℕ). find (λ (y : ℕ × ℕ). eqb y.0 x.0) q.pairs ≡ Some x) q.pairs =
    found_own (λ (x : ℕ × ℕ). x.0) q.pairs (Distinct-IsPermutation a.edges
    (map (λ (x : ℕ × ℕ). x.0) q.pairs) firsts once) in
    let all : All (λ (x : ℕ × ℕ). second_of q x.0 ≡ x.1) q.pairs =
    λ k d lt. ap (λ o. option_map_or (λ (y : ℕ × ℕ). y.1) o 0) (found k d lt) in
    recursion_from_All (λ k. second_of q k.0 ≡ k.1) (top ∷ kids)
    (subst (All (λ k. second_of q k.0 ≡ k.1)) same
    (All-permutation (λ k. second_of q k.0 ≡ k.1) q.pairs (zip a.edges b.edges)
    (IsPermutation-sym (zip a.edges b.edges) q.pairs kept) all))

module _ (partner : ℕ → ℕ) (t : ℕ → List ℕ) (a b : Planted) where
  -- two P-nodes, from lists that mirror each other over their pipe
  pub mirrored-HaveOrder : (n : ℕ) → not a.fixed ≡ true → Distinct a.edges → IsPermutation a.edges (t a.vertex)
      → IsMirror (second_of (node_pipe n a b)) (t a.vertex) (t b.vertex)
      → HaveOrder partner (Holds t) a b
  mirrored-HaveOrder n free once arr mirror top kids ea eb =
      let star : ℕ → ℕ = second_of (node_pipe n a b) in
      let mates = mate_of_row n a b top kids once ea eb in
      let has : Has top.0 (t a.vertex) =
      Has-IsPermutation top.0 a.edges (t a.vertex) arr (subst (Has top.0) (sym ea) (inl refl)) in
      let turn = turn_to_item top.0 (t a.vertex) has in
      let zs : List ℕ = turn.0 in
      let order : List (ℕ × ℕ) = map (λ x. (x, star x)) zs in
      let rest : IsPermutation (map (λ k. k.0) kids) zs =
      cancel_head top.0 (map (λ k. k.0) kids) zs (subst Distinct ea once)
      (subst (λ ws. IsPermutation ws (top.0 ∷ zs)) ea
      (IsPermutation-trans a.edges (t a.vertex) (top.0 ∷ zs) arr
      (turn-IsPermutation (t a.vertex) (top.0 ∷ zs) turn.1))) in
      let permuted : IsPermutation kids order =
      subst (λ ws. IsPermutation ws order) (pairs_by star kids mates.1)
      (IsPermutation-map (λ x. (x, star x)) (map (λ k. k.0) kids) zs rest) in
      let one : IsTurn (top.0 ∷ map (λ k. k.0) order) (t a.vertex) =
      subst (λ ws. IsTurn (top.0 ∷ ws) (t a.vertex)) (sym (firsts_of_values star zs))
      (turn-sym (t a.vertex) (top.0 ∷ zs) turn.1) in
      let image : IsTurn (reverse (map star (t a.vertex))) (star top.0 ∷ reverse (map star zs)) =
      turn-trans (reverse (map star (t a.vertex))) (reverse (star top.0 ∷ map star zs))
      (star top.0 ∷ reverse (map star zs))
      (turn-reverse (map star (t a.vertex)) (star top.0 ∷ map star zs) (turn-map star (t a.vertex) (top.0 ∷ zs) turn.1))
      (turn_back (star top.0) (map star zs)) in
      let two : IsTurn (top.1 ∷ reverse (map (λ k. k.1) order)) (t b.vertex) =
      subst₂ (λ x ws. IsTurn (x ∷ reverse ws) (t b.vertex)) mates.0 (sym (seconds_of_values star zs))
      (turn-trans (star top.0 ∷ reverse (map star zs)) (reverse (map star (t a.vertex))) (t b.vertex)
      (turn-sym (reverse (map star (t a.vertex))) (star top.0 ∷ reverse (map star zs)) image) mirror) in
      (order, record { permuted = permuted; kept = λ f. absurd (both a.fixed free f) }, (one, two))
    where
      both : (c : Bool) → not c ≡ true → c ≡ true → ⊥
      both true n f = false≢true n
      both false n f = false≢true f

  -- the list of a Q-vertex, up to a turn, by the direction of its cell
  directed_turn : (back : Bool) (es ts : List ℕ) → IsTurn (directed back (turned_to_least es)) ts
      → IsTurn (directed back es) ts
  directed_turn true es ts turn =
      turn-trans (reverse es) (reverse (turned_to_least es)) ts
      (turn-reverse es (turned_to_least es) (turned_to_least-IsTurn es)) turn
  directed_turn false es ts turn = turn-trans es (turned_to_least es) ts (turned_to_least-IsTurn es) turn

  -- two Q-nodes, from lists in one direction of their cell
  pub directed-HaveOrder : (back : Bool) → IsTurn (directed back (turned_to_least a.edges)) (t a.vertex)
      → IsTurn (directed back (turned_to_least (reverse b.edges))) (t b.vertex)
      → HaveOrder partner (Holds t) a b
  directed-HaveOrder false one two top kids ea eb =
      let at_b : IsTurn (reverse (top.1 ∷ map (λ k. k.1) kids)) (t b.vertex) =
      subst (λ ws. IsTurn (reverse ws) (t b.vertex)) eb (directed_turn false (reverse b.edges) (t b.vertex) two) in (
        kids,
        record { permuted = IsPermutation-refl kids; kept = λ f. inl refl },
        (
          subst (λ ws. IsTurn ws (t a.vertex)) ea (directed_turn false a.edges (t a.vertex) one),
          turn-trans (top.1 ∷ reverse (map (λ k. k.1) kids)) (reverse (top.1 ∷ map (λ k. k.1) kids)) (t b.vertex)
              (turn-sym (reverse (top.1 ∷ map (λ k. k.1) kids)) (top.1 ∷ reverse (map (λ k. k.1) kids))
              (turn_back top.1 (map (λ k. k.1) kids))) at_b,
        ),
      )
  directed-HaveOrder true one two top kids ea eb =
      let xs : List ℕ = map (λ (k : ℕ × ℕ). k.0) kids in
      let ys : List ℕ = map (λ (k : ℕ × ℕ). k.1) kids in
      let at_a : IsTurn (reverse (top.0 ∷ xs)) (t a.vertex) =
      subst (λ ws. IsTurn (reverse ws) (t a.vertex)) ea (directed_turn true a.edges (t a.vertex) one) in
      let at_b : IsTurn (top.1 ∷ ys) (t b.vertex) =
      subst (λ ws. IsTurn ws (t b.vertex)) (reverse-reverse b.edges ∙ eb)
      (directed_turn true (reverse b.edges) (t b.vertex) two) in (
        reverse kids,
        record { permuted = IsPermutation-reverse kids; kept = λ f. inr refl },
        (
          subst (λ ws. IsTurn (top.0 ∷ ws) (t a.vertex)) (sym (map-reverse (λ (k : ℕ × ℕ). k.0) kids))
              (turn-trans (top.0 ∷ reverse xs) (reverse (top.0 ∷ xs)) (t a.vertex)
              (turn-sym (reverse (top.0 ∷ xs)) (top.0 ∷ reverse xs) (turn_back top.0 xs)) at_a),
          subst (λ ws. IsTurn (top.1 ∷ ws) (t b.vertex))
              (sym (ap reverse (map-reverse (λ (k : ℕ × ℕ). k.1) kids) ∙ reverse-reverse ys)) at_b,
        ),
      )
