-- What is read of a tree with named nodes, step by step, is its word.
use Rattle.std.proofs.Common.{◌≡◌, ◌≢◌, ℕ, suc, ◌+◌, eqb, List, [], ◌∷◌, ◌++◌, append_assoc, length, reverse, sym, refl, ap, ◌∙◌, ap₂, inl, ⊎_elim, arith}
use Rattle.std.specs.Prelude.{None, Some, take}
use Rattle.std.specs.List.{All, Contains}
use Rattle.std.proofs.lemmas.Bool.{cases_eq, cond-false, cond-true, eq-eqb, ne_eqb}
use Rattle.std.proofs.lemmas.List.{append-nil, length-append, reverse-append}
use Rattle.cp_lists.specs.CyclicLists.{Distinct, Has}
use Rattle.cp_lists.specs.Turns.{IsTurn}
use Rattle.cp_lists.proofs.TurnedLists.{turn-Distinct, turn-Has, turn-sym, turn-trans, turn_from_parts, turn_same}
use Rattle.cp_board.specs.Plantings.{Planted}
use Rattle.cp_plantlaw.specs.NamedTrees.{Named, rows, tops, word}
use Rattle.cp_plantlaw.proofs.PropagatedEnds.{row_tops}
use Rattle.cp_plantlaw.proofs.ReadWords.{IsRead}
use Rattle.cp_plant.specs.TreeWords.{behind, in_front, read, round_from, vertex_below}
use Rattle.cp_plant.proofs.ReadPiles.{read_nil}

-- a list is what stands in front of an item, the item, and what stands behind it
parts_at : (x : ℕ) (ys : List ℕ) → Has x ys → ys ≡ in_front x ys ++ x ∷ behind x ys
parts_at x [] h = absurd h
parts_at x (y ∷ ys) h = ⊎_elim
    (λ (e : y ≡ x).
    let b = eq-eqb y x e in
    ap (λ z. z ∷ ys) e ∙ sym (ap₂ (λ (us vs : List ℕ). us ++ x ∷ vs)
    (cond-true (eqb y x) [] (y ∷ in_front x ys) b) (cond-true (eqb y x) ys (behind x ys) b)))
    (λ ne.
    let b = ne_eqb y x ne in
    let there : Has x ys = ⊎_elim (λ e. absurd (ne e)) (λ k. k) h in
    ap (λ zs. y ∷ zs) (parts_at x ys there) ∙ sym (ap₂ (λ (us vs : List ℕ). us ++ x ∷ vs)
    (cond-false (eqb y x) [] (y ∷ in_front x ys) b) (cond-false (eqb y x) ys (behind x ys) b)))
    (cases_eq y x)

-- an item and what stands from behind it round to in front of it is a turn of the list
round_turned : (x : ℕ) (ys : List ℕ) → Has x ys → IsTurn ys (x ∷ round_from x ys)
round_turned x ys h =
    turn_from_parts ys (x ∷ round_from x ys) (in_front x ys) (x ∷ behind x ys) (parts_at x ys h) refl

-- the reverse of a list, by its first item
reverse_first : (x : ℕ) (xs zs : List ℕ) → reverse (x ∷ xs) ++ zs ≡ reverse xs ++ x ∷ zs
reverse_first x xs zs =
    ap (λ us. us ++ zs) (reverse-append (x ∷ []) xs) ∙ append_assoc (reverse xs) (x ∷ []) zs

-- how many edges of a tree are read, with the leaves
abbrev pub size : Named → ℕ
size Named.no_kid = 0
size (Named.leaf_kid x ks) = suc (size ks)
size (Named.node_kid v g inner ks) = suc (size inner + size ks)

-- one for each node and one for each leaf
pub size_is : (ks : Named) → size ks ≡ length (rows ks) + length (word ks)
size_is Named.no_kid = refl
size_is (Named.leaf_kid x ks) = let h = size_is ks in omega (arith, h)
size_is (Named.node_kid v g inner ks) =
    let one = size_is inner in
    let two = size_is ks in
    let nodes = length-append (rows inner) (rows ks) in
    let leaves = length-append (word inner) (word ks) in
    omega (arith, one, two, nodes, leaves)

-- planted rows that begin with different edges, lists, and the vertices below edges
module _ (planted : List Planted) (once : Distinct (row_tops planted)) (t : ℕ → List ℕ) (nodes : List (ℕ × ℕ))
    (row_vertex : (r : Planted) (g : ℕ) → Contains planted r → take 1 r.edges ≡ g ∷ []
    → vertex_below nodes g ≡ Some r.vertex)
    (leaf_vertex : (x : ℕ) → All (λ r. take 1 r.edges ≢ x ∷ []) planted → vertex_below nodes x ≡ None) where
  -- an edge above no vertex is read itself
  read_leaf : (n x : ℕ) (edges : List ℕ) → vertex_below nodes x ≡ None
      → read nodes t (suc n) (x ∷ edges) ≡ x ∷ read nodes t n edges
  read_leaf n x edges e = rw (e, read) refl

  -- an edge above a vertex is replaced
  read_node : (n x v : ℕ) (edges : List ℕ) → vertex_below nodes x ≡ Some v
      → read nodes t (suc n) (x ∷ edges) ≡ read nodes t n (reverse (round_from x (t v)) ++ edges)
  read_node n x v edges e = rw (e, read) refl

  -- the edges below the edge of a node are those to its kids
  round_tops : (v g : ℕ) (inner ks : Named) → IsRead planted once t (Named.node_kid v g inner ks)
      → round_from g (t v) ≡ tops inner
  round_tops v g inner ks is =
      let turn = is.0.4 in
      let distinct = turn-Distinct (t v) (g ∷ tops inner) (turn-sym (g ∷ tops inner) (t v) turn) is.0.5 in
      sym (turn_same g (tops inner) (round_from g (t v)) distinct.0
      (turn-trans (g ∷ tops inner) (t v) (g ∷ round_from g (t v)) turn
      (round_turned g (t v) (turn-Has (g ∷ tops inner) (t v) g turn (inl refl)))))

  -- the kids of a node, from the last on, give their word, from the last leaf on, and then comes the rest
  pub read_kids : (ks : Named) → IsRead planted once t ks → (n : ℕ) (edges : List ℕ)
      → read nodes t (size ks + n) (reverse (tops ks) ++ edges) ≡ reverse (word ks) ++ read nodes t n edges
  read_kids Named.no_kid is n edges = let e : 0 + n ≡ n = omega arith in ap (λ m. read nodes t m edges) e
  read_kids (Named.leaf_kid x ks) is n edges =
      let e : suc (size ks) + n ≡ size ks + suc n = omega arith in
      ap (λ m. read nodes t m (reverse (x ∷ tops ks) ++ edges)) e
      ∙ ap (read nodes t (size ks + suc n)) (reverse_first x (tops ks) edges)
      ∙ read_kids ks is.1 (suc n) (x ∷ edges)
      ∙ ap (λ zs. reverse (word ks) ++ zs) (read_leaf n x edges (leaf_vertex x is.0))
      ∙ sym (reverse_first x (word ks) (read nodes t n edges))
  read_kids (Named.node_kid v g inner ks) is n edges =
      let e : suc (size inner + size ks) + n ≡ size ks + suc (size inner + n) = omega arith in
      let found : vertex_below nodes g ≡ Some v =
      row_vertex is.0.0 g is.0.1 is.0.2 ∙ ap (λ (z : ℕ). Some z) is.0.3 in
      ap (λ m. read nodes t m (reverse (g ∷ tops ks) ++ edges)) e
      ∙ ap (read nodes t (size ks + suc (size inner + n))) (reverse_first g (tops ks) edges)
      ∙ read_kids ks is.1.1 (suc (size inner + n)) (g ∷ edges)
      ∙ ap (λ zs. reverse (word ks) ++ zs)
      (read_node (size inner + n) g v edges found
      ∙ ap (λ us. read nodes t (size inner + n) (reverse us ++ edges)) (round_tops v g inner ks is)
      ∙ read_kids inner is.1.0 n edges)
      ∙ sym (append_assoc (reverse (word ks)) (reverse (word inner)) (read nodes t n edges))
      ∙ ap (λ us. us ++ read nodes t n edges) (sym (reverse-append (word inner) (word ks)))

  -- the tree below an edge, in enough steps, gives its word, from the last leaf on
  pub read_root : (v g : ℕ) (ks : Named) → IsRead planted once t (Named.node_kid v g ks Named.no_kid) → (m n : ℕ)
      → m ≡ suc (size ks) + n → read nodes t m (g ∷ []) ≡ reverse (word ks)
  read_root v g ks is m n e =
      let same : m ≡ suc (size ks + 0) + n = omega (arith, e) in
      ap (λ k. read nodes t k (g ∷ [])) same
      ∙ read_kids (Named.node_kid v g ks Named.no_kid) is n []
      ∙ ap (λ zs. reverse (word ks ++ []) ++ zs) (read_nil nodes t n)
      ∙ append-nil (reverse (word ks ++ []))
      ∙ ap reverse (append-nil (word ks))
