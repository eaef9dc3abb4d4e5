-- What lists read of planted rows is the word of their trees.
use Rattle.std.proofs.Common.{◌≡◌, ◌≢◌, ℕ, List, [], ◌∷◌, ◌++◌, sym, refl, ap, ◌∙◌, subst, subst₂, inl, inr}
use Rattle.std.specs.Prelude.{take}
use Rattle.std.specs.List.{All, AllByRecursion, Contains, flat_map}
use Rattle.std.proofs.lemmas.List.{append-nil}
use Rattle.std.proofs.lemmas.List.Elements.{All-contains}
use Rattle.cp_lists.specs.CyclicLists.{Distinct, Has, Lacks}
use Rattle.cp_lists.specs.Turns.{IsTurn}
use Rattle.cp_lists.proofs.DistinctLists.{Has-append_left, Has-append_right, has_lacks}
use Rattle.cp_lists.proofs.EachItem.{all_parts}
use Rattle.cp_lists.proofs.TurnedLists.{turn-Distinct, turn-sym, turn-trans, turn_same}
use Rattle.cp_board.specs.Plantings.{Planted}
use Rattle.cp_plantlaw.proofs.FreshNames.{All-from_items}
use Rattle.cp_plantlaw.specs.NamedTrees.{Named, rows, tops, word}
use Rattle.cp_plantlaw.specs.Readings.{ReadsBelow, ReadsEach}
use Rattle.cp_plantlaw.proofs.ApartPipes.{one_owner, owned}
use Rattle.cp_plantlaw.proofs.PropagatedEnds.{row_tops}

-- the edges from above of rows, one for each row
pub tops_flat : (rs : List Planted) → row_tops rs ≡ flat_map (λ r. take 1 r.edges) rs
tops_flat [] = refl
tops_flat (r ∷ rs) = ap (λ zs. take 1 r.edges ++ zs) (tops_flat rs)

-- what is no edge from above is not the first edge of a row
pub no_top : (rs : List Planted) (x : ℕ) → Lacks x (row_tops rs) → All (λ r. take 1 r.edges ≢ x ∷ []) rs
no_top rs x l = All-from_items (λ r. take 1 r.edges ≢ x ∷ []) rs (λ r c e.
    has_lacks x (row_tops rs) (subst (Has x) (sym (tops_flat rs))
    (owned (λ (q : Planted). take 1 q.edges) rs r x c (subst (Has x) (sym e) (inl refl)))) l)

-- a node without kids reads nothing
no_tops : (ks : Named) → tops ks ≡ [] → word ks ≡ []
no_tops Named.no_kid e = refl
no_tops (Named.leaf_kid x ks) e = absurd cc
no_tops (Named.node_kid v g inner ks) e = absurd cc

-- planted rows that begin with different edges, and lists
module _ (planted : List Planted) (once : Distinct (row_tops planted)) (t : ℕ → List ℕ) where
  -- each leaf is no first edge, each inner node has a row that begins with its edge from above, and its list begins
  -- with
  -- this edge and goes on with the edges to the kids, each once
  abbrev pub IsRead : Named → Type 0
  IsRead Named.no_kid = Unit {0}
  IsRead (Named.leaf_kid x ks) = All (λ r. take 1 r.edges ≢ x ∷ []) planted × IsRead ks
  IsRead (Named.node_kid v g inner ks) =
      ((r : Planted) × Contains planted r × (take 1 r.edges ≡ g ∷ []) × (r.vertex ≡ v)
      × IsTurn (g ∷ tops inner) (t v) × Distinct (t v)) × (IsRead inner × IsRead ks)

  -- the first edges of a row that has some
  first_of_row : (r : Planted) (top : ℕ) (others : List ℕ) → r.edges ≡ top ∷ others → take 1 r.edges ≡ top ∷ []
  first_of_row r top others e = ap (take 1) e

  mutual
    -- what is read below an edge is what is read of its kid
    below_word : (x : ℕ) (xs : List ℕ) (ks : Named) → ReadsBelow planted t x xs → IsRead ks → (rest : List ℕ)
        → tops ks ≡ x ∷ rest → (ls : Named) × IsRead ls × (tops ls ≡ rest) × (word ks ≡ xs ++ word ls)
    below_word _ _ Named.no_kid (ReadsBelow.leaf x none) is rest e = absurd cc
    below_word _ _ (Named.leaf_kid y ks) (ReadsBelow.leaf x none) is rest e =
        let one : y ≡ x = cc in
        let two : tops ks ≡ rest = cc in
        (ks, is.1, two, ap (λ z. z ∷ word ks) one)
    below_word _ _ (Named.node_kid v g inner ks) (ReadsBelow.leaf x none) is rest e =
        let same : g ≡ x = cc in
        absurd (All-contains (λ r. take 1 r.edges ≢ x ∷ []) planted is.0.0 none is.0.1
        (is.0.2 ∙ ap (λ z. z ∷ []) same))
    below_word _ _ Named.no_kid (ReadsBelow.node r top others_in below xs c edges turn each) is rest e = absurd cc
    below_word _ _ (Named.leaf_kid y ks) (ReadsBelow.node r top others_in below xs c edges turn each) is rest e =
        let same : y ≡ top = cc in
        absurd (All-contains (λ q. take 1 q.edges ≢ y ∷ []) planted r is.0 c
        (first_of_row r top others_in edges ∙ ap (λ z. z ∷ []) (sym same)))
    below_word _ _ (Named.node_kid v g inner ks)
        (ReadsBelow.node r top others_in below xs c edges turn each) is rest e =
        let same : g ≡ top = cc in
        let two : tops ks ≡ rest = cc in
        let row : is.0.0 ≡ r = one_owner (λ (q : Planted). take 1 q.edges) planted is.0.0 r top
        (subst Distinct (tops_flat planted) once) is.0.1 c
        (subst (Has top) (sym (is.0.2 ∙ ap (λ z. z ∷ []) same)) (inl refl))
        (subst (Has top) (sym (first_of_row r top others_in edges)) (inl refl)) in
        let at : r.vertex ≡ v = ap (λ (q : Planted). q.vertex) (sym row) ∙ is.0.3 in
        let listed : IsTurn (g ∷ tops inner) (g ∷ below) =
        turn-trans (g ∷ tops inner) (t v) (g ∷ below) is.0.4
        (subst₂ (λ y z. IsTurn (t y) (z ∷ below)) at (sym same) turn) in
        let distinct : Distinct (g ∷ tops inner) = turn-Distinct (t v) (g ∷ tops inner)
        (turn-sym (g ∷ tops inner) (t v) is.0.4) is.0.5 in
        let goes : tops inner ≡ below = turn_same g (tops inner) below distinct.0 listed in
        (ks, is.1.1, two, ap (λ zs. zs ++ word ks) (each_word below xs inner each is.1.0 goes))

    -- what is read below edges, one behind the other, is the word of their kids
    pub each_word : (others xs : List ℕ) (ks : Named) → ReadsEach planted t others xs → IsRead ks → tops ks ≡ others
        → word ks ≡ xs
    each_word _ _ ks ReadsEach.none is e = no_tops ks e
    each_word _ _ ks (ReadsEach.more x others xs ys one rest) is e =
        let h = below_word x xs ks one is others e in
        h.3 ∙ ap (λ zs. xs ++ zs) (each_word others ys h.0 rest h.1 h.2)

  -- a kid is read where those below are
  pub node_reads : (g : ℕ) (inner : Named) (r : Planted) (es : List ℕ) → r.edges ≡ es → Contains planted r
      → take 1 r.edges ≡ g ∷ []
      → IsTurn (t r.vertex) (g ∷ tops inner) → ReadsEach planted t (tops inner) (word inner)
      → ReadsBelow planted t g (word inner)
  node_reads g inner r [] e c top turn each = let n : [] ≡ g ∷ [] = ap (take 1) (sym e) ∙ top in absurd cc
  node_reads g inner r (x ∷ es) e c top turn each =
      let n : x ∷ [] ≡ g ∷ [] = ap (take 1) (sym e) ∙ top in
      let same : x ≡ g = cc in
      ReadsBelow.node r g es (tops inner) (word inner) c (e ∙ ap (λ z. z ∷ es) same) turn each

  -- the kids are read
  pub word-ReadsEach : (ks : Named) → IsRead ks → ReadsEach planted t (tops ks) (word ks)
  word-ReadsEach Named.no_kid is = ReadsEach.none
  word-ReadsEach (Named.leaf_kid x ks) is =
      ReadsEach.more x (tops ks) (x ∷ []) (word ks) (ReadsBelow.leaf x is.0) (word-ReadsEach ks is.1)
  word-ReadsEach (Named.node_kid v g inner ks) is =
      ReadsEach.more g (tops ks) (word inner) (word ks)
      (node_reads g inner is.0.0 is.0.0.edges refl is.0.1 is.0.2
      (subst (λ z. IsTurn (t z) (g ∷ tops inner)) (sym is.0.3) (turn-sym (g ∷ tops inner) (t v) is.0.4))
      (word-ReadsEach inner is.1.0))
      (word-ReadsEach ks is.1.1)

  -- what is read below the edge of a node is the word of its kids
  pub node_word : (v g : ℕ) (inner : Named) (xs : List ℕ) → IsRead (Named.node_kid v g inner Named.no_kid)
      → ReadsBelow planted t g xs → xs ≡ word inner
  node_word v g inner xs is reads =
      let h = below_word g xs (Named.node_kid v g inner Named.no_kid) reads is [] refl in
      sym (sym (append-nil (word inner)) ∙ h.3 ∙ ap (λ zs. xs ++ zs) (no_tops h.0 h.2) ∙ append-nil xs)

  -- rows of a tree with such rows, whose leaves are no first edges
  pub rows-IsRead : (ks : Named)
      → AllByRecursion (λ x. (r : Planted) × Contains planted r × (take 1 r.edges ≡ take 1 x.1) × (r.vertex ≡ x.0)
      × IsTurn x.1 (t x.0) × Distinct (t x.0)) (rows ks)
      → ((x : ℕ) → Has x (word ks) → All (λ r. take 1 r.edges ≢ x ∷ []) planted)
      → IsRead ks
  rows-IsRead Named.no_kid nodes leaves = tt
  rows-IsRead (Named.leaf_kid x ks) nodes leaves =
      (leaves x (inl refl), rows-IsRead ks nodes (λ y h. leaves y (inr h)))
  rows-IsRead (Named.node_kid v g inner ks) nodes leaves =
      let parts = all_parts (λ x. (r : Planted) × Contains planted r × (take 1 r.edges ≡ take 1 x.1) × (r.vertex ≡ x.0)
      × IsTurn x.1 (t x.0) × Distinct (t x.0)) (rows inner) (rows ks) nodes.1 in (
        nodes.0,
        (
          rows-IsRead inner parts.0 (λ y h. leaves y (Has-append_left y (word inner) (word ks) h)),
          rows-IsRead ks parts.1 (λ y h. leaves y (Has-append_right y (word inner) (word ks) h)),
        ),
      )
