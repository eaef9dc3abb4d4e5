-- The order tree of a vertex, forced to the list of this vertex, has the directions in which the block keeps all its
-- lists.
use Rattle.std.proofs.Common.{◌≡◌, ◌≢◌, ℕ, ◌<◌, ◌≤◌, ◌⊎◌, ◌↔◌, zero, suc, Bool, true, false, List, [], ◌∷◌, ◌++◌, length, take, drop, reverse, filter, slice_index, ◌+◌, sym, refl, ap, ◌∙◌, subst, inl, inr, ⊎_elim, arith}
use Rattle.std.specs.Prelude.{Option, Some, None}
use Rattle.std.specs.List.{range_with_len}
use Rattle.std.proofs.lemmas.Bool.{cases_Bool, cases_eq}
use Rattle.std.proofs.lemmas.List.{append-nil, take_all}
use Rattle.std.proofs.lemmas.List.Sorted.{IsPermutation-sym}
use Rattle.cp_lists.specs.CyclicLists.{Distinct, Has, Lacks, head_or}
use Rattle.cp_lists.specs.Turns.{IsTurn}
use Rattle.cp_lists.proofs.DistinctLists.{Distinct-append_right, Distinct-apart, Has-append_left, Has-append_right, Has-place, Has_at, Lacks-from, has_lacks}
use Rattle.cp_lists.proofs.FilteredLists.{filter-Has, filter_no, filter_yes}
use Rattle.cp_lists.proofs.ReversedLists.{Has-reverse, reverse-Has}
use Rattle.cp_lists.proofs.TurnedLists.{Has-of_turn, turn-Distinct, turn-Has, turn-reverse, turn-sym, turn-trans, turn_reverse_head, turn_same, turn_to_item}
use Rattle.cp_lists.proofs.PermutedLists.{Has-IsPermutation}
use Rattle.cp_pq.specs.Bits.{bit_of}
use Rattle.cp_pq.specs.Nodes.{leaves}
use Rattle.cp_pq.specs.Orders.{HasRow}
use Rattle.cp_pq.specs.Promises.{IsForced, IsNeverInRow, in_direction}
use Rattle.cp_pq.specs.Readings.{any_bit, given}
use Rattle.cp_pq.specs.Trees.{PQTree, IsPair}
use Rattle.cp_pq.proofs.GivenBits.{bit_append}
use Rattle.cp_pq.proofs.ReadingLaws.{read_leaves, read_wider}
use Rattle.cp_rot.specs.Systems.{System}
use Rattle.cp_embed.specs.Directions.{KeepsDirection, directed}
use Rattle.cp_embed.specs.Embeddings.{HasSomePair, HasTwoEdges, IsEmbedded, IsEmbeddingTree, IsLeastEdge, IsNeverEmbedded}
use Rattle.cp_embed.specs.ListedBlocks.{IsListedBlock, ListedGraph, MayBeGiven, edges_at, list_given, touches}
use Rattle.cp_embed.specs.Realisations.{edges_round}
use Rattle.cp_embed.specs.TreePairs.{pairs_of}
use Rattle.cp_flip.specs.DirectedBlocks.{CanBeDirected, HasPairWith, IsDirectedBy, IsDirectedTree}
use Rattle.cp_flip.proofs.RoundEdges.{edges_at-Has, range-Has, round-IsArrangementOf}

-- a bit among the first ones
bit_of-take : (m : ℕ) (bits : List Bool) (v : ℕ) → v < m → bit_of (take m bits) v ≡ bit_of bits v
bit_of-take zero bits v lt = absurd (omega arith)
bit_of-take (suc m) [] v lt = refl
bit_of-take (suc m) (b ∷ bits) zero lt = refl
bit_of-take (suc m) (b ∷ bits) (suc v) lt = bit_of-take m bits v (omega arith)

-- a pair of a tree that has a row in some direction is an order that the shape admits
pub never_in_row : (row : List ℕ) (tree : PQTree) → IsNeverInRow row tree → (order : List ℕ) (bits : List Bool) (var : ℕ)
    → IsPair tree order bits
    → HasRow (in_direction (bit_of bits var) row) order → ⊥
never_in_row row tree never order bits var p h =
    never order (p.word, p.order_is, read_wider (given bits) any_bit (λ v b m. refl) tree.body p.word p.reads)
    (either (bit_of bits var) h)
  where
    -- a row in a direction stands in one of the two
    either : (b : Bool) → HasRow (in_direction b row) order → HasRow row order ⊎ HasRow (reverse row) order
    either false k = inl k
    either true k = inr k

-- where the forced tree has no pair, no pair of the tree has the row in the direction of its bit
pub pairless-none : (row : List ℕ) (var : ℕ) (old new : PQTree) → IsForced row var old new → (HasSomePair new → ⊥)
    → (order : List ℕ) (bits : List Bool) → IsPair old order bits
    → HasRow (in_direction (bit_of bits var) row) order → ⊥
pairless-none row var old new f none order bits p h =
    let k = f.keeps order bits p h in none (order, bits ++ k.0, k.1)

-- a list that is kept in a direction is kept so by its turns
pub KeepsDirection-turn : (list : Option (List ℕ)) (b : Bool) (us vs : List ℕ) → KeepsDirection list b us → IsTurn us vs
    → KeepsDirection list b vs
KeepsDirection-turn None b us vs k turn = tt
KeepsDirection-turn (Some list) b us vs k turn = turn-trans (directed b list) us vs k turn

-- a list without items
pub no_items : (xs : List ℕ) → ((x : ℕ) → Has x xs → ⊥) → xs ≡ []
no_items [] none = refl
no_items (x ∷ xs) none = absurd (none x (inl refl))

-- the row that stands in an order without its root, and has all items behind the root, is what stands behind it
row_whole : (root : ℕ) (word row : List ℕ) → Distinct (root ∷ word) → (Has root row → ⊥)
    → ((x : ℕ) → Has x word → Has x row)
    → HasRow row (root ∷ word)
    → word ≡ row
row_whole root word row once out all (b ∷ before, after, whole) =
    let is_word : word ≡ before ++ (row ++ after) = ap (drop 1) whole in
    let apart : Distinct (before ++ (row ++ after)) = subst Distinct is_word once.1 in
    let none_before = no_items before (λ x h. has_lacks x (row ++ after)
    (Has-append_left x row after (all x (subst (Has x) (sym is_word) (Has-append_left x before (row ++ after) h))))
    (Distinct-apart x before (row ++ after) apart h))
    in
    let none_after = no_items after (λ x h. has_lacks x after h
    (Distinct-apart x row after (Distinct-append_right before (row ++ after) apart)
    (all x (subst (Has x) (sym is_word) (Has-append_right x before (row ++ after) (Has-append_right x row after h))))))
    in
    is_word ∙ ap (λ xs. xs ++ (row ++ after)) none_before ∙ ap (λ xs. row ++ xs) none_after ∙ append-nil row
row_whole root word (x ∷ row) once out all ([], after, whole) = absurd (out (inl (sym (ap (head_or root) whole))))
row_whole root word [] once out all ([], after, whole) = no_items word all

-- the row in a direction has the items of the row
directed-Has : (b : Bool) (row : List ℕ) (x : ℕ) → Has x (in_direction b row) ↔ Has x row
directed-Has false row x = ((λ h. h), (λ h. h))
directed-Has true row x = (reverse-Has x row, Has-reverse x row)

-- a list turned to its root, in a direction
directed-turn : (b : Bool) (list row : List ℕ) (root : ℕ) → IsTurn list (root ∷ row)
    → IsTurn (directed b list) (root ∷ in_direction b row)
directed-turn false list row root turn = turn
directed-turn true list row root turn =
    turn-trans (reverse list) (reverse (root ∷ row)) (root ∷ reverse row) (turn-reverse list (root ∷ row) turn)
    (turn_reverse_head root row)

-- where the block is never embedded it has no directions
pub never-directed : (block : ListedGraph) (t : ℕ) → IsNeverEmbedded block t → (bit : ℕ → Bool)
    → CanBeDirected block bit → ⊥
never-directed block t never bit d =
    never (edges_round d.0 t) bit (
      d.0,
      record {
        of_graph = d.1.of_graph;
        plane = d.1.plane;
        order_is = (0, omega arith, sym (append-nil (edges_round d.0 t)));
        lists_kept = λ v lt other. d.1.lists_kept v lt;
      },
    )

-- the first of those of a range that pass a test is the least
first_kept-least : (p : ℕ → Bool) (a n x : ℕ) → Has x (filter p (range_with_len a n))
    → slice_index (filter p (range_with_len a n)) 0 ≤ x
first_kept-least p a zero x h = absurd h
first_kept-least p a (suc n) x h = ⊎_elim
    (λ t.
    let whole = filter_yes p a (range_with_len (a + 1) n) t in
    let first = ap (λ xs. slice_index xs 0) whole in
    let le = ((range-Has x a (suc n)).0 (filter-Has p x (range_with_len a (suc n)) h).0).0 in
    omega (arith, first, le))
    (λ f.
    let whole = filter_no p a (range_with_len (a + 1) n) f in
    subst (λ xs. slice_index xs 0 ≤ x) (sym whole)
    (first_kept-least p (a + 1) n x (subst (Has x) whole h)))
    (cases_Bool (p a))

-- a vertex with two edges has a first one
pub first-edge : (ends : List (ℕ × ℕ)) (v : ℕ) → HasTwoEdges ends v → 0 < length (edges_at ends v)
first-edge ends v two =
    let p = Has-place two.second (edges_at ends v) ((edges_at-Has ends v two.second).1 (two.within, two.second_at)) in
    omega (arith, p.1)

-- which is the least
pub first-root : (ends : List (ℕ × ℕ)) (v root : ℕ) → HasTwoEdges ends v → IsLeastEdge ends v root
    → slice_index (edges_at ends v) 0 ≡ root
first-root ends v root two least =
    let first = (edges_at-Has ends v (slice_index (edges_at ends v) 0)).0
    (Has_at (edges_at ends v) 0 (first-edge ends v two)) in
    let le = first_kept-least (touches ends v) 0 (length ends) root
    ((edges_at-Has ends v root).1 (least.within, least.is_end)) in
    let ge = least.least (slice_index (edges_at ends v) 0) first.0 first.1 in
    omega (arith, le, ge)

-- it is in a list that arranges the edges
pub first-in-list : (block : ListedGraph) → IsListedBlock block → (t : ℕ) → t < block.graph.vertices → (list : List ℕ)
    → list_given block.lists t ≡ Some list → HasTwoEdges block.graph.ends t
    → Has (slice_index (edges_at block.graph.ends t) 0) list
first-in-list block is_block t lt list given_is two =
    let arranged : MayBeGiven block.graph.ends t (Some list) =
    subst (MayBeGiven block.graph.ends t) given_is (is_block.arranged t lt) in
    (arranged.items (slice_index (edges_at block.graph.ends t) 0)).1
    (Has_at (edges_at block.graph.ends t) 0 (first-edge block.graph.ends t two))

module _ (block : ListedGraph) (is_block : IsListedBlock block) (t : ℕ) (lt_t : t < block.graph.vertices)
    (old : PQTree) (is : IsEmbeddingTree block t old) where
  -- how many vertices the block has
  abbrev n : ℕ
  n = block.graph.vertices

  -- a system with directions has an order at t from the root on, and a pair of the tree with this order
  directed-pair : (bit : ℕ → Bool) (r : System) → IsDirectedBy block bit r
      → (word : List ℕ) × IsTurn (old.root ∷ word) (edges_round r t) × pairs_of n old word bit
  directed-pair bit r d =
      let at = (edges_at-Has block.graph.ends t old.root).1 (is.root.within, is.root.is_end) in
      let there = ((round-IsArrangementOf block.graph is_block.no_loop r d.of_graph t lt_t).items old.root).1 at in
      let w = turn_to_item old.root (edges_round r t) there in
      let turn = turn-sym (edges_round r t) (old.root ∷ w.0) w.1 in (
        w.0,
        turn,
        (is.exact w.0 bit).1 (
          r,
          record {
            of_graph = d.of_graph;
            plane = d.plane;
            order_is = turn;
            lists_kept = λ v lt other. d.lists_kept v lt;
          },
        ),
      )

  -- the order of a pair is one in which the block is embedded by the bits
  pair-embedded : (order : List ℕ) (bits : List Bool) → IsPair old order bits → IsEmbedded block t order (bit_of bits)
  pair-embedded order bits p =
      subst (λ o. IsEmbedded block t o (bit_of bits)) (sym p.order_is)
      ((is.exact p.word (bit_of bits)).0 (bits, subst (λ o. IsPair old o bits) p.order_is p, λ v lt. refl))

  -- where t keeps its list in the order, too, the block is directed by the bits
  embedded-directed : (order : List ℕ) (bit made : ℕ → Bool) → ((v : ℕ) → v < n → made v ≡ bit v)
      → KeepsDirection (list_given block.lists t) (bit t) order
      → IsEmbedded block t order made → CanBeDirected block bit
  embedded-directed order bit made same keeps z = (
    z.0,
    record {
      of_graph = z.1.of_graph;
      plane = z.1.plane;
      lists_kept = λ v lt. ⊎_elim
          (λ e. subst (λ u. KeepsDirection (list_given block.lists u) (bit u) (edges_round z.0 u)) (sym e)
          (KeepsDirection-turn (list_given block.lists t) (bit t) order (edges_round z.0 t) keeps z.1.order_is))
          (λ other. subst (λ b. KeepsDirection (list_given block.lists v) b (edges_round z.0 v)) (same v lt)
          (z.1.lists_kept v lt other))
          (cases_eq v t);
    },
  )

  -- without a list at t the tree is that of all directions
  pub free-IsDirectedTree : list_given block.lists t ≡ None → IsDirectedTree block t old old
  free-IsDirectedTree free = record {
    vars = is.vars;
    vars_kept = omega arith;
    exact = λ bit. (
      λ p. embedded-directed p.0 bit (bit_of p.1) p.3
          (subst (λ l. KeepsDirection l (bit t) p.0) (sym free) tt) (pair-embedded p.0 p.1 p.2),
      λ d. let p = directed-pair bit d.0 d.1 in (old.root ∷ p.0, p.2.0, p.2.1, p.2.2),
    );
    pairs = λ order bits p. subst (IsPair old order) (sym (take_all old.vars bits (omega (arith, p.bits_count)))) p;
    list_kept = λ order bits p. subst (λ l. KeepsDirection l (bit_of bits t) order) (sym free) tt;
    some_pair = is.some_pair;
  }

  -- with a list at t
  module _ (list row : List ℕ) (given_is : list_given block.lists t ≡ Some list) (turn : IsTurn list (old.root ∷ row))
    where
      -- the list arranges the edges of t
      list_arranged : MayBeGiven block.graph.ends t (Some list)
      list_arranged = subst (MayBeGiven block.graph.ends t) given_is (is_block.arranged t lt_t)

      -- the root and the row repeat no item
      row_once : Distinct (old.root ∷ row)
      row_once = turn-Distinct list (old.root ∷ row) turn list_arranged.distinct

      -- the root does not stand in the row, in whatever direction
      root_out : (b : Bool) → Has old.root (in_direction b row) → ⊥
      root_out b h = has_lacks old.root row ((directed-Has b row old.root).0 h) row_once.0

      -- the row repeats no item
      pub row-Distinct : Distinct row
      row-Distinct = row_once.1

      -- an order of the tree has the items of the root and the row
      order_items : (order : List ℕ) (bits : List Bool) → IsPair old order bits
          → Distinct order × ((x : ℕ) → Has x order ↔ Has x (old.root ∷ row))
      order_items order bits p =
          let z = pair-embedded order bits p in
          let a = round-IsArrangementOf block.graph is_block.no_loop z.0 z.1.of_graph t lt_t in (
            turn-Distinct (edges_round z.0 t) order (turn-sym order (edges_round z.0 t) z.1.order_is) a.distinct,
            λ x. (
              λ h. turn-Has list (old.root ∷ row) x turn ((list_arranged.items x).1
                  ((a.items x).0 (turn-Has order (edges_round z.0 t) x z.1.order_is h))),
              λ h. Has-of_turn order (edges_round z.0 t) x z.1.order_is ((a.items x).1
                  ((list_arranged.items x).0 (Has-of_turn list (old.root ∷ row) x turn h))),
            ),
          )

      -- the row is of leaves of the tree
      pub row-leaves : (x : ℕ) → Has x row → Has x (leaves old.body)
      row-leaves x h =
          let p = is.some_pair.2 in
          let there = subst (Has x) p.order_is (((order_items is.some_pair.0 is.some_pair.1 p).1 x).1 (inr h)) in
          ⊎_elim
          (λ e. absurd (has_lacks x row h (subst (λ y. Lacks y row) e row_once.0)))
          (λ k. Has-IsPermutation x p.word (leaves old.body)
          (IsPermutation-sym (leaves old.body) p.word
          (read_leaves (given is.some_pair.1) old.body p.word p.reads)) k)
          there

      -- where t has two edges the row is not empty
      pub row-some : HasTwoEdges block.graph.ends t → row ≢ []
      row-some two none =
          let at : (k : ℕ) → Has k (edges_at block.graph.ends t) → k ≡ old.root =
          λ k h. ⊎_elim (λ e. sym e) (λ m. absurd m)
          (subst (λ us. Has k (old.root ∷ us)) none (turn-Has list (old.root ∷ row) k turn ((list_arranged.items k).1 h)))
          in
          let first = at two.first ((edges_at-Has block.graph.ends t two.first).1
          (omega (arith, two.less, two.within), two.first_at)) in
          let second = at two.second ((edges_at-Has block.graph.ends t two.second).1 (two.within, two.second_at)) in
          omega (arith, two.less, first, second)

      -- an order of the tree that has the row is the root and the row
      row-kept : (order : List ℕ) (bits : List Bool) (b : Bool) → IsPair old order bits
          → HasRow (in_direction b row) order
          → IsTurn (directed b list) order
      row-kept order bits b p h =
          let items = order_items order bits p in
          let once : Distinct (old.root ∷ p.word) = subst Distinct p.order_is items.0 in
          let all : (x : ℕ) → Has x p.word → Has x (in_direction b row) =
          λ x k. ⊎_elim
          (λ e. absurd (has_lacks old.root p.word (subst (λ y. Has y p.word) (sym e) k) once.0))
          (λ m. (directed-Has b row x).1 m)
          ((items.1 x).0 (subst (Has x) (sym p.order_is) (inr k)))
          in
          let is_word = row_whole old.root p.word (in_direction b row) once (root_out b) all
          (subst (HasRow (in_direction b row)) p.order_is h) in
          subst (IsTurn (directed b list)) (sym (p.order_is ∙ ap (λ ws. old.root ∷ ws) is_word))
          (directed-turn b list row old.root turn)

      -- a system with directions has a pair that has the row in the direction of t
      directed-row : (bit : ℕ → Bool) → CanBeDirected block bit
          → (word : List ℕ) × (p : pairs_of n old word bit)
          × HasRow (in_direction (bit_of p.0 t) row) (old.root ∷ word)
      directed-row bit d =
          let p = directed-pair bit d.0 d.1 in
          let kept : IsTurn (directed (bit t) list) (edges_round d.0 t) =
          subst (λ l. KeepsDirection l (bit t) (edges_round d.0 t)) given_is (d.1.lists_kept t lt_t) in
          let both : IsTurn (old.root ∷ in_direction (bit t) row) (old.root ∷ p.0) =
          turn-trans (old.root ∷ in_direction (bit t) row) (directed (bit t) list) (old.root ∷ p.0)
          (turn-sym (directed (bit t) list) (old.root ∷ in_direction (bit t) row)
          (directed-turn (bit t) list row old.root turn))
          (turn-trans (directed (bit t) list) (edges_round d.0 t) (old.root ∷ p.0) kept
          (turn-sym (old.root ∷ p.0) (edges_round d.0 t) p.1))
          in
          let same : in_direction (bit t) row ≡ p.0 =
          turn_same old.root (in_direction (bit t) row) p.0
          (Lacks-from old.root (in_direction (bit t) row) (root_out (bit t))) both
          in
          let own : in_direction (bit_of p.2.0 t) row ≡ p.0 =
          ap (λ b. in_direction b row) (p.2.2 t lt_t) ∙ same
          in (
            p.0,
            p.2,
            (old.root ∷ [], [], ap (λ ws. old.root ∷ ws) (sym (append-nil (in_direction (bit_of p.2.0 t) row) ∙ own))),
          )

      -- where no pair has the row in the direction of t, the block has no directions
      pub refused-never : ((order : List ℕ) (bits : List Bool) → IsPair old order bits
          → HasRow (in_direction (bit_of bits t) row) order → ⊥)
          → (bit : ℕ → Bool) → CanBeDirected block bit → ⊥
      refused-never none bit d = let p = directed-row bit d in none (old.root ∷ p.0) p.1.0 p.1.1 p.2

      -- the tree forced to the row is that of all directions
      pub forced-IsDirectedTree : (new : PQTree) → IsForced row t old new → HasSomePair new
          → IsDirectedTree block t old new
      forced-IsDirectedTree new f some = record {
        vars = is.vars;
        vars_kept = f.vars_kept;
        exact = λ bit. (to bit, from bit);
        pairs = λ order bits p. (f.only order bits p).0;
        list_kept = kept;
        some_pair = some;
      }
        where
          -- a pair of the new tree has the list of t in the direction of its bit
          kept : (order : List ℕ) (bits : List Bool) → IsPair new order bits
              → KeepsDirection (list_given block.lists t) (bit_of bits t) order
          kept order bits p =
              let w = f.only order bits p in
              subst (λ l. KeepsDirection l (bit_of bits t) order) (sym given_is)
              (row-kept order (take old.vars bits) (bit_of bits t) w.0 w.1)

          -- bits of a pair are directions of the block
          to : (bit : ℕ → Bool) → HasPairWith n new bit → CanBeDirected block bit
          to bit p =
              embedded-directed p.0 bit (bit_of (take old.vars p.1))
              (λ v lt. bit_of-take old.vars p.1 v (omega (arith, lt, is.vars)) ∙ p.3 v lt)
              (subst (λ b. KeepsDirection (list_given block.lists t) b p.0) (p.3 t lt_t) (kept p.0 p.1 p.2))
              (pair-embedded p.0 (take old.vars p.1) (f.only p.0 p.1 p.2).0)

          -- and back
          from : (bit : ℕ → Bool) → CanBeDirected block bit → HasPairWith n new bit
          from bit d =
              let p = directed-row bit d in
              let k = f.keeps (old.root ∷ p.0) p.1.0 p.1.1 p.2 in (
                old.root ∷ p.0,
                p.1.0 ++ k.0,
                k.1,
                λ v lt. bit_append p.1.0 k.0 v (omega (arith, lt, is.vars, p.1.1.bits_count)) ∙ p.1.2 v lt,
              )
