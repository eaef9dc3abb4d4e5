-- The loop of an embedding: from an order tree whose pairs are those of a stage, by two calls, to one of the next
-- stage.
use Rattle.std.proofs.Common.{◌≡◌, ◌≢◌, ℕ, ◌*◌, ◌<◌, ◌≤◌, ◌↔◌, Bool, Option, Some, None, List, ◌∷◌, ◌++◌, length, map, reverse, sym, ap, ◌∙◌, subst, ⊎_elim}
use Rattle.cp_lists.specs.CyclicLists.{Has, Distinct}
use Rattle.cp_lists.proofs.DistinctLists.{has_lacks}
use Rattle.cp_lists.proofs.MappedLists.{Has-map_on, map_on-Has, Distinct-map_on}
use Rattle.cp_faces.specs.Twins.{twin}
use Rattle.cp_faces.proofs.Twins.{same_half}
use Rattle.cp_pq.specs.declared.node.Node.{Node}
use Rattle.cp_pq.specs.declared.part.Part.{Part}
use Rattle.cp_pq.specs.Bits.{bit_of}
use Rattle.cp_pq.specs.Promises.{IsReduced, IsForced, IsReplaced, ReadsPart}
use Rattle.cp_pq.specs.Readings.{Reads, given}
use Rattle.cp_pq.specs.Trees.{PQTree}
use Rattle.cp_embed.specs.Arrangements.{IsArrangementOf}
use Rattle.cp_embed.specs.Directions.{directed, edge_of}
use Rattle.cp_embed.specs.Pairs.{Pairs, HasTogether, IsExchanged, HasRun, IsRunExchanged, SamePairs}
use Rattle.cp_embed.specs.Splits.{IsSplit}
use Rattle.cp_embed.specs.Sweeps.{ins_of, outs_of, LeadsInto, IsStagePair, IsSweep}
use Rattle.cp_embed.specs.TreePairs.{pairs_of}
use Rattle.cp_embed.proofs.Arrangements.{IsArrangementOf-items, IsArrangementOf-reverse}
use Rattle.cp_embed.proofs.DartLists.{ins_of-Has, outs_of-Has}
use Rattle.cp_embed.proofs.Directions.{IsArrangementOf-directed}
use Rattle.cp_embed.proofs.PairSteps.{free_step-SamePairs, listed_step-SamePairs}
use Rattle.cp_embed.proofs.ReplacedPairs.{replaced-SamePairs, replaced_run-SamePairs}
use Rattle.cp_embed.proofs.Sweeps.{IsSweep-root, LeadsInto-edge, ins-LeadsInto}
use Rattle.cp_embed.proofs.TreePairs.{reduced-SamePairs, forced-SamePairs}

-- equal sets of pairs, over a third one
SamePairs-trans : (one two three : Pairs) → SamePairs one two → SamePairs two three → SamePairs one three
SamePairs-trans one two three a b word bit =
    ((λ h. (b word bit).0 ((a word bit).0 h)), (λ h. (a word bit).1 ((b word bit).1 h)))

-- equal sets with one set of items exchanged for one other are equal
IsExchanged-same : (set new_items others news : List ℕ) (one two : Pairs) → ((d : ℕ) → Has d set ↔ Has d others)
    → ((d : ℕ) → Has d new_items ↔ Has d news) → SamePairs one two → (word : List ℕ) (bit : ℕ → Bool)
    → IsExchanged set new_items one word bit → IsExchanged others news two word bit
IsExchanged-same set new_items others news one two set_is new_is same word bit p = record {
  front = p.front;
  run = p.run;
  taken = p.taken;
  behind = p.behind;
  word_is = p.word_is;
  run_is = IsArrangementOf-items p.run new_items news p.run_is new_is;
  taken_is = IsArrangementOf-items p.taken set others p.taken_is set_is;
  pair = (same (p.front ++ (p.taken ++ p.behind)) bit).0 p.pair;
}

-- and so are those in which the set is consecutive
HasTogether-same : (set others : List ℕ) (one two : Pairs) → ((d : ℕ) → Has d set ↔ Has d others) → SamePairs one two
    → (word : List ℕ) (bit : ℕ → Bool) → HasTogether set one word bit → HasTogether others two word bit
HasTogether-same set others one two set_is same word bit p = record {
  front = p.front;
  run = p.run;
  behind = p.behind;
  word_is = p.word_is;
  run_is = IsArrangementOf-items p.run set others p.run_is set_is;
  pair = (same word bit).0 p.pair;
}

-- the other way round
Has-sym : (xs ys : List ℕ) → ((d : ℕ) → Has d xs ↔ Has d ys) → (d : ℕ) → Has d ys ↔ Has d xs
Has-sym xs ys same d = ((same d).1, (same d).0)

-- a map of darts without loops, given lists, and a vertex x that is taken next behind y and others; a tree whose
-- pairs are
-- those of the stage before, with the edge of r as its root
module _ (at : ℕ → ℕ) (e r : ℕ) (psi : ℕ → Option (List ℕ))
    (no_loop : (d : ℕ) → d < 2 * e → at (twin d) ≢ at d) (lt_r : r < 2 * e) (x y : ℕ) (others : List ℕ)
    (sweep : IsSweep at e r (x ∷ y ∷ others)) (n : ℕ) (old : PQTree) (le : n ≤ old.vars) (root : old.root ≡ edge_of r)
    (same : SamePairs (pairs_of n old) (IsStagePair at e psi r (y ∷ others))) where
  -- the edges of x to what is taken
  abbrev ins : List ℕ
  ins = map edge_of (ins_of at e (y ∷ others) x)

  -- and its others
  abbrev outs : List ℕ
  outs = map edge_of (outs_of at e (y ∷ others) x)

  -- r leads into what is taken
  pub root_leads : LeadsInto at e (y ∷ others) r
  root_leads = let w = IsSweep-root at e r (y ∷ others) sweep.1 in record { within = lt_r; outside = w.0; into = w.1 }

  -- no word of a pair has an edge twice, nor that of r
  pub old_once : (word : List ℕ) (bit : ℕ → Bool) → pairs_of n old word bit → Distinct (old.root ∷ word)
  old_once word bit q =
      let p = (same word bit).0 q in
      subst (λ k. Distinct (k ∷ word)) (sym root) (subst (λ ws. Distinct (edge_of r ∷ ws)) (sym p.word_is)
      (Distinct-map_on edge_of (r ∷ p.row)
      (λ c d hc hd. LeadsInto-edge at e r (y ∷ others) c d ((p.all c).0 hc) ((p.all d).0 hd)) p.once))

  -- each has all edges of x to what is taken
  pub old_all : (word : List ℕ) (bit : ℕ → Bool) → pairs_of n old word bit → (k : ℕ) → Has k ins → Has k word
  old_all word bit q k h =
      let p = (same word bit).0 q in
      let c = map_on-Has edge_of k (ins_of at e (y ∷ others) x) h in
      let w = (ins_of-Has at e (y ∷ others) x c.0).0 c.1 in
      ⊎_elim
      (λ s. absurd (sweep.0.not_last (ap at s ∙ w.1)))
      (λ m. subst (Has k) (sym p.word_is) (subst (λ z. Has z (map edge_of p.row)) c.2 (Has-map_on edge_of c.0 p.row m)))
      ((p.all c.0).1 (ins-LeadsInto at e r no_loop (y ∷ others) x sweep.0.new c.0 c.1))

  -- the edge of r is no edge of x to what is taken
  pub root_not_in : Has old.root ins → ⊥
  root_not_in h =
      let c = map_on-Has edge_of old.root (ins_of at e (y ∷ others) x) h in
      let w = (ins_of-Has at e (y ∷ others) x c.0).0 c.1 in
      sweep.0.not_last (ap at (sym (LeadsInto-edge at e r (y ∷ others) c.0 r
      (ins-LeadsInto at e r no_loop (y ∷ others) x sweep.0.new c.0 c.1) root_leads (c.2 ∙ root))) ∙ w.1)

  -- nor one of its others
  pub root_not_out : Has old.root outs → ⊥
  root_not_out h =
      let c = map_on-Has edge_of old.root (outs_of at e (y ∷ others) x) h in
      let w = (outs_of-Has at e (y ∷ others) x c.0).0 c.1 in
      ⊎_elim
      (λ s. sweep.0.not_last (ap at s ∙ w.1))
      (λ s. has_lacks x (y ∷ others) (subst (λ z. Has z (y ∷ others)) (ap at (sym s) ∙ w.1) root_leads.into)
      sweep.0.new)
      (same_half r c.0 (sym (c.2 ∙ root)))

  -- some edge of x leads to what is taken
  some_in : Has (edge_of sweep.0.enters.0) ins
  some_in = Has-map_on edge_of sweep.0.enters.0 (ins_of at e (y ∷ others) x) sweep.0.enters.1

  -- and some other does not
  some_out : Has (edge_of sweep.0.leaves.0) outs
  some_out = Has-map_on edge_of sweep.0.leaves.0 (outs_of at e (y ∷ others) x) sweep.0.leaves.1

  -- a tree in between, and the part of it that a set of the edges of x to what is taken fills replaced by a node
  module _ (set : List ℕ) (set_is : (d : ℕ) → Has d set ↔ Has d ins) (mid new : PQTree) (node : Node) (part : Part)
      (replaced : IsReplaced set node mid new part)
      (part_same : (bits : List Bool) (us vs : List ℕ) (d : ℕ) → ReadsPart (given bits) part us
      → ReadsPart (given bits) part vs → Has d us → Has d vs) where
    -- a vertex without a given list: reduce by its edges to what is taken, and put in a node that reads its others in
    -- any
    -- order
    pub free_tree_step : psi x ≡ None → IsReduced set old mid → (new_items : List ℕ)
        → ((d : ℕ) → Has d new_items ↔ Has d outs)
        → ((bits : List Bool) (word : List ℕ) → Reads (given bits) node word ↔ IsArrangementOf word new_items)
        → SamePairs (pairs_of n new) (IsStagePair at e psi r (x ∷ y ∷ others))
    free_tree_step none reduced new_items new_is node_reads =
        let one : SamePairs (pairs_of n mid) (HasTogether set (pairs_of n old)) =
        reduced-SamePairs n set old mid le reduced (λ h. root_not_in ((set_is old.root).0 h))
        (λ word bit q. ((old_once word bit q).1, λ d h. old_all word bit q d ((set_is d).0 h)))
        in
        let two : SamePairs (pairs_of n new) (IsExchanged set new_items (pairs_of n mid)) =
        replaced-SamePairs n set node mid new part replaced (edge_of sweep.0.enters.0)
        ((set_is (edge_of sweep.0.enters.0)).1 some_in)
        (λ h. root_not_in ((set_is old.root).0 (subst (λ k. Has k set) reduced.root h))) part_same
        (λ word bit q. subst (λ k. Distinct (k ∷ word)) (sym reduced.root)
        (old_once word bit ((one word bit).0 q).pair))
        new_items (edge_of sweep.0.leaves.0) ((new_is (edge_of sweep.0.leaves.0)).1 some_out)
        (λ h. root_not_out ((new_is old.root).0 (subst (λ k. Has k new_items) reduced.root h))) node_reads
        in
        let three : SamePairs (pairs_of n mid) (HasTogether ins (pairs_of n old)) =
        SamePairs-trans (pairs_of n mid) (HasTogether set (pairs_of n old)) (HasTogether ins (pairs_of n old)) one
        (λ word bit. (
          HasTogether-same set ins (pairs_of n old) (pairs_of n old) set_is (λ w b. ((λ h. h), (λ h. h))) word bit,
          HasTogether-same ins set (pairs_of n old) (pairs_of n old) (Has-sym set ins set_is)
              (λ w b. ((λ h. h), (λ h. h))) word bit,
        ))
        in
        SamePairs-trans (pairs_of n new) (IsExchanged set new_items (pairs_of n mid))
        (IsStagePair at e psi r (x ∷ y ∷ others)) two
        (SamePairs-trans (IsExchanged set new_items (pairs_of n mid))
        (IsExchanged ins outs (HasTogether ins (pairs_of n old)))
        (IsStagePair at e psi r (x ∷ y ∷ others))
        (λ word bit. (
          IsExchanged-same set new_items ins outs (pairs_of n mid)
              (HasTogether ins (pairs_of n old)) set_is new_is three word bit,
          IsExchanged-same ins outs set new_items (HasTogether ins (pairs_of n old)) (pairs_of n mid)
              (Has-sym set ins set_is)
              (Has-sym new_items outs new_is) (λ w b. ((three w b).1, (three w b).0)) word bit,
        ))
        (free_step-SamePairs at e r psi no_loop x y others sweep (pairs_of n old) same none))

    -- a vertex with a given list: force the first part of its split by its bit, and put in a node that reads the
    -- second part
    -- in reverse by its bit
    pub listed_tree_step : (list first second : List ℕ) → psi x ≡ Some list → Distinct list
        → IsSplit list ins outs first second
        → x < n → IsForced first x old mid
        → ((bits : List Bool) (word : List ℕ) → Reads (given bits) node word
        → word ≡ directed (bit_of bits x) (reverse second))
        → ((bits : List Bool) → length bits ≡ mid.vars → Reads (given bits) node
        (directed (bit_of bits x) (reverse second)))
        → SamePairs (pairs_of n new) (IsStagePair at e psi r (x ∷ y ∷ others))
    listed_tree_step list first second is_given once split lt forced reads_only reads_all =
        let rows : (b : Bool) → IsArrangementOf (directed b first) ins =
        λ b. IsArrangementOf-directed b first ins split.first_is
        in
        let news : (b : Bool) → IsArrangementOf (directed b (reverse second)) outs =
        λ b. IsArrangementOf-directed b (reverse second) outs (IsArrangementOf-reverse second outs split.second_is)
        in
        let one : SamePairs (pairs_of n mid) (HasRun first x (pairs_of n old)) =
        forced-SamePairs n first x old mid le lt forced (λ b h. root_not_in (((rows b).items old.root).0 h))
        in
        let two : SamePairs (pairs_of n new) (IsRunExchanged first (reverse second) x (pairs_of n mid)) =
        replaced_run-SamePairs n set node mid new part replaced (edge_of sweep.0.enters.0)
        ((set_is (edge_of sweep.0.enters.0)).1 some_in)
        (λ h. root_not_in ((set_is old.root).0 (subst (λ k. Has k set) forced.root h))) part_same
        (λ word bit q. subst (λ k. Distinct (k ∷ word)) (sym forced.root) (old_once word bit ((one word bit).0 q).pair))
        first (reverse second) x lt
        (λ b. IsArrangementOf-items (directed b first) ins set (rows b) (Has-sym set ins set_is))
        (λ b. (
          (λ h. root_not_out (((news b).items old.root).0
              (subst (λ k. Has k (directed b (reverse second))) forced.root h))),
          (λ none. subst (Has (edge_of sweep.0.leaves.0)) none
              (((news b).items (edge_of sweep.0.leaves.0)).1 some_out)),
        ))
        reads_only reads_all
        (λ word bit q. let h = (one word bit).0 q in record
        { front = h.front; behind = h.behind; word_is = h.word_is; pair = q })
        in
        SamePairs-trans (pairs_of n new) (IsRunExchanged first (reverse second) x (pairs_of n mid))
        (IsStagePair at e psi r (x ∷ y ∷ others)) two
        (SamePairs-trans (IsRunExchanged first (reverse second) x (pairs_of n mid))
        (IsRunExchanged first (reverse second) x (HasRun first x (pairs_of n old)))
        (IsStagePair at e psi r (x ∷ y ∷ others))
        (λ word bit. (
          (λ p. record {
            front = p.front;
            behind = p.behind;
            word_is = p.word_is;
            pair = (one (p.front ++ (directed (bit x) first ++ p.behind)) bit).0 p.pair;
          }),
          (λ p. record {
            front = p.front;
            behind = p.behind;
            word_is = p.word_is;
            pair = (one (p.front ++ (directed (bit x) first ++ p.behind)) bit).1 p.pair;
          }),
        ))
        (listed_step-SamePairs at e r psi no_loop x y others sweep
        (pairs_of n old) same list is_given first second once split))
