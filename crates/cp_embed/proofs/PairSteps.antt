-- A step of a sweep as what the calls on an order tree make of its pairs.
use Rattle.std.proofs.Common.{◌≡◌, ◌≢◌, ℕ, ◌*◌, ◌<◌, ◌↔◌, Bool, Option, Some, None, List, ◌∷◌, ◌++◌, map, reverse, sym, refl, ap, ◌∙◌, subst}
use Rattle.std.proofs.lemmas.List.{reverse-reverse}
use Rattle.cp_lists.specs.CyclicLists.{Distinct}
use Rattle.cp_lists.proofs.MappedLists.{Has-map_on}
use Rattle.cp_faces.specs.Twins.{twin}
use Rattle.cp_embed.specs.Arrangements.{IsArrangementOf}
use Rattle.cp_embed.specs.Directions.{directed, KeepsDirection, edge_of}
use Rattle.cp_embed.specs.Pairs.{Pairs, HasTogether, IsExchanged, HasRun, IsRunExchanged, SamePairs, IsStepWord}
use Rattle.cp_embed.specs.Splits.{IsSplit}
use Rattle.cp_embed.specs.Sweeps.{ins_of, outs_of, IsStagePair, IsSweep}
use Rattle.cp_embed.proofs.Arrangements.{IsArrangementOf-reverse}
use Rattle.cp_embed.proofs.DirectedSplits.{IsSplit-directed, directed-IsSplit, IsSplit-unique}
use Rattle.cp_embed.proofs.Directions.{directed-reverse, Distinct-directed}
use Rattle.cp_embed.proofs.StagePairs.{IsStagePair-step}

-- a map of darts without loops, given lists, and a vertex x that is taken next behind y and others; the pairs of an
-- order
-- tree are those of the stage before
module _ (at : ℕ → ℕ) (e r : ℕ) (psi : ℕ → Option (List ℕ))
    (no_loop : (d : ℕ) → d < 2 * e → at (twin d) ≢ at d) (x y : ℕ) (others : List ℕ)
    (sweep : IsSweep at e r (x ∷ y ∷ others)) (pairs : Pairs)
    (same : SamePairs pairs (IsStagePair at e psi r (y ∷ others))) where
  -- the edges of x to what is taken
  abbrev ins : List ℕ
  ins = map edge_of (ins_of at e (y ∷ others) x)

  -- and its others
  abbrev outs : List ℕ
  outs = map edge_of (outs_of at e (y ∷ others) x)

  -- the pairs of the stage with x
  abbrev after : Pairs
  after = IsStagePair at e psi r (x ∷ y ∷ others)

  -- the step
  step : (word : List ℕ) (bit : ℕ → Bool) → after word bit
      ↔ IsStepWord ins outs (KeepsDirection (psi x) (bit x)) (λ v. IsStagePair at e psi r (y ∷ others) v bit) word
  step = IsStagePair-step at e r psi no_loop x y others sweep

  -- a vertex without a given list: the pairs in which its edges to what is taken are consecutive, with these
  -- exchanged for
  -- its other edges in any order
  pub free_step-SamePairs : psi x ≡ None → SamePairs (IsExchanged ins outs (HasTogether ins pairs)) after
  free_step-SamePairs none word bit = (
    λ p. (step word bit).1 (record {
      us = p.taken;
      vs = reverse p.run;
      front = p.front;
      behind = p.behind;
      us_is = p.taken_is;
      vs_is = IsArrangementOf-reverse p.run outs p.run_is;
      list_kept = subst (λ given. KeepsDirection given (bit x) (p.taken ++ reverse p.run)) (sym none) tt;
      word_is = p.word_is ∙ ap (λ ws. p.front ++ (ws ++ p.behind)) (sym (reverse-reverse p.run));
      taken_from = (same (p.front ++ (p.taken ++ p.behind)) bit).0 p.pair.pair;
    }),
    λ q.
        let w = (step word bit).0 q in
        record {
          front = w.front;
          run = reverse w.vs;
          taken = w.us;
          behind = w.behind;
          word_is = w.word_is;
          run_is = IsArrangementOf-reverse w.vs outs w.vs_is;
          taken_is = w.us_is;
          pair = record {
            front = w.front;
            run = w.us;
            behind = w.behind;
            word_is = refl;
            run_is = w.us_is;
            pair = (same (w.front ++ (w.us ++ w.behind)) bit).1 w.taken_from;
          };
        },
  )

  -- a vertex with a given list
  module _ (list : List ℕ) (given : psi x ≡ Some list) where
    -- a step that keeps it splits the list in its direction
    step_split : (bit : ℕ → Bool) (us vs : List ℕ) → IsArrangementOf us ins → IsArrangementOf vs outs
        → KeepsDirection (psi x) (bit x) (us ++ vs) → IsSplit (directed (bit x) list) ins outs us vs
    step_split bit us vs a b kept = record {
      turn = subst (λ l. KeepsDirection l (bit x) (us ++ vs)) given kept;
      first_is = a;
      second_is = b;
    }

    -- where the list is not split, the stage has no pair
    pub unsplit_step-none : ((first second : List ℕ) → IsSplit list ins outs first second → ⊥) → (word : List ℕ)
        (bit : ℕ → Bool) → after word bit → ⊥
    unsplit_step-none none word bit q =
        let w = (step word bit).0 q in
        let s = directed-IsSplit (bit x) list ins outs w.us w.vs
        (step_split bit w.us w.vs w.us_is w.vs_is w.list_kept) in
        none s.0 s.1 s.2

    -- where it is, the pairs are those with the first part as a run, with that exchanged for the second part in
    -- reverse,
    -- both by the bit of x
    pub listed_step-SamePairs : (first second : List ℕ) → Distinct list → IsSplit list ins outs first second
        → SamePairs (IsRunExchanged first (reverse second) x (HasRun first x pairs)) after
    listed_step-SamePairs first second dis split word bit = (
      λ p.
          let s = IsSplit-directed (bit x) list ins outs first second split in
          (step word bit).1 (record {
            us = directed (bit x) first;
            vs = directed (bit x) second;
            front = p.front;
            behind = p.behind;
            us_is = s.first_is;
            vs_is = s.second_is;
            list_kept = subst (λ l. KeepsDirection l (bit x) (directed (bit x) first ++ directed (bit x) second))
                (sym given) s.turn;
            word_is = p.word_is ∙ ap (λ ws. p.front ++ (ws ++ p.behind)) (directed-reverse (bit x) second);
            taken_from = (same (p.front ++ (directed (bit x) first ++ p.behind)) bit).0 p.pair.pair;
          }),
      λ q.
          let w = (step word bit).0 q in
          let t = (IsSplit-unique (bit x) list ins outs first second w.us w.vs (edge_of sweep.0.enters.0)
          (edge_of sweep.0.leaves.0)
          (Distinct-directed (bit x) list dis)
          (Has-map_on edge_of sweep.0.enters.0 (ins_of at e (y ∷ others) x) sweep.0.enters.1)
          (Has-map_on edge_of sweep.0.leaves.0 (outs_of at e (y ∷ others) x) sweep.0.leaves.1)
          split w.us_is w.vs_is).0 ((step_split bit w.us w.vs w.us_is w.vs_is w.list_kept).turn) in
          record {
            front = w.front;
            behind = w.behind;
            word_is = w.word_is ∙ ap (λ ws. w.front ++ (ws ++ w.behind))
                (ap reverse t.1 ∙ sym (directed-reverse (bit x) second));
            pair = record {
              front = w.front;
              behind = w.behind;
              word_is = refl;
              pair = subst (λ ws. pairs (w.front ++ (ws ++ w.behind)) bit) t.0
                  ((same (w.front ++ (w.us ++ w.behind)) bit).1 w.taken_from);
            };
          },
    )
