-- From a pair of the last stage back to lists: where each vertex gets its list in a step, the pairs are those of
-- these lists.
use Rattle.std.proofs.Common.{◌≡◌, ◌≢◌, ℕ, ◌*◌, ◌<◌, Bool, false, Option, Some, List, [], ◌∷◌, ◌++◌, map, reverse, sym, refl, subst}
use Rattle.cp_lists.specs.CyclicLists.{but}
use Rattle.cp_lists.specs.Turns.{IsTurn}
use Rattle.cp_lists.proofs.TurnedLists.{turn-refl}
use Rattle.cp_faces.specs.Twins.{twin}
use Rattle.cp_embed.specs.Arrangements.{IsArrangementOf}
use Rattle.cp_embed.specs.Directions.{directed, edge_of}
use Rattle.cp_embed.specs.Sweeps.{darts_at, ins_of, outs_of, IsStagePair, IsSweep}
use Rattle.cp_embed.proofs.FirstPairs.{IsStagePair-first}
use Rattle.cp_embed.proofs.StagePairs.{IsStagePair-step}

-- the lists of all vertices are given, and each is kept as it stands
abbrev pub all_given : (ℕ → List ℕ) → ℕ → Option (List ℕ)
all_given lists v = Some (lists v)

-- a map of darts without loops, and lists of edges
module _ (at : ℕ → ℕ) (e r : ℕ) (lists : ℕ → List ℕ) (bit : ℕ → Bool) (forward : (v : ℕ) → bit v ≡ false)
    (no_loop : (d : ℕ) → d < 2 * e → at (twin d) ≢ at d) where
  -- the first vertex has the word in reverse behind the edge of r
  pub unwound-first : (s : ℕ) → r < 2 * e → IsSweep at e r (s ∷ []) → (word : List ℕ)
      → IsArrangementOf word (map edge_of (but (twin r) (darts_at at e s))) → lists s ≡ edge_of r ∷ reverse word
      → IsStagePair at e (all_given lists) r (s ∷ []) word bit
  unwound-first s lt_r sweep word a list_is =
      (IsStagePair-first at e r (all_given lists) no_loop lt_r s sweep word bit).1 (
        a,
        subst (λ b. IsTurn (directed b (lists s)) (edge_of r ∷ reverse word)) (sym (forward s))
            (subst (λ ws. IsTurn ws (edge_of r ∷ reverse word)) (sym list_is) (turn-refl (edge_of r ∷ reverse word))),
      )

  -- each further vertex has the run of its edges to what is taken, and behind it that of its others in reverse
  pub unwound-step : (x y : ℕ) (others : List ℕ) → IsSweep at e r (x ∷ y ∷ others) → (front us vs behind : List ℕ)
      → IsArrangementOf us (map edge_of (ins_of at e (y ∷ others) x))
      → IsArrangementOf vs (map edge_of (outs_of at e (y ∷ others) x)) → lists x ≡ us ++ vs
      → IsStagePair at e (all_given lists) r (y ∷ others) (front ++ (us ++ behind)) bit
      → IsStagePair at e (all_given lists) r (x ∷ y ∷ others) (front ++ (reverse vs ++ behind)) bit
  unwound-step x y others sweep front us vs behind a b list_is pair =
      (IsStagePair-step at e r (all_given lists) no_loop x y others sweep (front ++ (reverse vs ++ behind)) bit).1
      (record {
        us = us;
        vs = vs;
        front = front;
        behind = behind;
        us_is = a;
        vs_is = b;
        list_kept = subst (λ c. IsTurn (directed c (lists x)) (us ++ vs)) (sym (forward x))
            (subst (λ ws. IsTurn ws (us ++ vs)) (sym list_is) (turn-refl (us ++ vs)));
        word_is = refl;
        taken_from = pair;
      })
