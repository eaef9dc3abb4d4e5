-- The step of a sweep, in words of edges: the pairs of a stage are those of the stage before with the edges into what
-- is
-- taken exchanged for the others.
use Rattle.std.proofs.Common.{◌≡◌, ◌≢◌, ℕ, ◌*◌, ◌<◌, ◌⊎◌, ◌↔◌, Bool, Option, List, ◌∷◌, ◌++◌, map, reverse, sym, refl, ap, ap₂, ◌∙◌, subst, inl, inr, ⊎_elim}
use Rattle.std.proofs.lemmas.List.{map-append}
use Rattle.cp_lists.specs.CyclicLists.{Has, Lacks, Distinct}
use Rattle.cp_lists.proofs.DistinctLists.{has_lacks, Lacks-from, Has-append_left, Has-append_right, Has-append_cases, Distinct-append}
use Rattle.cp_lists.proofs.MappedLists.{Distinct-map_on}
use Rattle.cp_lists.proofs.ReversedLists.{Distinct-reverse}
use Rattle.cp_lists.proofs.TurnedLists.{turn-map}
use Rattle.cp_faces.specs.Twins.{twin}
use Rattle.cp_faces.proofs.Twins.{twin-twin, twin-apart, same_half}
use Rattle.cp_maps.specs.Maps.{Below}
use Rattle.cp_maps.specs.Mirrors.{mirror}
use Rattle.cp_maps.proofs.ListFacts.{Below-from}
use Rattle.cp_embed.specs.Arrangements.{IsArrangementOf}
use Rattle.cp_embed.specs.Directions.{KeepsDirection, edge_of}
use Rattle.cp_embed.specs.Pairs.{IsStepWord}
use Rattle.cp_embed.specs.Stages.{IsStageOrder}
use Rattle.cp_embed.specs.Sweeps.{ins_of, outs_of, KeepsList, AreListsOf, LeadsInto, IsStagePair, IsSweep}
use Rattle.cp_embed.proofs.Arrangements.{IsArrangementOf-map, IsArrangementOf-unmap, arrangement_unmapped, map_parts, exchanged_run}
use Rattle.cp_embed.proofs.DartLists.{ins_of-Has, outs_of-Has, ins_outs-Distinct, ins_outs-Has}
use Rattle.cp_embed.proofs.Directions.{KeepsDirection-turn, mirror-edges}
use Rattle.cp_embed.proofs.Lists.{Has-mirror, mirror-Has}
use Rattle.cp_embed.proofs.Stages.{stage_step}
use Rattle.cp_embed.proofs.Sweeps.{twin_within, IsSweep-root, LeadsInto-edge, taken_darts, taken_darts-Has, taken_darts-apart, taken_darts-Distinct, AreListsOf-IsPrefix, ins-LeadsInto, ins-not_after, outs-LeadsInto, outs-not_before, LeadsInto-after, LeadsInto-before}

-- a map of darts without loops, given lists, and a vertex x that is taken next behind y and others
module _ (at : ℕ → ℕ) (e r : ℕ) (psi : ℕ → Option (List ℕ))
    (no_loop : (d : ℕ) → d < 2 * e → at (twin d) ≢ at d) (x y : ℕ) (others : List ℕ)
    (sweep : IsSweep at e r (x ∷ y ∷ others)) where
  -- what is taken before
  abbrev taken : List ℕ
  taken = y ∷ others

  -- the darts of x into it
  abbrev ins : List ℕ
  ins = ins_of at e taken x

  -- and its others
  abbrev outs : List ℕ
  outs = outs_of at e taken x

  -- x is new
  new : Lacks x taken
  new = sweep.0.new

  -- darts of x of one edge are equal
  at_x : (c d : ℕ) → Has c (ins ++ outs) → Has d (ins ++ outs) → edge_of c ≡ edge_of d → c ≡ d
  at_x c d hc hd same =
      let v = (ins_outs-Has at e taken x c).0 hc in
      let w = (ins_outs-Has at e taken x d).0 hd in
      ⊎_elim (λ h. h) (λ h. absurd (no_loop c v.0 (sym (ap at h) ∙ w.1 ∙ sym v.1))) (same_half c d same)

  -- those into what is taken
  at_ins : (c d : ℕ) → Has c ins → Has d ins → edge_of c ≡ edge_of d → c ≡ d
  at_ins c d hc hd = at_x c d (Has-append_left c ins outs hc) (Has-append_left d ins outs hd)

  -- and the others
  at_outs : (c d : ℕ) → Has c outs → Has d outs → edge_of c ≡ edge_of d → c ≡ d
  at_outs c d hc hd = at_x c d (Has-append_right c ins outs hc) (Has-append_right d ins outs hd)

  -- a list behind r of exactly the darts that lead into what is taken afterwards
  module _ (w : List ℕ) (once : Distinct (r ∷ w)) (all : (d : ℕ) → Has d (r ∷ w) ↔ LeadsInto at e (x ∷ taken) d) where
    -- a dart in front of the list that is not r
    not_root : (d : ℕ) → Has d outs → Has (twin d) (r ∷ w) → Has (twin d) w
    not_root d h k = ⊎_elim
        (λ s. absurd (has_lacks x taken
        (subst (λ z. Has z taken) (ap (λ z. at (twin z)) s ∙ ap at (twin-twin d) ∙ ((outs_of-Has at e taken x d).0 h).1)
        (IsSweep-root at e r taken sweep.1).1) new))
        (λ m. m)
        k

    -- what the step asks of the twins of the darts of x that lead out
    twins_out : (d : ℕ) → Has d outs → Has (twin d) w
    twins_out d h = not_root d h ((all (twin d)).1
        (outs-LeadsInto at e r no_loop taken x new (twin d) (subst (λ z. Has z outs) (sym (twin-twin d)) h)))

    -- of those that lead in
    twins_in : (d : ℕ) → Has d ins → Has (twin d) (taken_darts at e r taken)
    twins_in d h =
        let v = (ins_of-Has at e taken x d).0 h in (taken_darts-Has at e r taken (twin d)).1
        (twin_within at e r d v.0, v.2)

    -- and of those of the list
    twins_back : (d : ℕ) → Has d w → Has (twin d) (taken_darts at e r taken) ⊎ Has (twin d) outs
    twins_back d h =
        let q : LeadsInto at e (x ∷ taken) d = (all d).0 (inr h) in
        ⊎_elim
        (λ o. inr o)
        (λ p. inl ((taken_darts-Has at e r taken (twin d)).1 (twin_within at e r d p.within, p.into)))
        (LeadsInto-before at e r no_loop taken x new d q)

    -- no dart stands twice among those of x, of the list and of what is taken
    apart : Distinct (((ins ++ outs) ++ (r ∷ w)) ++ taken_darts at e r taken)
    apart =
        Distinct-append ((ins ++ outs) ++ (r ∷ w)) (taken_darts at e r taken)
        (Distinct-append (ins ++ outs) (r ∷ w) (ins_outs-Distinct at e taken x) once
        (λ d h. Lacks-from d (r ∷ w) (λ k. ((all d).0 k).outside.0 (sym ((ins_outs-Has at e taken x d).0 h).1))))
        (taken_darts-Distinct at e r taken sweep.1)
        (λ d h. Lacks-from d (taken_darts at e r taken) (λ k. ⊎_elim
        (λ m. taken_darts-apart at e r taken x d new k ((ins_outs-Has at e taken x d).0 m).1)
        (λ m. has_lacks (at d) taken ((taken_darts-Has at e r taken d).0 k).1 ((all d).0 m).outside.1)
        (Has-append_cases d (ins ++ outs) (r ∷ w) h)))

    -- all are darts of the map
    within : Below (2 * e) (((ins ++ outs) ++ (r ∷ w)) ++ taken_darts at e r taken)
    within = Below-from (2 * e) (((ins ++ outs) ++ (r ∷ w)) ++ taken_darts at e r taken) (λ d h. ⊎_elim
        (λ k. ⊎_elim
        (λ m. ((ins_outs-Has at e taken x d).0 m).0)
        (λ m. ((all d).0 m).within)
        (Has-append_cases d (ins ++ outs) (r ∷ w) k))
        (λ k. ((taken_darts-Has at e r taken d).0 k).0)
        (Has-append_cases d ((ins ++ outs) ++ (r ∷ w)) (taken_darts at e r taken) h))

    -- the step for the list
    list_step : (bit : ℕ → Bool) → IsStageOrder e r (AreListsOf at e psi bit (x ∷ taken)) w
        ↔ ((us : List ℕ) × (vs : List ℕ) × (front : List ℕ) × (behind : List ℕ) × IsArrangementOf us ins
        × IsArrangementOf vs outs × KeepsList psi bit x (us ++ vs) × (w ≡ front ++ (mirror vs ++ behind))
        × IsStageOrder e r (AreListsOf at e psi bit taken) (front ++ (us ++ behind)))
    list_step bit = stage_step e r sweep.0.enters.0 sweep.0.leaves.0 ins outs (taken_darts at e r taken) w
        (AreListsOf at e psi bit taken) (KeepsList psi bit x) (AreListsOf-IsPrefix at e r psi bit taken sweep.1)
        apart within
        ((taken_darts-Has at e r taken (twin r)).1
        (twin_within at e r r ((all r).0 (inl refl)).within, (IsSweep-root at e r taken sweep.1).1))
        sweep.0.enters.1 sweep.0.leaves.1 twins_in twins_out twins_back
        (λ us vs turn. KeepsDirection-turn (psi x) (bit x) (map edge_of us) (map edge_of vs)
        (turn-map edge_of us vs turn))

  -- the edges of a list with a run
  run_edges : (front us behind : List ℕ)
      → map edge_of (front ++ (us ++ behind)) ≡ map edge_of front ++ (map edge_of us ++ map edge_of behind)
  run_edges front us behind =
      map-append edge_of front (us ++ behind) ∙ ap (λ ws. map edge_of front ++ ws) (map-append edge_of us behind)

  -- mirrored lists of darts of x that lead out
  module _ (us vs : List ℕ) (a : IsArrangementOf us ins) (b : IsArrangementOf vs outs) where
    -- their twins are darts of x
    of_mirror : (d : ℕ) → Has d (mirror vs) → Has (twin d) outs
    of_mirror d h = (b.items (twin d)).0 (mirror-Has d vs h)

    -- and back
    to_mirror : (d : ℕ) → Has (twin d) outs → Has d (mirror vs)
    to_mirror d h = subst (λ z. Has z (mirror vs)) (twin-twin d) (Has-mirror (twin d) vs ((b.items (twin d)).1 h))

    -- they are distinct
    mirror_once : Distinct (mirror vs)
    mirror_once = Distinct-reverse (map twin vs) (Distinct-map_on twin vs (λ c d hc hd. twin-apart c d) b.distinct)

    -- from the list after the step to that before
    run_back : (fs bs : List ℕ) → Distinct (fs ++ (mirror vs ++ bs))
        → ((d : ℕ) → Has d (fs ++ (mirror vs ++ bs)) ↔ LeadsInto at e (x ∷ taken) d)
        → Distinct (fs ++ (us ++ bs)) × ((d : ℕ) → Has d (fs ++ (us ++ bs)) ↔ LeadsInto at e taken d)
    run_back fs bs = exchanged_run (LeadsInto at e (x ∷ taken)) (LeadsInto at e taken) fs (mirror vs) us bs a.distinct
        (λ d h. ins-LeadsInto at e r no_loop taken x new d ((a.items d).0 h))
        (λ d h. ins-not_after at e r no_loop taken x new d ((a.items d).0 h))
        (λ d h. outs-not_before at e r no_loop taken x new d (of_mirror d h))
        (λ d q. ⊎_elim (λ h. inl (to_mirror d h)) (λ p. inr p) (LeadsInto-before at e r no_loop taken x new d q))
        (λ d p. ⊎_elim (λ h. inl ((a.items d).1 h)) (λ q. inr q) (LeadsInto-after at e r no_loop taken x new d p))

    -- and from that before to that after
    run_on : (fs bs : List ℕ) → Distinct (fs ++ (us ++ bs))
        → ((d : ℕ) → Has d (fs ++ (us ++ bs)) ↔ LeadsInto at e taken d)
        → Distinct (fs ++ (mirror vs ++ bs)) ×
        ((d : ℕ) → Has d (fs ++ (mirror vs ++ bs)) ↔ LeadsInto at e (x ∷ taken) d)
    run_on fs bs = exchanged_run (LeadsInto at e taken) (LeadsInto at e (x ∷ taken)) fs us (mirror vs) bs mirror_once
        (λ d h. outs-LeadsInto at e r no_loop taken x new d (of_mirror d h))
        (λ d h. outs-not_before at e r no_loop taken x new d (of_mirror d h))
        (λ d h. ins-not_after at e r no_loop taken x new d ((a.items d).0 h))
        (λ d p. ⊎_elim (λ h. inl ((a.items d).1 h)) (λ q. inr q) (LeadsInto-after at e r no_loop taken x new d p))
        (λ d q. ⊎_elim (λ h. inl (to_mirror d h)) (λ p. inr p) (LeadsInto-before at e r no_loop taken x new d q))

  -- a pair of the stage with x comes from one of the stage before
  stage_pair_back : (word : List ℕ) (bit : ℕ → Bool) → IsStagePair at e psi r (x ∷ taken) word bit
      → IsStepWord (map edge_of ins) (map edge_of outs) (KeepsDirection (psi x) (bit x))
      (λ v. IsStagePair at e psi r taken v bit) word
  stage_pair_back word bit p =
      let q = (list_step p.row p.once p.all bit).0 p.drawn in
      let us : List ℕ = q.0 in
      let vs : List ℕ = q.1 in
      let front : List ℕ = q.2 in
      let behind : List ℕ = q.3 in
      let s = run_back us vs q.4 q.5 (r ∷ front) behind (subst (λ ws. Distinct (r ∷ ws)) q.7 p.once)
      (λ d. subst (λ ws. Has d (r ∷ ws) ↔ LeadsInto at e (x ∷ taken) d) q.7 (p.all d)) in
      record {
        us = map edge_of us;
        vs = map edge_of vs;
        front = map edge_of front;
        behind = map edge_of behind;
        us_is = IsArrangementOf-map edge_of ins us at_ins q.4;
        vs_is = IsArrangementOf-map edge_of outs vs at_outs q.5;
        list_kept = subst (KeepsDirection (psi x) (bit x)) (map-append edge_of us vs) q.6;
        word_is = p.word_is ∙ ap (map edge_of) q.7 ∙ run_edges front (mirror vs) behind
            ∙ ap (λ ws. map edge_of front ++ (ws ++ map edge_of behind)) (mirror-edges vs);
        taken_from = record {
          row = front ++ (us ++ behind);
          word_is = sym (run_edges front us behind);
          once = s.0;
          all = s.1;
          drawn = q.8;
        };
      }

  -- and what comes from one of the stage before is one
  stage_pair_on : (word : List ℕ) (bit : ℕ → Bool)
      → IsStepWord (map edge_of ins) (map edge_of outs) (KeepsDirection (psi x) (bit x))
      (λ v. IsStagePair at e psi r taken v bit) word
      → IsStagePair at e psi r (x ∷ taken) word bit
  stage_pair_on word bit w =
      let p : IsStagePair at e psi r taken (w.front ++ (w.us ++ w.behind)) bit = w.taken_from in
      let one = map_parts edge_of p.row w.front (w.us ++ w.behind) (sym p.word_is) in
      let two = map_parts edge_of one.1 w.us w.behind one.4 in
      let fs : List ℕ = one.0 in
      let us : List ℕ = two.0 in
      let bs : List ℕ = two.1 in
      let row_is : p.row ≡ fs ++ (us ++ bs) = one.2 ∙ ap (λ ws. fs ++ ws) two.2 in
      let once : Distinct ((r ∷ fs) ++ (us ++ bs)) = subst (λ ws. Distinct (r ∷ ws)) row_is p.once in
      let all : (d : ℕ) → Has d ((r ∷ fs) ++ (us ++ bs)) ↔ LeadsInto at e taken d =
      λ d. subst (λ ws. Has d (r ∷ ws) ↔ LeadsInto at e taken d) row_is (p.all d) in
      let a : IsArrangementOf us ins = IsArrangementOf-unmap edge_of ins us
      (λ c d hc hd. LeadsInto-edge at e r taken c d (ins-LeadsInto at e r no_loop taken x new c hc)
      ((all d).0 (Has-append_right d (r ∷ fs) (us ++ bs) (Has-append_left d us bs hd))))
      (subst (λ ws. IsArrangementOf ws (map edge_of ins)) (sym two.3) w.us_is) in
      let v : (vs : List ℕ) × (map edge_of vs ≡ w.vs) × IsArrangementOf vs outs =
      arrangement_unmapped edge_of outs w.vs at_outs w.vs_is in
      let vs : List ℕ = v.0 in
      let s = run_on us vs a v.2 (r ∷ fs) bs once all in
      record {
        row = fs ++ (mirror vs ++ bs);
        word_is = w.word_is
            ∙ ap₂ (λ ks ls. ks ++ ls) (sym one.3) (ap₂ (λ ks ls. reverse ks ++ ls) (sym v.1) (sym two.4))
            ∙ ap (λ ws. map edge_of fs ++ (ws ++ map edge_of bs)) (sym (mirror-edges vs))
            ∙ sym (run_edges fs (mirror vs) bs);
        once = s.0;
        all = s.1;
        drawn = (list_step (fs ++ (mirror vs ++ bs)) s.0 s.1 bit).1 (
          us,
          vs,
          fs,
          bs,
          a,
          v.2,
          subst (KeepsDirection (psi x) (bit x))
              (ap₂ (λ ks ls. ks ++ ls) (sym two.3) (sym v.1) ∙ sym (map-append edge_of us vs)) w.list_kept,
          refl,
          subst (IsStageOrder e r (AreListsOf at e psi bit taken)) row_is p.drawn,
        );
      }

  -- the pairs of the stage with x are those of the stage before, with a run exchanged
  pub IsStagePair-step : (word : List ℕ) (bit : ℕ → Bool) → IsStagePair at e psi r (x ∷ taken) word bit
      ↔ IsStepWord (map edge_of ins) (map edge_of outs) (KeepsDirection (psi x) (bit x))
      (λ v. IsStagePair at e psi r taken v bit) word
  IsStagePair-step word bit = (stage_pair_back word bit, stage_pair_on word bit)
