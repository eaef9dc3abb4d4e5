-- The first stage of a sweep, in words of edges: one vertex is taken.
use Rattle.std.proofs.Common.{◌≡◌, ◌≢◌, ℕ, ◌*◌, ◌<◌, ◌↔◌, Bool, true, false, Option, Some, None, List, [], ◌∷◌, ◌++◌, map, reverse, sym, ap, ap₂, ◌∙◌, subst, inl, inr, ⊎_elim}
use Rattle.std.proofs.lemmas.Bool.{cases_eq}
use Rattle.std.proofs.lemmas.List.{append-nil, reverse-reverse}
use Rattle.cp_lists.specs.CyclicLists.{Has, Distinct, but}
use Rattle.cp_lists.specs.Turns.{IsTurn}
use Rattle.cp_lists.proofs.DistinctLists.{has_lacks, Lacks-from, Has-append_cases, Distinct-append, but-Has, Has-but, but-Lacks}
use Rattle.cp_lists.proofs.MappedLists.{Has-map_on, map_on-Has, Distinct-map_on}
use Rattle.cp_lists.proofs.TurnedLists.{turn-map, turn-trans, turn-reverse, turn_reverse_head, turn_to_item-unique}
use Rattle.cp_faces.specs.Twins.{twin}
use Rattle.cp_faces.proofs.Twins.{twin-twin, twin-apart, half_twin, same_half}
use Rattle.cp_maps.specs.Mirrors.{mirror}
use Rattle.cp_maps.proofs.ListFacts.{Below-from}
use Rattle.cp_embed.specs.Arrangements.{IsArrangementOf}
use Rattle.cp_embed.specs.Directions.{directed, KeepsDirection, edge_of}
use Rattle.cp_embed.specs.Pairs.{Pairs, HasRun, SamePairs}
use Rattle.cp_embed.specs.Stages.{IsStageOrder}
use Rattle.cp_embed.specs.Sweeps.{darts_at, KeepsList, AreListsOf, LeadsInto, IsStagePair, IsSweep}
use Rattle.cp_embed.proofs.Arrangements.{IsArrangementOf-map, IsArrangementOf-reverse, arrangement_unmapped, whole_run}
use Rattle.cp_embed.proofs.DartLists.{darts_at-Has, darts_at-Distinct}
use Rattle.cp_embed.proofs.Directions.{IsArrangementOf-directed, KeepsDirection-turn, map_twin, mirror-edges}
use Rattle.cp_embed.proofs.FirstStages.{first_stage}
use Rattle.cp_embed.proofs.Sweeps.{twin_within}

-- a map of darts without loops, given lists, and a first vertex s
module _ (at : ℕ → ℕ) (e r : ℕ) (psi : ℕ → Option (List ℕ)) (no_loop : (d : ℕ) → d < 2 * e → at (twin d) ≢ at d)
    (lt_r : r < 2 * e) (s : ℕ) (sweep : IsSweep at e r (s ∷ [])) where
  -- the darts of s but that of the edge of r
  abbrev others : List ℕ
  others = but (twin r) (darts_at at e s)

  -- a dart of s, by its twin
  leads_from : (d : ℕ) → d < 2 * e → at d ≡ s → LeadsInto at e (s ∷ []) (twin d)
  leads_from d lt same = record {
    within = twin_within at e r d lt;
    outside = ((λ h. no_loop d lt (sym h ∙ sym same)), tt);
    into = inl (sym (ap at (twin-twin d) ∙ same));
  }

  -- a dart that leads to s
  leads_to : (d : ℕ) → LeadsInto at e (s ∷ []) d → Has (twin d) (darts_at at e s)
  leads_to d q = (darts_at-Has at e (twin d) s).1
      (twin_within at e r d q.within, ⊎_elim (λ h. sym h) (λ h. absurd h) q.into)

  -- the twin of r is a dart of s
  root_there : Has (twin r) (darts_at at e s)
  root_there = (darts_at-Has at e (twin r) s).1 (twin_within at e r r lt_r, sweep.0)

  -- darts of s of one edge are equal
  edges_apart : (c d : ℕ) → Has c others → Has d others → edge_of c ≡ edge_of d → c ≡ d
  edges_apart c d hc hd same =
      let v = (darts_at-Has at e c s).0 (Has-but (twin r) c (darts_at at e s) hc) in
      let w = (darts_at-Has at e d s).0 (Has-but (twin r) d (darts_at at e s) hd) in
      ⊎_elim (λ h. h) (λ h. absurd (no_loop c v.0 (sym (ap at h) ∙ w.1 ∙ sym v.1))) (same_half c d same)

  -- a list behind r of exactly the darts that lead to s
  module _ (row : List ℕ) (once : Distinct (r ∷ row)) (all : (d : ℕ) → Has d (r ∷ row) ↔ LeadsInto at e (s ∷ []) d)
    where
      -- it is an order of the first stage where its mirror is kept
      row_stage : (bit : ℕ → Bool) → IsStageOrder e r (AreListsOf at e psi bit (s ∷ [])) row
          ↔ KeepsList psi bit s (twin r ∷ mirror row)
      row_stage bit = first_stage e r (darts_at at e s) row (KeepsList psi bit s)
          (Distinct-append (r ∷ row) (darts_at at e s) once (darts_at-Distinct at e s)
          (λ d h. Lacks-from d (darts_at at e s) (λ k. ((all d).0 h).outside.0 (sym ((darts_at-Has at e d s).0 k).1))))
          (Below-from (2 * e) ((r ∷ row) ++ darts_at at e s) (λ d h. ⊎_elim
          (λ k. ((all d).0 k).within)
          (λ k. ((darts_at-Has at e d s).0 k).0)
          (Has-append_cases d (r ∷ row) (darts_at at e s) h)))
          root_there
          (λ d h. let w = (darts_at-Has at e d s).0 h in (all (twin d)).1 (leads_from d w.0 w.1))
          (λ d h. leads_to d ((all d).0 (inr h)))
          (λ us vs turn. KeepsDirection-turn (psi s) (bit s) (map edge_of us) (map edge_of vs)
          (turn-map edge_of us vs turn))

      -- the edges of the mirror behind r
      mirror_row : map edge_of (twin r ∷ mirror row) ≡ edge_of r ∷ reverse (map edge_of row)
      mirror_row = ap₂ (λ k ks. k ∷ ks) (half_twin r) (mirror-edges row)

      -- the twins of the list are the other darts of s
      twins_arrange : IsArrangementOf (map twin row) others
      twins_arrange = record {
        distinct = Distinct-map_on twin row (λ c d hc hd. twin-apart c d) once.1;
        items = λ d. (
          λ h. let c = map_on-Has twin d row h in
              but-Has (twin r) d (darts_at at e s)
              (λ same. has_lacks r row (subst (λ z. Has z row) (twin-apart c.0 r (c.2 ∙ same)) c.1) once.0)
              (subst (λ z. Has z (darts_at at e s)) c.2 (leads_to c.0 ((all c.0).0 (inr c.1)))),
          λ h. let w = (darts_at-Has at e d s).0 (Has-but (twin r) d (darts_at at e s) h) in
              ⊎_elim
              (λ same. absurd (has_lacks (twin r) others
              (subst (λ z. Has z others) (sym (twin-twin d) ∙ ap twin (sym same)) h)
              (but-Lacks (twin r) (darts_at at e s))))
              (λ k. subst (λ z. Has z (map twin row)) (twin-twin d) (Has-map_on twin (twin d) row k))
              ((all (twin d)).1 (leads_from d w.0 w.1)),
        );
      }

  -- other darts of s in any order, by their twins
  module _ (ds : List ℕ) (a : IsArrangementOf ds others) where
    -- behind r each stands once
    twins_once : Distinct (r ∷ map twin ds)
    twins_once = (
      Lacks-from r (map twin ds) (λ h.
          let c = map_on-Has twin r ds h in
          has_lacks (twin r) others
          (subst (λ z. Has z others) (sym (twin-twin c.0) ∙ ap twin c.2) ((a.items c.0).0 c.1))
          (but-Lacks (twin r) (darts_at at e s))),
      Distinct-map_on twin ds (λ c d hc hd. twin-apart c d) a.distinct,
    )

    -- they are the darts that lead to s
    twins_all : (d : ℕ) → Has d (r ∷ map twin ds) ↔ LeadsInto at e (s ∷ []) d
    twins_all d = (
      λ h. ⊎_elim
          (λ k. subst (LeadsInto at e (s ∷ [])) k (record {
            within = lt_r;
            outside = ((λ m. sweep.1 (sym m)), tt);
            into = inl (sym sweep.0);
          }))
          (λ k. let c = map_on-Has twin d ds k in
          let w = (darts_at-Has at e c.0 s).0 (Has-but (twin r) c.0 (darts_at at e s) ((a.items c.0).0 c.1)) in
          subst (LeadsInto at e (s ∷ [])) c.2 (leads_from c.0 w.0 w.1))
          h,
      λ q. ⊎_elim
          (λ same. inl (sym (twin-apart d r same)))
          (λ ne. inr (subst (λ z. Has z (map twin ds)) (twin-twin d) (Has-map_on twin (twin d) ds
          ((a.items (twin d)).1 (but-Has (twin r) (twin d) (darts_at at e s) ne (leads_to d q))))))
          (cases_eq (twin d) (twin r)),
    )

  -- the pairs of the first stage: the other edges of s in any order whose reverse behind the edge of r is kept
  pub IsStagePair-first : (word : List ℕ) (bit : ℕ → Bool) → IsStagePair at e psi r (s ∷ []) word bit
      ↔ (IsArrangementOf word (map edge_of others) × KeepsDirection (psi s) (bit s) (edge_of r ∷ reverse word))
  IsStagePair-first word bit = (
    λ p. (
      subst (λ ws. IsArrangementOf ws (map edge_of others)) (map_twin p.row ∙ sym p.word_is)
          (IsArrangementOf-map edge_of others (map twin p.row) edges_apart (twins_arrange p.row p.once p.all)),
      subst (KeepsDirection (psi s) (bit s))
          (mirror_row p.row p.once p.all ∙ ap (λ ws. edge_of r ∷ reverse ws) (sym p.word_is))
          ((row_stage p.row p.once p.all bit).0 p.drawn),
    ),
    λ q.
        let v = arrangement_unmapped edge_of others word edges_apart q.0 in
        let row : List ℕ = map twin v.0 in
        let once : Distinct (r ∷ row) = twins_once v.0 v.2 in
        let all : (d : ℕ) → Has d (r ∷ row) ↔ LeadsInto at e (s ∷ []) d = twins_all v.0 v.2 in
        let word_is : word ≡ map edge_of row = sym v.1 ∙ sym (map_twin v.0) in
        record {
          row = row;
          word_is = word_is;
          once = once;
          all = all;
          drawn = (row_stage row once all bit).1 (subst (KeepsDirection (psi s) (bit s))
              (ap (λ ws. edge_of r ∷ reverse ws) word_is ∙ sym (mirror_row row once all)) q.1);
        },
  )

  -- all words of the other edges, with all bits
  abbrev AllWords : Pairs
  AllWords word bit = IsArrangementOf word (map edge_of others)

  -- a first vertex without a given list: all words
  pub free_first-SamePairs : psi s ≡ None → SamePairs AllWords (IsStagePair at e psi r (s ∷ []))
  free_first-SamePairs none word bit = (
    λ a. (IsStagePair-first word bit).1
        (a, subst (λ given. KeepsDirection given (bit s) (edge_of r ∷ reverse word)) (sym none) tt),
    λ p. ((IsStagePair-first word bit).0 p).0,
  )

  -- a given list that begins with an item is kept by one word behind it in each direction
  kept_behind : (list rest word : List ℕ) (x : ℕ) (b : Bool) → Distinct list → IsTurn list (x ∷ rest)
      → KeepsDirection (Some list) b (x ∷ reverse word) ↔ (word ≡ directed b (reverse rest))
  kept_behind list rest word x false dis turn = (
    λ k. sym (reverse-reverse word) ∙ ap reverse (turn_to_item-unique x list (reverse word) rest dis k turn),
    λ h. subst (λ ws. IsTurn list (x ∷ ws)) (sym (reverse-reverse rest) ∙ ap reverse (sym h)) turn,
  )
  kept_behind list rest word x true dis turn = (
    λ k. turn_to_item-unique x list word rest dis
        (subst (λ ws. IsTurn ws (x ∷ word)) (reverse-reverse list)
        (turn-trans (reverse (reverse list)) (reverse (x ∷ reverse word)) (x ∷ word)
        (turn-reverse (reverse list) (x ∷ reverse word) k)
        (subst (λ ws. IsTurn (reverse (x ∷ reverse word)) (x ∷ ws)) (reverse-reverse word)
        (turn_reverse_head x (reverse word)))))
        turn ∙ sym (reverse-reverse rest),
    λ h. turn-trans (reverse list) (reverse (x ∷ rest)) (x ∷ reverse word) (turn-reverse list (x ∷ rest) turn)
        (subst (λ ws. IsTurn (reverse (x ∷ rest)) (x ∷ reverse ws)) (sym (reverse-reverse rest) ∙ sym h)
        (turn_reverse_head x rest)),
  )

  -- a first vertex with a given list, written from the edge of r on: the words in which the reverse of the rest is a
  -- run by
  -- the bit of s
  pub listed_first-SamePairs : (list rest : List ℕ) → psi s ≡ Some list → Distinct list → IsTurn list (edge_of r ∷ rest)
      → IsArrangementOf rest (map edge_of others)
      → SamePairs (HasRun (reverse rest) s AllWords) (IsStagePair at e psi r (s ∷ []))
  listed_first-SamePairs list rest given dis turn a word bit = (
    λ p.
        let word_is : word ≡ directed (bit s) (reverse rest) = run_whole p in
        (IsStagePair-first word bit).1 (
          p.pair,
          subst (λ l. KeepsDirection l (bit s) (edge_of r ∷ reverse word))
              (sym given)
              ((kept_behind list rest word (edge_of r) (bit s) dis turn).1 word_is),
        ),
    λ q.
        let w = (IsStagePair-first word bit).0 q in
        record {
          front = [];
          behind = [];
          word_is = (kept_behind list rest word (edge_of r) (bit s) dis turn).0
              (subst (λ l. KeepsDirection l (bit s) (edge_of r ∷ reverse word)) given w.1)
              ∙ sym (append-nil (directed (bit s) (reverse rest)));
          pair = w.0;
        },
  )
    where
      -- the run is an arrangement of all edges
      run_all : IsArrangementOf (directed (bit s) (reverse rest)) (map edge_of others)
      run_all = IsArrangementOf-directed (bit s) (reverse rest) (map edge_of others)
          (IsArrangementOf-reverse rest (map edge_of others) a)

      -- so it is the whole word
      run_whole : HasRun (reverse rest) s AllWords word bit → word ≡ directed (bit s) (reverse rest)
      run_whole p = p.word_is ∙ whole_run p.front (directed (bit s) (reverse rest)) p.behind (map edge_of others)
          (subst (λ ws. IsArrangementOf ws (map edge_of others)) p.word_is p.pair) run_all
