-- Sweeps: what the vertices that are taken have, and what leads into them.
use Rattle.std.proofs.Common.{◌≡◌, ◌≢◌, ℕ, ◌*◌, ◌<◌, ◌⊎◌, ◌↔◌, Bool, Option, List, [], ◌∷◌, ◌++◌, sym, ◌∙◌, subst, inl, inr, ⊎_elim, arith}
use Rattle.std.proofs.lemmas.Bool.{cases_eq}
use Rattle.cp_lists.specs.CyclicLists.{Has, Lacks, Distinct}
use Rattle.cp_lists.proofs.DistinctLists.{has_lacks, Lacks-from, Has-append_left, Has-append_right, Has-append_cases, Distinct-append}
use Rattle.cp_faces.specs.Twins.{twin}
use Rattle.cp_faces.proofs.Twins.{twin-twin, twin-below, same_half}
use Rattle.cp_embed.specs.Directions.{edge_of}
use Rattle.cp_embed.specs.Stages.{IsPrefix}
use Rattle.cp_embed.specs.Sweeps.{darts_at, ins_of, outs_of, KeepsList, AreListsOf, LeadsInto, IsSweep}
use Rattle.cp_embed.proofs.DartLists.{darts_at-Has, darts_at-Distinct, ins_of-Has, outs_of-Has, ins_outs-Distinct, ins_outs-Has}
use Rattle.cp_embed.proofs.FirstStages.{IsPrefix-first}
use Rattle.cp_embed.proofs.Stages.{IsPrefix-more}

-- a map of darts of e edges, and the dart r of the edge that joins the first vertex and the last
module _ (at : ℕ → ℕ) (e r : ℕ) where
  -- the twin of a dart below 2 e is below it
  pub twin_within : (d : ℕ) → d < 2 * e → twin d < 2 * e
  twin_within d lt = twin-below (2 * e) d (omega arith) lt

  -- the dart r leads into what is taken
  pub IsSweep-root : (taken : List ℕ) → IsSweep at e r taken → Lacks (at r) taken × Has (at (twin r)) taken
  IsSweep-root [] sweep = absurd sweep
  IsSweep-root (s ∷ []) sweep = (((λ h. sweep.1 (sym h)), tt), inl (sym sweep.0))
  IsSweep-root (x ∷ y ∷ taken) sweep =
      let w = IsSweep-root (y ∷ taken) sweep.1 in (((λ h. sweep.0.not_last (sym h)), w.0), inr w.1)

  -- two darts of one edge that lead into what is taken are equal
  pub LeadsInto-edge : (taken : List ℕ) (c d : ℕ) → LeadsInto at e taken c → LeadsInto at e taken d
      → edge_of c ≡ edge_of d
      → c ≡ d
  LeadsInto-edge taken c d p q same = ⊎_elim
      (λ h. h)
      (λ h. absurd (has_lacks (at (twin c)) taken p.into (subst (λ y. Lacks (at y) taken) h q.outside)))
      (same_half c d same)

  -- the darts of the vertices that are taken
  abbrev pub taken_darts : List ℕ → List ℕ
  taken_darts [] = []
  taken_darts (s ∷ []) = darts_at at e s
  taken_darts (x ∷ y ∷ taken) = taken_darts (y ∷ taken) ++ (ins_of at e (y ∷ taken) x ++ outs_of at e (y ∷ taken) x)

  -- they are those that stand at these vertices
  pub taken_darts-Has : (taken : List ℕ) (d : ℕ) → Has d (taken_darts taken) ↔ ((d < 2 * e) × Has (at d) taken)
  taken_darts-Has [] d = ((λ h. absurd h), (λ h. absurd h.1))
  taken_darts-Has (s ∷ []) d = (
    λ h. let w = (darts_at-Has at e d s).0 h in (w.0, inl (sym w.1)),
    λ h. ⊎_elim (λ k. (darts_at-Has at e d s).1 (h.0, sym k)) (λ k. absurd k) h.1,
  )
  taken_darts-Has (x ∷ y ∷ taken) d =
      let before : List ℕ = taken_darts (y ∷ taken) in
      let items : List ℕ = ins_of at e (y ∷ taken) x ++ outs_of at e (y ∷ taken) x in (
        λ h. ⊎_elim
            (λ k. let w = (taken_darts-Has (y ∷ taken) d).0 k in (w.0, inr w.1))
            (λ k. let w = (ins_outs-Has at e (y ∷ taken) x d).0 k in (w.0, inl (sym w.1)))
            (Has-append_cases d before items h),
        λ h. ⊎_elim
            (λ k. Has-append_right d before items ((ins_outs-Has at e (y ∷ taken) x d).1 (h.0, sym k)))
            (λ k. Has-append_left d before items ((taken_darts-Has (y ∷ taken) d).1 (h.0, k)))
            h.1,
      )

  -- those of a new vertex are none of them
  pub taken_darts-apart : (taken : List ℕ) (x d : ℕ) → Lacks x taken → Has d (taken_darts taken) → at d ≡ x → ⊥
  taken_darts-apart taken x d new h same = has_lacks x taken
      (subst (λ y. Has y taken) same ((taken_darts-Has taken d).0 h).1) new

  -- no dart stands among them twice
  pub taken_darts-Distinct : (taken : List ℕ) → IsSweep at e r taken → Distinct (taken_darts taken)
  taken_darts-Distinct [] sweep = tt
  taken_darts-Distinct (s ∷ []) sweep = darts_at-Distinct at e s
  taken_darts-Distinct (x ∷ y ∷ taken) sweep =
      let items : List ℕ = ins_of at e (y ∷ taken) x ++ outs_of at e (y ∷ taken) x in
      Distinct-append (taken_darts (y ∷ taken)) items (taken_darts-Distinct (y ∷ taken) sweep.1)
      (ins_outs-Distinct at e (y ∷ taken) x)
      (λ d h. Lacks-from d items (λ k. taken_darts-apart (y ∷ taken) x d sweep.0.new h
      ((ins_outs-Has at e (y ∷ taken) x d).0 k).1))

  -- the lists of the vertices that are taken are a connected prefix of these darts
  pub AreListsOf-IsPrefix : (psi : ℕ → Option (List ℕ)) (bit : ℕ → Bool) (taken : List ℕ) → IsSweep at e r taken
      → IsPrefix (taken_darts taken) (AreListsOf at e psi bit taken)
  AreListsOf-IsPrefix psi bit [] sweep = absurd sweep
  AreListsOf-IsPrefix psi bit (s ∷ []) sweep = IsPrefix-first (KeepsList psi bit s) (darts_at at e s)
  AreListsOf-IsPrefix psi bit (x ∷ y ∷ taken) sweep =
      let before : List ℕ = y ∷ taken in
      let items : List ℕ = ins_of at e before x ++ outs_of at e before x in
      let i : (i : ℕ) × Has i (ins_of at e before x) = sweep.0.enters in
      let w : (i.0 < 2 * e) × (at i.0 ≡ x) × Has (at (twin i.0)) before = (ins_of-Has at e before x i.0).0 i.1 in
      IsPrefix-more i.0 items (taken_darts before) (AreListsOf at e psi bit before) (KeepsList psi bit x)
      (AreListsOf-IsPrefix psi bit (y ∷ taken) sweep.1)
      (Has-append_left i.0 (ins_of at e before x) (outs_of at e before x) i.1)
      ((taken_darts-Has before (twin i.0)).1 (twin_within i.0 w.0, w.2))
      (λ d h. Lacks-from d items (λ k. taken_darts-apart before x d sweep.0.new h
      ((ins_outs-Has at e before x d).0 k).1))

  -- a vertex that is taken next, in a map without loops: what then leads into the vertices that are taken
  module _ (no_loop : (d : ℕ) → d < 2 * e → at (twin d) ≢ at d) (taken : List ℕ) (x : ℕ) (new : Lacks x taken) where
    -- its darts into what is taken lead into it
    pub ins-LeadsInto : (d : ℕ) → Has d (ins_of at e taken x) → LeadsInto at e taken d
    ins-LeadsInto d h =
        let w = (ins_of-Has at e taken x d).0 h in
        record { within = w.0; outside = subst (λ y. Lacks y taken) (sym w.1) new; into = w.2 }

    -- and not afterwards
    pub ins-not_after : (d : ℕ) → Has d (ins_of at e taken x) → LeadsInto at e (x ∷ taken) d → ⊥
    ins-not_after d h q = q.outside.0 (sym ((ins_of-Has at e taken x d).0 h).1)

    -- the twins of its other darts lead into what is taken afterwards
    pub outs-LeadsInto : (d : ℕ) → Has (twin d) (outs_of at e taken x) → LeadsInto at e (x ∷ taken) d
    outs-LeadsInto d h =
        let w = (outs_of-Has at e taken x (twin d)).0 h in
        let lt : d < 2 * e = subst (λ y. y < 2 * e) (twin-twin d) (twin_within (twin d) w.0) in
        record {
          within = lt;
          outside = ((λ k. no_loop d lt (w.1 ∙ k)), subst (λ y. Lacks (at y) taken) (twin-twin d) w.2);
          into = inl (sym w.1);
        }

    -- and not before
    pub outs-not_before : (d : ℕ) → Has (twin d) (outs_of at e taken x) → LeadsInto at e taken d → ⊥
    outs-not_before d h p = has_lacks x taken
        (subst (λ y. Has y taken) ((outs_of-Has at e taken x (twin d)).0 h).1 p.into) new

    -- what leads into what is taken does so afterwards, or is one of its darts into it
    pub LeadsInto-after : (d : ℕ) → LeadsInto at e taken d → Has d (ins_of at e taken x) ⊎ LeadsInto at e (x ∷ taken) d
    LeadsInto-after d p = ⊎_elim
        (λ h. inl ((ins_of-Has at e taken x d).1 (p.within, h, p.into)))
        (λ nh. inr (record { within = p.within; outside = ((λ h. nh (sym h)), p.outside); into = inr p.into }))
        (cases_eq (at d) x)

    -- what does so afterwards did so before, or is the twin of one of its other darts
    pub LeadsInto-before : (d : ℕ) → LeadsInto at e (x ∷ taken) d
        → Has (twin d) (outs_of at e taken x) ⊎ LeadsInto at e taken d
    LeadsInto-before d q = ⊎_elim
        (λ h. inl ((outs_of-Has at e taken x (twin d)).1
        (twin_within d q.within, sym h, subst (λ y. Lacks (at y) taken) (sym (twin-twin d)) q.outside.1)))
        (λ h. inr (record { within = q.within; outside = q.outside.1; into = h }))
        q.into
