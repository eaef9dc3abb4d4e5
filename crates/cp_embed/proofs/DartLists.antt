-- The darts of a vertex, and those of them that lead to given vertices.
use Rattle.std.proofs.Common.{◌≡◌, ℕ, zero, suc, ◌+◌, ◌*◌, ◌<◌, ◌≤◌, ◌↔◌, not, eqb, List, ◌++◌, sym, ap, ◌∙◌, inl, inr, ⊎_elim, arith}
use Rattle.std.specs.List.{range_with_len}
use Rattle.std.proofs.lemmas.Bool.{cases_eq, eq-eqb, eqb-true, false≢true}
use Rattle.cp_lists.specs.CyclicLists.{Has, Lacks, Distinct}
use Rattle.cp_lists.proofs.DistinctLists.{Lacks-from, has_lacks, has_cases, Distinct-append, Has-append_left, Has-append_right, Has-append_cases}
use Rattle.cp_lists.proofs.FilteredLists.{Has-filter, filter-Has, filter-Distinct}
use Rattle.cp_faces.specs.Twins.{twin}
use Rattle.cp_maps.proofs.ListFacts.{has_yes, has_no, has_true}
use Rattle.cp_embed.specs.Sweeps.{darts_at, leads_into, ins_of, outs_of}

-- the items of a range
pub range-Has : (d a n : ℕ) → Has d (range_with_len a n) ↔ ((a ≤ d) × (d < a + n))
range-Has d a zero = ((λ h. absurd h), (λ h. absurd (omega (arith, h.0, h.1))))
range-Has d a (suc n) = (
  λ h. ⊎_elim (λ e. (omega arith, omega arith))
      (λ k. let w = (range-Has d (a + 1) n).0 k in (omega (arith, w.0), omega (arith, w.1))) h,
  λ h. ⊎_elim (λ e. inl e) (λ ne. inr ((range-Has d (a + 1) n).1 (omega (arith, h.0), omega (arith, h.1))))
      (cases_eq a d),
)

-- a range has each item once
pub range-Distinct : (a n : ℕ) → Distinct (range_with_len a n)
range-Distinct a zero = tt
range-Distinct a (suc n) = (
  Lacks-from a (range_with_len (a + 1) n) (λ h. let w = (range-Has a (a + 1) n).0 h in omega (arith, w.0)),
  range-Distinct (a + 1) n,
)

module _ (at : ℕ → ℕ) (e : ℕ) where
  -- the darts of a vertex are those that stand at it
  pub darts_at-Has : (d v : ℕ) → Has d (darts_at at e v) ↔ ((d < 2 * e) × (at d ≡ v))
  darts_at-Has d v = (
    λ h. let w = filter-Has (λ y. eqb (at y) v) d (range_with_len 0 (2 * e)) h in
        (omega (arith, ((range-Has d 0 (2 * e)).0 w.0).1), eqb-true (at d) v w.1),
    λ h. Has-filter (λ y. eqb (at y) v) d (range_with_len 0 (2 * e))
        ((range-Has d 0 (2 * e)).1 (omega arith, omega (arith, h.0)))
        (eq-eqb (at d) v h.1),
  )

  -- each once
  pub darts_at-Distinct : (v : ℕ) → Distinct (darts_at at e v)
  darts_at-Distinct v = filter-Distinct (λ y. eqb (at y) v) (range_with_len 0 (2 * e)) (range-Distinct 0 (2 * e))

  module _ (taken : List ℕ) (x : ℕ) where
    -- the darts that lead to vertices that are taken
    pub ins_of-Has : (d : ℕ) → Has d (ins_of at e taken x) ↔ ((d < 2 * e) × (at d ≡ x) × Has (at (twin d)) taken)
    ins_of-Has d = (
      λ h. let w = filter-Has (leads_into at taken) d (darts_at at e x) h in
          let v = (darts_at-Has d x).0 w.0 in (v.0, v.1, has_true (at (twin d)) taken w.1),
      λ h. Has-filter (leads_into at taken) d (darts_at at e x) ((darts_at-Has d x).1 (h.0, h.1))
          (has_yes (at (twin d)) taken h.2),
    )

    -- and those that do not
    pub outs_of-Has : (d : ℕ) → Has d (outs_of at e taken x) ↔ ((d < 2 * e) × (at d ≡ x) × Lacks (at (twin d)) taken)
    outs_of-Has d = (
      λ h. let w = filter-Has (λ y. not (leads_into at taken y)) d (darts_at at e x) h in
          let v = (darts_at-Has d x).0 w.0 in (
            v.0,
            v.1,
            Lacks-from (at (twin d)) taken
                (λ k. false≢true (ap not (sym (has_yes (at (twin d)) taken k)) ∙ w.1)),
          ),
      λ h. Has-filter (λ y. not (leads_into at taken y)) d (darts_at at e x) ((darts_at-Has d x).1 (h.0, h.1))
          (ap not (has_no (at (twin d)) taken h.2)),
    )

    -- both together have each dart of the vertex once
    pub ins_outs-Distinct : Distinct (ins_of at e taken x ++ outs_of at e taken x)
    ins_outs-Distinct = Distinct-append (ins_of at e taken x) (outs_of at e taken x)
        (filter-Distinct (leads_into at taken) (darts_at at e x) (darts_at-Distinct x))
        (filter-Distinct (λ y. not (leads_into at taken y)) (darts_at at e x) (darts_at-Distinct x))
        (λ d h. Lacks-from d (outs_of at e taken x)
        (λ k. has_lacks (at (twin d)) taken ((ins_of-Has d).0 h).2 ((outs_of-Has d).0 k).2))

    -- and no other
    pub ins_outs-Has : (d : ℕ) → Has d (ins_of at e taken x ++ outs_of at e taken x) ↔ ((d < 2 * e) × (at d ≡ x))
    ins_outs-Has d = (
      λ h. ⊎_elim (λ k. let w = (ins_of-Has d).0 k in (w.0, w.1)) (λ k. let w = (outs_of-Has d).0 k in (w.0, w.1))
          (Has-append_cases d (ins_of at e taken x) (outs_of at e taken x) h),
      λ h. ⊎_elim
          (λ k. Has-append_left d (ins_of at e taken x) (outs_of at e taken x) ((ins_of-Has d).1 (h.0, h.1, k)))
          (λ k. Has-append_right d (ins_of at e taken x) (outs_of at e taken x) ((outs_of-Has d).1 (h.0, h.1, k)))
          (has_cases (at (twin d)) taken),
    )
