-- The segments of the edges that are no loops.
use Rattle.std.proofs.Common.{◌≡◌, ◌≢◌, ℕ, zero, suc, ◌+◌, ◌-◌, ◌<◌, ◌≤◌, List, [], sym, subst, ⊎_elim, arith}
use Rattle.std.specs.Prelude.{eqb}
use Rattle.std.specs.List.{flat_map, range_with_len}
use Rattle.std.proofs.lemmas.Bool.{cases_eq, cond-false, cond-true, eq-eqb, ne_eqb}
use Rattle.cp_lists.specs.CyclicLists.{Distinct, Has}
use Rattle.cp_lists.proofs.DistinctLists.{Distinct-append, Has-append_cases, Has-append_left, Has-append_right, Lacks-from}
use Rattle.cp_cgraph.specs.Clustered.{Clustered, edges, source, target}
use Rattle.cp_border.specs.Borders.{crossed, first_segment, segments}
use Rattle.cp_border.proofs.Darts.{first_segment-le}
use Rattle.cp_border.proofs.Numbering.{sum_below-apart}
use Rattle.cp_skel.specs.Skeletons.{kept_segments, segments_of}
use Rattle.cp_skel.proofs.Ranges.{Distinct-range, Has-range, range-Has}
use Rattle.cp_skel.proofs.SkeletonLevels.{sum_below-more}

-- segment t is the one behind k borders of edge e, which is no loop
pub record IsSegmentOf (g : Clustered) (t e k : ℕ) : Type 0 where
  pub edge : e < edges g
  pub no_loop : source g e ≢ target g e
  pub within : k ≤ crossed g e
  pub is : t ≡ first_segment g e + k

-- a segment is one of one edge, at one place
pub segment_apart : (g : Clustered) (e k d j : ℕ) → k ≤ crossed g e → j ≤ crossed g d
    → first_segment g e + k ≡ first_segment g d + j → (e ≡ d) × (k ≡ j)
segment_apart g e k d j within within_d same =
    sum_below-apart (λ x. crossed g x + 1) e k d j (omega arith) (omega arith)
    (omega (arith, same, sum_below-more (crossed g) e, sum_below-more (crossed g) d))

-- the segments of an edge that is kept
pub piece_kept : (g : Clustered) (e : ℕ) → source g e ≢ target g e
    → segments_of g e ≡ range_with_len (first_segment g e) (crossed g e + 1)
piece_kept g e ne =
    cond-false (eqb (source g e) (target g e)) [] (range_with_len (first_segment g e) (crossed g e + 1))
    (ne_eqb (source g e) (target g e) ne)

-- and of a loop
pub piece_loop : (g : Clustered) (e : ℕ) → source g e ≡ target g e → segments_of g e ≡ []
piece_loop g e same =
    cond-true (eqb (source g e) (target g e)) [] (range_with_len (first_segment g e) (crossed g e + 1))
    (eq-eqb (source g e) (target g e) same)

-- an item of the piece of an edge
pub piece-Has : (g : Clustered) (e t : ℕ) → Has t (segments_of g e)
    → (source g e ≢ target g e) × (first_segment g e ≤ t) × (t ≤ first_segment g e + crossed g e)
piece-Has g e t h = ⊎_elim
    (λ same. absurd (subst (Has t) (piece_loop g e same) h))
    (λ ne. let r = range-Has t (first_segment g e) (crossed g e + 1) (subst (Has t) (piece_kept g e ne) h) in
    (ne, r.0, omega (arith, r.1)))
    (cases_eq (source g e) (target g e))

-- no item stands twice there
piece-Distinct : (g : Clustered) (e : ℕ) → Distinct (segments_of g e)
piece-Distinct g e = ⊎_elim
    (λ same. subst Distinct (sym (piece_loop g e same)) tt)
    (λ ne. subst Distinct (sym (piece_kept g e ne)) (Distinct-range (first_segment g e) (crossed g e + 1)))
    (cases_eq (source g e) (target g e))

-- an item of the pieces of some edges is one of one of them
pub pieces-Has : (g : Clustered) (a n t : ℕ) → Has t (flat_map (segments_of g) (range_with_len a n))
    → (e : ℕ) × (a ≤ e) × (e < a + n) × Has t (segments_of g e)
pieces-Has g a zero t h = absurd h
pieces-Has g a (suc n) t h = ⊎_elim
    (λ k. (a, omega arith, omega arith, k))
    (λ k. let r = pieces-Has g (a + 1) n t k in (r.0, omega (arith, r.1), omega (arith, r.2), r.3))
    (Has-append_cases t (segments_of g a) (flat_map (segments_of g) (range_with_len (a + 1) n)) h)

-- and the other way round
Has-pieces : (g : Clustered) (a n e t : ℕ) → a ≤ e → e < a + n → Has t (segments_of g e)
    → Has t (flat_map (segments_of g) (range_with_len a n))
Has-pieces g a zero e t le lt h = absurd (omega arith)
Has-pieces g a (suc n) e t le lt h =
    let rest : List ℕ = flat_map (segments_of g) (range_with_len (a + 1) n) in
    ⊎_elim
    (λ same. Has-append_left t (segments_of g a) rest (subst (λ x. Has t (segments_of g x)) (sym same) h))
    (λ ne. Has-append_right t (segments_of g a) rest (Has-pieces g (a + 1) n e t (omega arith) (omega arith) h))
    (cases_eq a e)

-- no item of the pieces stands twice
pieces-Distinct : (g : Clustered) (a n : ℕ) → Distinct (flat_map (segments_of g) (range_with_len a n))
pieces-Distinct g a zero = tt
pieces-Distinct g a (suc n) =
    let rest : List ℕ = flat_map (segments_of g) (range_with_len (a + 1) n) in
    Distinct-append (segments_of g a) rest (piece-Distinct g a) (pieces-Distinct g (a + 1) n)
    (λ t h. Lacks-from t rest (λ k.
    let one = piece-Has g a t h in
    let r = pieces-Has g (a + 1) n t k in
    let two = piece-Has g r.0 t r.3 in
    let j : ℕ = t - first_segment g a in
    let i : ℕ = t - first_segment g r.0 in
    let same = segment_apart g a (t - first_segment g a) r.0 (t - first_segment g r.0) (omega (arith, one.1, one.2))
    (omega (arith, two.1, two.2)) (omega (arith, one.1, two.1)) in
    omega (arith, same.0, r.1)))

-- no segment is kept twice
pub kept_segments-Distinct : (g : Clustered) → Distinct (kept_segments g)
kept_segments-Distinct g = pieces-Distinct g 0 (edges g)

-- a segment that is kept is one of an edge that is no loop
pub kept-segment : (g : Clustered) (t : ℕ) → Has t (kept_segments g)
    → (e : ℕ) × (k : ℕ) × IsSegmentOf g t e k
kept-segment g t h =
    let r = pieces-Has g 0 (edges g) t h in
    let w = piece-Has g r.0 t r.3 in (
      r.0,
      t - first_segment g r.0,
      record {
        edge = omega (arith, r.2);
        no_loop = w.0;
        within = omega (arith, w.1, w.2);
        is = omega (arith, w.1);
      },
    )

-- and the other way round
pub segment-kept : (g : Clustered) (t e k : ℕ) → IsSegmentOf g t e k → Has t (kept_segments g)
segment-kept g t e k of =
    Has-pieces g 0 (edges g) e t (omega arith) (omega (arith, of.edge))
    (subst (Has t) (sym (piece_kept g e of.no_loop))
    (Has-range t (first_segment g e) (crossed g e + 1) (omega (arith, of.is)) (omega (arith, of.is, of.within))))

-- it is a segment
pub kept_segment-lt : (g : Clustered) (t : ℕ) → Has t (kept_segments g) → t < segments g
kept_segment-lt g t h =
    let r = kept-segment g t h in
    let of = r.2 in
    let less = first_segment-le g r.0 r.1 of.edge of.within in
    omega (arith, of.is, less)
