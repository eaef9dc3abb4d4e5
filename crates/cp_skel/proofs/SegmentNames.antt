-- The name of a segment by counting: the segments of the edges before that are no loops, and those before it along its
-- edge.
use Rattle.std.proofs.Common.{◌≡◌, ℕ, ◌+◌, ◌<◌, length, sym, ap, ◌∙◌, ⊎_elim, arith}
use Rattle.std.specs.Prelude.{eqb, slice_index_or}
use Rattle.std.proofs.lemmas.Bool.{cases_eq, cond-false, cond-true, eq-eqb, ne_eqb}
use Rattle.std.proofs.lemmas.List.FromFn.{get_or-range_with_len, length-range_with_len}
use Rattle.cp_conn.specs.NamedGraphs.{rank}
use Rattle.cp_cgraph.specs.Clustered.{Clustered, edges, source, target}
use Rattle.cp_border.specs.Borders.{sum_below, crossed, first_segment}
use Rattle.cp_border.proofs.Numbering.{sum_below-within, piece_at, pieces_length}
use Rattle.cp_skel.specs.SkeletonTables.{kept_count}
use Rattle.cp_skel.specs.Skeletons.{kept_segments, segments_of}
use Rattle.cp_skel.proofs.KeptSegments.{IsSegmentOf, piece_kept, piece_loop}
use Rattle.cp_skel.proofs.SkeletonGraph.{name_at}

-- as long is its piece
length-piece : (g : Clustered) (e : ℕ) → length (segments_of g e) ≡ kept_count g e
length-piece g e = ⊎_elim
    (λ same. ap length (piece_loop g e same)
    ∙ sym (cond-true (eqb (source g e) (target g e)) 0 (crossed g e + 1) (eq-eqb (source g e) (target g e) same)))
    (λ ne. ap length (piece_kept g e ne) ∙ length-range_with_len (first_segment g e) (crossed g e + 1)
    ∙ sym (cond-false (eqb (source g e) (target g e)) 0 (crossed g e + 1) (ne_eqb (source g e) (target g e) ne)))
    (cases_eq (source g e) (target g e))

-- the piece with a number that is written with a zero
pub length-piece_at : (g : Clustered) (k : ℕ) → length (segments_of g (0 + k)) ≡ kept_count g k
length-piece_at g k =
    ap (λ (m : ℕ). length (segments_of g m)) (let h : 0 + k ≡ k = omega arith in h) ∙ length-piece g k

-- there are as many names as segments are kept
pub length-kept_segments : (g : Clustered) → length (kept_segments g) ≡ sum_below (kept_count g) (edges g)
length-kept_segments g = pieces_length (segments_of g) (kept_count g) 0 (edges g) (λ k lt. length-piece_at g k)

-- the name of a segment
pub segment_name-is : (g : Clustered) (t e k : ℕ) → IsSegmentOf g t e k
    → rank (kept_segments g) t ≡ sum_below (kept_count g) e + k
segment_name-is g t e k of =
    let all : kept_count g e ≡ crossed g e + 1 =
    cond-false (eqb (source g e) (target g e)) 0 (crossed g e + 1) (ne_eqb (source g e) (target g e) of.no_loop) in
    let within : k < kept_count g e = let h = of.within in omega (arith, h, all) in
    let n : ℕ = sum_below (kept_count g) e + k in
    let less : sum_below (kept_count g) e + k < length (kept_segments g) =
    let h = sum_below-within (kept_count g) e k (edges g) of.edge within in omega (arith, h, length-kept_segments g) in
    let at : slice_index_or (kept_segments g) n 0 ≡ t =
    piece_at (segments_of g) (kept_count g) 0 (edges g) e k 0 (λ j lt. length-piece_at g j) of.edge within
    ∙ ap (λ (m : ℕ). slice_index_or (segments_of g m) k 0) (let h : 0 + e ≡ e = omega arith in h)
    ∙ ap (λ xs. slice_index_or xs k 0) (piece_kept g e of.no_loop)
    ∙ get_or-range_with_len (first_segment g e) (crossed g e + 1) k 0 (let h = of.within in omega (arith, h))
    ∙ sym of.is in
    name_at g n t less at
