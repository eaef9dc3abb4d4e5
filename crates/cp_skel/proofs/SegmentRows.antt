-- The edges of the skeletons, edge by edge of the graph and segment by segment.
use Rattle.std.proofs.Common.{◌≡◌, ◌≢◌, ℕ, ◌+◌, ◌*◌, ◌/◌, ◌<◌, ◌≤◌, List, [], ◌∷◌, ◌++◌, length, map, add-one, append_assoc, sym, refl, ap, ap₂, ◌∙◌, subst, arith}
use Rattle.std.specs.Prelude.{eqb, slice_index}
use Rattle.std.specs.List.{flat_map, range_with_len}
use Rattle.std.proofs.lemmas.Bool.{cond-false, cond-true, eq-eqb, ne_eqb}
use Rattle.std.proofs.lemmas.List.{append-nil, length-append, length-map, map-append}
use Rattle.std.proofs.lemmas.List.FromFn.{length-map-range_with_len}
use Rattle.cp_board.specs.declared.parts.EdgeRow.{EdgeRow}
use Rattle.cp_cgraph.specs.Clustered.{Clustered, IsClustered, edges, source, target}
use Rattle.cp_cgraph.specs.Crossings.{crossings}
use Rattle.cp_border.specs.Borders.{sum_below, crossed, first_segment}
use Rattle.cp_border.proofs.Darts.{toward_target}
use Rattle.cp_border.proofs.Numbering.{pieces_length}
use Rattle.cp_border.proofs.Rotation.{IsCrossing, crossing_at}
use Rattle.cp_skel.specs.declared.vertex.Vertex.TheVariants.{Node}
use Rattle.cp_skel.specs.Skeletons.{begins_at_border, below, dart_vertex, ends_at_border, kept_segments, segment_name, segments_of, skeleton_edge, vertex_name}
use Rattle.cp_skel.specs.SkeletonTables.{first_name, first_rows, kept_count}
use Rattle.cp_skel.specs.SolutionLayouts.{name_edge}
use Rattle.cp_skel.proofs.DartVertices.{StandsAt, begins_vertex, ends_vertex, source_vertex, target_vertex}
use Rattle.cp_skel.proofs.GatheredLists.{map_more, pieces_more, range_more}
use Rattle.cp_skel.proofs.KeptSegments.{IsSegmentOf, piece_kept, piece_loop}
use Rattle.cp_skel.proofs.SegmentNames.{length-kept_segments, length-piece_at, segment_name-is}
use Rattle.cp_skel.proofs.SolutionLists.{name_edge-is}

-- the name of the first segment of the next edge
first_name-next : (g : Clustered) (e : ℕ) → first_name g (e + 1) ≡ first_name g e + kept_count g e
first_name-next g e = ap (sum_below (kept_count g)) (add-one e)

-- a loop has no segment that is kept
pub first_name-loop : (g : Clustered) (e : ℕ) → source g e ≡ target g e → first_name g (e + 1) ≡ first_name g e
first_name-loop g e same =
    let none : kept_count g e ≡ 0 =
    cond-true (eqb (source g e) (target g e)) 0 (crossed g e + 1) (eq-eqb (source g e) (target g e) same) in
    omega (arith, first_name-next g e, none)

-- each other edge has one more than the borders that it crosses
pub first_name-kept : (g : Clustered) (e : ℕ) → source g e ≢ target g e
    → first_name g (e + 1) ≡ first_name g e + (crossed g e + 1)
first_name-kept g e ne =
    let all : kept_count g e ≡ crossed g e + 1 =
    cond-false (eqb (source g e) (target g e)) 0 (crossed g e + 1) (ne_eqb (source g e) (target g e) ne) in
    omega (arith, first_name-next g e, all)

-- all names
pub first_name-all : (g : Clustered) → first_name g (edges g) ≡ length (kept_segments g)
first_name-all g = sym (length-kept_segments g)

-- the segments of an edge that is no loop
module _ (g : Clustered) (e : ℕ) (lt : e < edges g) (ne : source g e ≢ target g e) where
  -- the one behind k borders
  of_edge : (t k : ℕ) → k ≤ crossed g e → t ≡ first_segment g e + k → IsSegmentOf g t e k
  of_edge t k within same = record { edge = lt; no_loop = ne; within = within; is = same }

  -- stands for the edge
  pub name_edge-first : (k : ℕ) → k ≤ crossed g e → name_edge g (first_name g e + k) ≡ e
  name_edge-first k within =
      let t : ℕ = first_segment g e + k in
      let half : 2 * (first_segment g e + k) / 2 ≡ first_segment g e + k = omega arith in
      let of : IsSegmentOf g (2 * (first_segment g e + k) / 2) e k = of_edge (2 * t / 2) k within half in
      let stands : StandsAt g (2 * t) e (dart_vertex g (2 * t)) = record { place = k; of = of; at = refl } in
      ap (name_edge g) (sym (segment_name-is g (2 * t / 2) e k of))
      ∙ name_edge-is g (2 * t) e (dart_vertex g (2 * t)) stands

  -- one name more
  pub owners-more : (k : ℕ) (owners : List ℕ) → k ≤ crossed g e
      → owners ≡ map (name_edge g) (below (first_name g e + k))
      → owners ++ e ∷ [] ≡ map (name_edge g) (below (first_name g e + (k + 1)))
  owners-more k owners within is =
      ap₂ (λ (xs : List ℕ) (x : ℕ). xs ++ x ∷ []) is (sym (name_edge-first k within))
      ∙ sym (map_more (name_edge g) (first_name g e + k))
      ∙ ap (λ (n : ℕ). map (name_edge g) (below n))
      (let h : first_name g e + k + 1 ≡ first_name g e + (k + 1) = omega arith in h)

  -- as many edges of the skeletons as names
  length-rows : (k : ℕ) → length (first_rows g e ++ map (skeleton_edge g) (range_with_len (first_segment g e) k))
      ≡ first_name g e + k
  length-rows k =
      let own : length (map (skeleton_edge g) (range_with_len (first_segment g e) k)) ≡ k =
      length-map-range_with_len (skeleton_edge g) (first_segment g e) k in
      let earlier : length (first_rows g e) ≡ first_name g e =
      length-map (flat_map (segments_of g) (below e)) (skeleton_edge g)
      ∙ pieces_length (segments_of g) (kept_count g) 0 e (λ j less. length-piece_at g j) in
      length-append (first_rows g e) (map (skeleton_edge g) (range_with_len (first_segment g e) k))
      ∙ ap₂ (λ (m n : ℕ). m + n) earlier own

  -- the edge of one segment more
  pub rows-more : (k name a b : ℕ) (rows : List EdgeRow) → k ≤ crossed g e
      → rows ≡ first_rows g e ++ map (skeleton_edge g) (range_with_len (first_segment g e) k)
      → name ≡ length rows
      → a ≡ vertex_name g (dart_vertex g (2 * (first_segment g e + k)))
      → b ≡ vertex_name g (dart_vertex g (2 * (first_segment g e + k) + 1))
      → (let row : EdgeRow = record { name = name; a = a; b = b } in
      rows ++ row ∷ [] ≡ first_rows g e ++ map (skeleton_edge g) (range_with_len (first_segment g e) (k + 1)))
  rows-more k name a b rows within is is_name is_a is_b =
      let t : ℕ = first_segment g e + k in
      let half : 2 * (first_segment g e + k) / 2 ≡ first_segment g e + k = omega arith in
      let named : name ≡ segment_name g (2 * t) =
      is_name ∙ ap length is ∙ length-rows k
      ∙ sym (segment_name-is g (2 * t / 2) e k (of_edge (2 * t / 2) k within half)) in
      let row : EdgeRow = record { name = name; a = a; b = b } in
      let same : row ≡ skeleton_edge g t =
      ap (λ (n : ℕ). let r : EdgeRow = record { name = n; a = a; b = b } in r) named
      ∙ ap₂ (λ (m n : ℕ). let r : EdgeRow = record { name = segment_name g (2 * t); a = m; b = n } in r) is_a is_b in
      ap₂ (λ (xs : List EdgeRow) (r : EdgeRow). xs ++ r ∷ []) is same
      ∙ append_assoc (first_rows g e) (map (skeleton_edge g) (range_with_len (first_segment g e) k))
      (skeleton_edge g t ∷ [])
      ∙ ap (λ (xs : List EdgeRow). first_rows g e ++ xs)
      (sym (ap (map (skeleton_edge g)) (range_more (first_segment g e) k)
      ∙ map-append (skeleton_edge g) (range_with_len (first_segment g e) k) (t ∷ [])))

  -- all segments
  pub rows-next : first_rows g e ++ map (skeleton_edge g) (range_with_len (first_segment g e) (crossed g e + 1))
      ≡ first_rows g (e + 1)
  rows-next =
      ap (λ (ts : List ℕ). first_rows g e ++ map (skeleton_edge g) ts) (sym (piece_kept g e ne))
      ∙ sym (map-append (skeleton_edge g) (flat_map (segments_of g) (below e)) (segments_of g e))
      ∙ ap (map (skeleton_edge g)) (sym (pieces_more (segments_of g) e))

-- where the segments of edge e begin and end
module _ (g : Clustered) (e : ℕ) (lt : e < edges g) where
  -- the first begins at the source
  pub begins-source : vertex_name g (Node (source g e)) ≡ vertex_name g (dart_vertex g (2 * (first_segment g e + 0)))
  begins-source =
      ap (vertex_name g) (sym (source_vertex g e lt)
      ∙ ap (dart_vertex g) (let h : 2 * first_segment g e ≡ 2 * (first_segment g e + 0) = omega arith in h))

  -- the last ends at the target
  pub ends-target : vertex_name g (Node (target g e))
      ≡ vertex_name g (dart_vertex g (2 * (first_segment g e + crossed g e) + 1))
  ends-target = ap (vertex_name g) (sym (target_vertex g e lt))

  -- one ends at each border
  pub ends-border : (i c : ℕ) → i < crossed g e → slice_index (crossings g e) i ≡ c
      → vertex_name g (ends_at_border g e c) ≡ vertex_name g (dart_vertex g (2 * (first_segment g e + i) + 1))
  ends-border i c within at =
      ap (λ (d : ℕ). vertex_name g (ends_at_border g e d)) (sym at)
      ∙ ap (vertex_name g) (sym (ends_vertex g e i lt within))

  -- and one begins there
  pub begins-border : (i c : ℕ) → i < crossed g e → slice_index (crossings g e) i ≡ c
      → vertex_name g (begins_at_border g e c) ≡ vertex_name g (dart_vertex g (2 * (first_segment g e + (i + 1))))
  begins-border i c within at =
      ap (λ (d : ℕ). vertex_name g (begins_at_border g e d)) (sym at)
      ∙ ap (vertex_name g) (sym (begins_vertex g e i lt within)
      ∙ ap (dart_vertex g)
      (let h : toward_target g e i ≡ 2 * (first_segment g e + (i + 1)) = omega arith in h))

-- a loop has no edges in the skeletons
pub rows-loop : (g : Clustered) (e : ℕ) → source g e ≡ target g e → first_rows g e ≡ first_rows g (e + 1)
rows-loop g e same =
    ap (map (skeleton_edge g))
    (sym (pieces_more (segments_of g) e
    ∙ ap (λ (ts : List ℕ). flat_map (segments_of g) (below e) ++ ts) (piece_loop g e same)
    ∙ append-nil (flat_map (segments_of g) (below e))))

-- the crossing at a place of the list of crossings
pub crossing_found : (g : Clustered) → IsClustered g → (e i : ℕ) (found : List ℕ) → e < edges g → found ≡ crossings g e
    → i < length found → IsCrossing g e i (slice_index found i)
crossing_found g is e i found lt same within =
    subst (λ (xs : List ℕ). i < length xs → IsCrossing g e i (slice_index xs i)) (sym same)
    (λ less. crossing_at g is e i lt less) within
