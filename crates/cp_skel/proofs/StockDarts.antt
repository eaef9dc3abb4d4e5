-- The darts of the graph of the skeletons, and the darts of segments that they stand for.
use Rattle.std.proofs.Common.{◌≡◌, ◌≢◌, ◌⊎◌, ℕ, ◌+◌, ◌-◌, ◌*◌, ◌/◌, ◌%◌, ◌<◌, length, sym, refl, ap, ap₂, ◌∙◌, subst, inl, inr, ⊎_elim, arith}
use Rattle.std.specs.Prelude.{slice_index_or}
use Rattle.std.proofs.lemmas.Bool.{cases_eq}
use Rattle.cp_lists.specs.CyclicLists.{Has}
use Rattle.cp_lists.proofs.DistinctLists.{Has-Contains, Has_at}
use Rattle.cp_conn.specs.NamedGraphs.{NamedGraph, rank}
use Rattle.cp_conn.proofs.NamedGraphs.{rank_at}
use Rattle.cp_board.specs.Instances.{ends_of}
use Rattle.cp_board.specs.Rotations.{dart}
use Rattle.cp_cgraph.specs.Clustered.{Clustered, IsClustered}
use Rattle.cp_border.specs.Borders.{segments}
use Rattle.cp_maps.specs.Names.{Names}
use Rattle.cp_faces.specs.Twins.{twin}
use Rattle.cp_faces.proofs.Twins.{twin_even, twin_odd}
use Rattle.cp_skel.specs.declared.vertex.Vertex.{Vertex}
use Rattle.cp_skel.specs.Skeletons.{IsVertex, all_vertices, dart_vertex, kept_segments, skeletons, vertex_name}
use Rattle.cp_skel.specs.VertexLists.{stock_dart}
use Rattle.cp_skel.proofs.KeptDarts.{segment-differ}
use Rattle.cp_skel.proofs.KeptSegments.{kept-segment, kept_segment-lt}
use Rattle.cp_skel.proofs.NumberedSystems.{dart_cases, first_dart, numbers, second_dart}
use Rattle.cp_skel.proofs.SkeletonGraph.{ends_of-skeletons, name_at}
use Rattle.cp_skel.proofs.SkeletonVertices.{kept-IsVertex, vertex_name-apart}

-- how many vertices and edges the skeletons have, and their graph
abbrev pub vertex_count : Clustered → ℕ
vertex_count g = length (all_vertices g)

-- how many edges the skeletons have
abbrev pub edge_count : Clustered → ℕ
edge_count g = length (kept_segments g)

-- the two ends of an edge of the skeletons
abbrev pub ends : Clustered → ℕ → ℕ × ℕ
ends g = ends_of (skeletons g)

-- the graph of the skeletons, by numbers
abbrev pub skeleton_graph : Clustered → NamedGraph
skeleton_graph g = numbers (vertex_count g) (edge_count g) (ends g)

-- the segment with a name is kept
pub name_kept : (g : Clustered) (n : ℕ) → n < edge_count g
    → Has (slice_index_or (kept_segments g) n 0) (kept_segments g)
name_kept g n lt = Has_at (kept_segments g) n lt

-- and has that name
pub name_of : (g : Clustered) (n : ℕ) → n < edge_count g
    → rank (kept_segments g) (slice_index_or (kept_segments g) n 0) ≡ n
name_of g n lt = name_at g n (slice_index_or (kept_segments g) n 0) lt refl

-- a segment that is kept has a name
pub kept_name : (g : Clustered) (t : ℕ) → Has t (kept_segments g)
    → (rank (kept_segments g) t < edge_count g) × (slice_index_or (kept_segments g) (rank (kept_segments g) t) 0 ≡ t)
kept_name g t h = rank_at (kept_segments g) t ((Has-Contains t (kept_segments g)).0 h)

-- the segment of such a dart
stock_half : (g : Clustered) (d : ℕ) → stock_dart g d / 2 ≡ slice_index_or (kept_segments g) (d / 2) 0
stock_half g d = omega arith

-- it is kept
pub stock-kept : (g : Clustered) (d : ℕ) → d < 2 * edge_count g → Has (stock_dart g d / 2) (kept_segments g)
stock-kept g d lt =
    subst (λ t. Has t (kept_segments g)) (sym (stock_half g d)) (name_kept g (d / 2) (omega (arith, lt)))

-- these are names of the darts in the stock of all segments
pub stock-Names : (g : Clustered) → Names (edge_count g) (segments g) (stock_dart g)
stock-Names g = record {
  below = λ d lt.
      let less = kept_segment-lt g (slice_index_or (kept_segments g) (d / 2) 0)
      (name_kept g (d / 2) (omega (arith, lt))) in
      omega (arith, less);
  apart = λ c d ltc ltd same.
      let one : slice_index_or (kept_segments g) (c / 2) 0 ≡ slice_index_or (kept_segments g) (d / 2) 0 =
      omega (arith, same) in
      let half : c / 2 ≡ d / 2 =
      sym (name_of g (c / 2) (omega (arith, ltc))) ∙ ap (rank (kept_segments g)) one
      ∙ name_of g (d / 2) (omega (arith, ltd)) in
      omega (arith, same, one, half);
  twins = λ d lt.
      let t : ℕ = slice_index_or (kept_segments g) (d / 2) 0 in
      ⊎_elim
      (λ even.
      let next : twin d ≡ d + 1 = twin_even d even in
      let half : (d + 1) / 2 ≡ d / 2 = omega arith in
      let side : (d + 1) % 2 ≡ 1 = omega arith in
      ap (stock_dart g) next
      ∙ ap₂ (λ n r. 2 * slice_index_or (kept_segments g) n 0 + r) half side
      ∙ (let h : 2 * t + 1 ≡ 2 * t + d % 2 + 1 = omega (arith, even) in h)
      ∙ sym (twin_even (stock_dart g d) (omega (arith, even))))
      (λ odd.
      let next : twin d ≡ d - 1 = twin_odd d odd in
      let half : (d - 1) / 2 ≡ d / 2 = omega arith in
      let side : (d - 1) % 2 ≡ 0 = omega arith in
      ap (stock_dart g) next
      ∙ ap₂ (λ n r. 2 * slice_index_or (kept_segments g) n 0 + r) half side
      ∙ (let h : 2 * t + 0 ≡ 2 * t + d % 2 - 1 = omega (arith, odd) in h)
      ∙ sym (twin_odd (stock_dart g d) (λ z. odd (omega (arith, z)))))
      (cases_eq (d % 2) 0);
}

-- the ends of the edge with a name
pub ends_at : (g : Clustered) (n : ℕ) → n < edge_count g
    → let t = slice_index_or (kept_segments g) n 0 in
    ends g n ≡ (vertex_name g (dart_vertex g (2 * t)), vertex_name g (dart_vertex g (2 * t + 1)))
ends_at g n lt =
    let t : ℕ = slice_index_or (kept_segments g) n 0 in
    ap (ends g) (sym (name_of g n lt)) ∙ ends_of-skeletons g t (name_kept g n lt)

-- the skeletons of a clustered graph
module _ (g : Clustered) (is : IsClustered g) where
  -- both darts of a segment that is kept stand at vertices
  both_stand : (n : ℕ) → n < edge_count g → let t = slice_index_or (kept_segments g) n 0 in
      IsVertex g (dart_vertex g (2 * t)) × IsVertex g (dart_vertex g (2 * t + 1))
  both_stand n lt =
      let t : ℕ = slice_index_or (kept_segments g) n 0 in
      let kept : (d : ℕ) → d / 2 ≡ t → Has (d / 2) (kept_segments g) =
      λ d half. subst (λ u. Has u (kept_segments g)) (sym half) (name_kept g n lt) in (
        kept-IsVertex g is (2 * t) (kept (2 * t) (let h : 2 * t / 2 ≡ t = omega arith in h)),
        kept-IsVertex g is (2 * t + 1) (kept (2 * t + 1) (let h : (2 * t + 1) / 2 ≡ t = omega arith in h)),
      )

  -- the ends of edges are vertices
  pub ends-within : (n : ℕ) → n < edge_count g → ((ends g n).0 < vertex_count g) × ((ends g n).1 < vertex_count g)
  ends-within n lt =
      let both = both_stand n lt in
      subst (λ (p : ℕ × ℕ). (p.0 < vertex_count g) × (p.1 < vertex_count g)) (sym (ends_at g n lt))
      (both.0.within, both.1.within)

  -- and differ
  pub ends-differ : (n : ℕ) → n < edge_count g → (ends g n).0 ≢ (ends g n).1
  ends-differ n lt same =
      let t : ℕ = slice_index_or (kept_segments g) n 0 in
      let both = both_stand n lt in
      let r = kept-segment g t (name_kept g n lt) in
      segment-differ g is t r.0 r.1 r.2
      (vertex_name-apart g (dart_vertex g (2 * t)) (dart_vertex g (2 * t + 1)) both.0 both.1
      (sym (ap (λ (p : ℕ × ℕ). p.0) (ends_at g n lt)) ∙ same ∙ ap (λ (p : ℕ × ℕ). p.1) (ends_at g n lt)))

  -- a dart of a segment that is kept is the dart of its edge at its vertex
  pub kept-stock : (d : ℕ) → Has (d / 2) (kept_segments g)
      → let n = rank (kept_segments g) (d / 2) in
      let v = vertex_name g (dart_vertex g d) in
      (n < edge_count g) × (((ends g n).0 ≡ v) ⊎ ((ends g n).1 ≡ v)) × (stock_dart g (dart (skeleton_graph g) v n) ≡ d)
  kept-stock d h =
      let n : ℕ = rank (kept_segments g) (d / 2) in
      let v : ℕ = vertex_name g (dart_vertex g d) in
      let w = kept_name g (d / 2) h in
      let at = ends_of-skeletons g (d / 2) h in
      let half : (2 * n / 2 ≡ n) × ((2 * n + 1) / 2 ≡ n) = (omega arith, omega arith) in
      let side : (2 * n % 2 ≡ 0) × ((2 * n + 1) % 2 ≡ 1) = (omega arith, omega arith) in
      ⊎_elim
      (λ even.
      let end : (ends g n).0 ≡ v =
      ap (λ (p : ℕ × ℕ). p.0) at ∙ ap (λ x. vertex_name g (dart_vertex g x)) (sym even) in (
        w.0,
        inl end,
        ap (stock_dart g) (first_dart (vertex_count g) (edge_count g) (ends g) ends-differ v n w.0 end)
            ∙ ap₂ (λ m r. 2 * slice_index_or (kept_segments g) m 0 + r) half.0 side.0
            ∙ ap (λ t. 2 * t + 0) w.1 ∙ (let e : 2 * (d / 2) + 0 ≡ d = omega (arith, even) in e),
      ))
      (λ odd.
      let end : (ends g n).1 ≡ v =
      ap (λ (p : ℕ × ℕ). p.1) at ∙ ap (λ x. vertex_name g (dart_vertex g x)) (sym odd) in (
        w.0,
        inr end,
        ap (stock_dart g) (second_dart (vertex_count g) (edge_count g) (ends g) ends-differ v n w.0 end)
            ∙ ap₂ (λ m r. 2 * slice_index_or (kept_segments g) m 0 + r) half.1 side.1
            ∙ ap (λ t. 2 * t + 1) w.1 ∙ (let e : 2 * (d / 2) + 1 ≡ d = omega (arith, odd) in e),
      ))
      (dart_cases d)

  -- the dart of an edge at one of its ends stands at the vertex there
  pub stock-stands : (p : Vertex) (n : ℕ) → IsVertex g p → n < edge_count g
      → ((ends g n).0 ≡ vertex_name g p) ⊎ ((ends g n).1 ≡ vertex_name g p)
      → let d = stock_dart g (dart (skeleton_graph g) (vertex_name g p) n) in
      Has (d / 2) (kept_segments g) × (dart_vertex g d ≡ p) × (rank (kept_segments g) (d / 2) ≡ n)
  stock-stands p n is_p lt end =
      let t : ℕ = slice_index_or (kept_segments g) n 0 in
      let v : ℕ = vertex_name g p in
      let both = both_stand n lt in
      let half : (2 * n / 2 ≡ n) × ((2 * n + 1) / 2 ≡ n) = (omega arith, omega arith) in
      let side : (2 * n % 2 ≡ 0) × ((2 * n + 1) % 2 ≡ 1) = (omega arith, omega arith) in
      let of : (d : ℕ) → d / 2 ≡ t → dart_vertex g d ≡ p
      → Has (d / 2) (kept_segments g) × (dart_vertex g d ≡ p) × (rank (kept_segments g) (d / 2) ≡ n) =
      λ d same at. (
        subst (λ u. Has u (kept_segments g)) (sym same) (name_kept g n lt),
        at,
        ap (rank (kept_segments g)) same ∙ name_of g n lt,
      ) in
      ⊎_elim
      (λ first.
      let d : stock_dart g (dart (skeleton_graph g) v n) ≡ 2 * t + 0 =
      ap (stock_dart g) (first_dart (vertex_count g) (edge_count g) (ends g) ends-differ v n lt first)
      ∙ ap₂ (λ m r. 2 * slice_index_or (kept_segments g) m 0 + r) half.0 side.0 in
      let stands : dart_vertex g (2 * t) ≡ p =
      vertex_name-apart g (dart_vertex g (2 * t)) p both.0 is_p
      (sym (ap (λ (q : ℕ × ℕ). q.0) (ends_at g n lt)) ∙ first) in
      of (stock_dart g (dart (skeleton_graph g) v n))
      (ap (λ x. x / 2) d ∙ (let h : (2 * t + 0) / 2 ≡ t = omega arith in h))
      (ap (dart_vertex g) (d ∙ (let h : 2 * t + 0 ≡ 2 * t = omega arith in h)) ∙ stands))
      (λ second.
      let d : stock_dart g (dart (skeleton_graph g) v n) ≡ 2 * t + 1 =
      ap (stock_dart g) (second_dart (vertex_count g) (edge_count g) (ends g) ends-differ v n lt second)
      ∙ ap₂ (λ m r. 2 * slice_index_or (kept_segments g) m 0 + r) half.1 side.1 in
      let stands : dart_vertex g (2 * t + 1) ≡ p =
      vertex_name-apart g (dart_vertex g (2 * t + 1)) p both.1 is_p
      (sym (ap (λ (q : ℕ × ℕ). q.1) (ends_at g n lt)) ∙ second) in
      of (stock_dart g (dart (skeleton_graph g) v n))
      (ap (λ x. x / 2) d ∙ (let h : (2 * t + 1) / 2 ≡ t = omega arith in h))
      (ap (dart_vertex g) d ∙ stands))
      end
