-- The border graph of an arranged layout is a rotation system.
use Rattle.std.proofs.Common.{◌≡◌, ◌≢◌, ℕ, ◌+◌, ◌*◌, ◌/◌, ◌%◌, ◌<◌, true, List, [], length, map, slice_index, sym, refl, ap, ap₂, ◌∙◌, ⊎_elim, arith, length-append}
use Rattle.std.specs.Prelude.{◌==◌, slice_index_or}
use Rattle.std.specs.List.{flat_map, range_with_len, position_or_len}
use Rattle.std.proofs.lemmas.Bool.{cases_lt, cases_eq, eq-eqb, ne_eqb, false≢true, cond-true, cond-false}
use Rattle.std.proofs.lemmas.List.{get_or_append_left, get_or-append-add, get_or-map, length-map}
use Rattle.std.proofs.lemmas.List.FromFn.{length-map-range_with_len, get_or-map-range_with_len}
use Rattle.cp_lists.specs.Count.{Exactly}
use Rattle.cp_lists.proofs.ExactLists.{place_at, place_is}
use Rattle.cp_cgraph.specs.Clustered.{Clustered, IsClustered, nodes, edges, clusters, source, target, node_of}
use Rattle.cp_cgraph.specs.Crossings.{leaves, crossings}
use Rattle.cp_cgraph.specs.declared.layout.Layout.{Layout}
use Rattle.cp_cgraph.proofs.Crossing.{crossings-Exactly}
use Rattle.cp_rot.specs.Systems.{list_of}
use Rattle.cp_border.specs.Borders.{borders, sum_below, node_list, cluster_list, crossed, first_border, first_segment, segments, end_dart, border_list}
use Rattle.cp_border.specs.Good.{IsArranged}
use Rattle.cp_border.proofs.Numbering.{sum_below-apart, pieces_length, piece_at}
use Rattle.cp_border.proofs.Darts.{segment_size, segment_sizes, length-borders_at, first_segment-le, stands_source, stands_target}

-- the crossing of edge e at place i: a cluster but the root, which the edge leaves, and its place is i
pub record IsCrossing (g : Clustered) (e i c : ℕ) : Type 0 where
  pub above : 0 < c
  pub cluster : c < clusters g
  pub left : leaves g c e ≡ true
  pub within : i < crossed g e
  pub is : slice_index (crossings g e) i ≡ c
  pub place_is : position_or_len (λ x. x == c) (crossings g e) ≡ i

-- no edge leaves the root
above_root : (g : Clustered) (e c : ℕ) → leaves g c e ≡ true → 0 < c
above_root g e c left = ⊎_elim (λ z. absurd (false≢true (ap (λ (b : ℕ). leaves g b e) (sym z) ∙ left)))
    (λ nz. omega arith) (cases_eq c 0)

-- what is known of the crossing at a place along an edge
pub crossing_at : (g : Clustered) → IsClustered g → (e i : ℕ) → e < edges g → i < crossed g e →
    IsCrossing g e i (slice_index (crossings g e) i)
crossing_at g is e i lt within =
    let ex = crossings-Exactly g is e lt in
    let passes = ex.each_passes i within in
    record {
      above = above_root g e (slice_index (crossings g e) i) passes.1;
      cluster = passes.0;
      left = passes.1;
      within = within;
      is = refl;
      place_is = place_is (crossings g e) i (slice_index (crossings g e) i) ex.each_once within refl;
    }

-- what is known of the crossing of an edge and a border that it leaves
pub crossing_of : (g : Clustered) → IsClustered g → (e c : ℕ) → e < edges g → c < clusters g → leaves g c e ≡ true →
    IsCrossing g e (position_or_len (λ x. x == c) (crossings g e)) c
crossing_of g is e c lt cluster left =
    let ex = crossings-Exactly g is e lt in
    let at = place_at (crossings g e) c (ex.all c cluster left) in
    record { above = above_root g e c left; cluster = cluster; left = left; within = at.0; is = at.1; place_is = refl }

-- the item at place k of the list of cluster c
pub record IsItem (g : Clustered) (l : Layout) (c k e : ℕ) : Type 0 where
  pub edge : e < edges g
  pub left : leaves g c e ≡ true
  pub within : k < length (cluster_list l c)
  pub is : slice_index (cluster_list l c) k ≡ e
  pub place_is : position_or_len (λ x. x == e) (cluster_list l c) ≡ k

-- the list of a cluster is exactly the edges that leave it
pub cluster_exact : (g : Clustered) (l : Layout) → IsArranged g l → (c : ℕ) → 0 < c → c < clusters g →
    Exactly (edges g) (leaves g c) (cluster_list l c)
cluster_exact g l ar c above lt = ((ar.clusters_right c).present above lt).1

-- what is known of the item at a place of the list of a cluster
pub item_at : (g : Clustered) (l : Layout) → IsArranged g l → (c k : ℕ) → 0 < c → c < clusters g →
    k < length (cluster_list l c) → IsItem g l c k (slice_index (cluster_list l c) k)
item_at g l ar c k above lt within =
    let ex = cluster_exact g l ar c above lt in
    let passes = ex.each_passes k within in
    record {
      edge = passes.0;
      left = passes.1;
      within = within;
      is = refl;
      place_is =
          place_is (cluster_list l c) k (slice_index (cluster_list l c) k) ex.each_once within refl;
    }

-- what is known of the item of an edge in the list of a cluster that it leaves
pub item_of : (g : Clustered) (l : Layout) → IsArranged g l → (c e : ℕ) → 0 < c → c < clusters g → e < edges g →
    leaves g c e ≡ true → IsItem g l c (position_or_len (λ x. x == e) (cluster_list l c)) e
item_of g l ar c e above lt edge left =
    let at = place_at (cluster_list l c) e ((cluster_exact g l ar c above lt).all e edge left) in
    record { edge = edge; left = left; within = at.0; is = at.1; place_is = refl }

-- as many node lists as nodes
pub length-node_lists : (g : Clustered) (l : Layout) → IsArranged g l → length l.nodes ≡ nodes g
length-node_lists g l ar =
    ⊎_elim
    (λ fewer. let h : length l.nodes < length l.nodes =
    ((ar.nodes_right (length l.nodes)).present fewer).0 in absurd (omega arith))
    (λ most. ⊎_elim (λ more. let h : nodes g < nodes g =
    (ar.nodes_right (nodes g)).expected more in absurd (omega arith)) (λ least. omega arith)
    (cases_lt (nodes g) (length l.nodes)))
    (cases_lt (length l.nodes) (nodes g))

-- the lists of the border vertices of edge e
abbrev pub edge_lists : Clustered → Layout → ℕ → List (List ℕ)
edge_lists g l e = map (border_list g l e) (range_with_len 0 (crossed g e))

-- each edge adds the lists of its border vertices
edge_piece : (g : Clustered) (l : Layout) (k : ℕ) → length (edge_lists g l (0 + k)) ≡ crossed g k
edge_piece g l k = length-map-range_with_len (border_list g l (0 + k)) 0 (crossed g (0 + k))
    ∙ ap (crossed g) (let h : 0 + k ≡ k = omega arith in h)

-- one list a vertex
pub length-border_lists : (g : Clustered) (l : Layout) → IsArranged g l →
    length (borders g l).lists ≡ first_border g (edges g)
length-border_lists g l ar =
    length-append (map (map (end_dart g)) l.nodes) (flat_map (edge_lists g l) (range_with_len 0 (edges g)))
    ∙ ap₂ (λ (a b : ℕ). a + b) (length-map l.nodes (map (end_dart g)) ∙ length-node_lists g l ar)
    (pieces_length (edge_lists g l) (crossed g) 0 (edges g) (λ k lt. edge_piece g l k))

-- the list of a node
pub list_of_node : (g : Clustered) (l : Layout) → IsArranged g l → (v : ℕ) → v < nodes g →
    list_of (borders g l) v ≡ map (end_dart g) (node_list l v)
list_of_node g l ar v lt =
    let long : length l.nodes ≡ nodes g = length-node_lists g l ar in
    get_or_append_left (map (map (end_dart g)) l.nodes) (flat_map (edge_lists g l) (range_with_len 0 (edges g))) [] v
    (omega (arith, length-map l.nodes (map (end_dart g))))
    ∙ get_or-map (map (end_dart g)) l.nodes v [] [] (omega arith)

-- the list of a border vertex
pub list_of_border : (g : Clustered) (l : Layout) → IsArranged g l → (e i : ℕ) → e < edges g → i < crossed g e →
    list_of (borders g l) (first_border g e + i) ≡ border_list g l e i
list_of_border g l ar e i lt within =
    let long : length (map (map (end_dart g)) l.nodes) ≡ nodes g = length-map l.nodes (map (end_dart g))
    ∙ length-node_lists g l ar in
    ap (λ (m : ℕ). slice_index_or (borders g l).lists m []) (let h : first_border g e + i ≡ length
    (map (map (end_dart g)) l.nodes) + (sum_below (crossed g) e + i) = omega arith in h)
    ∙ get_or-append-add (map (map (end_dart g)) l.nodes) (flat_map (edge_lists g l) (range_with_len 0 (edges g)))
    (sum_below (crossed g) e + i) []
    ∙ piece_at (edge_lists g l) (crossed g) 0 (edges g) e i [] (λ k less. edge_piece g l k) lt within
    ∙ ap (λ (m : ℕ). slice_index_or (edge_lists g l m) i []) (let h : 0 + e ≡ e = omega arith in h)
    ∙ get_or-map-range_with_len (border_list g l e) 0 (crossed g e) i i [] within (omega arith)

-- the dart that touches a node, by its side
pub end_source : (g : Clustered) (d : ℕ) → d % 2 ≡ 0 → end_dart g d ≡ 2 * first_segment g (d / 2)
end_source g d even = cond-true (d % 2 == 0) (2 * first_segment g (d / 2))
    (2 * (first_segment g (d / 2) + crossed g (d / 2)) + 1) (eq-eqb (d % 2) 0 even)

-- the dart of a segment at the target of an edge
pub end_target : (g : Clustered) (d : ℕ) → d % 2 ≢ 0 →
    end_dart g d ≡ 2 * (first_segment g (d / 2) + crossed g (d / 2)) + 1
end_target g d odd = cond-false (d % 2 == 0) (2 * first_segment g (d / 2))
    (2 * (first_segment g (d / 2) + crossed g (d / 2)) + 1) (ne_eqb (d % 2) 0 odd)

-- an even dart stands at the source of its edge
node_at_source : (g : Clustered) (d : ℕ) → d % 2 ≡ 0 → node_of g d ≡ source g (d / 2)
node_at_source g d even = cond-true (d % 2 == 0) (source g (d / 2)) (target g (d / 2)) (eq-eqb (d % 2) 0 even)

-- an odd dart stands at the target of its edge
node_at_target : (g : Clustered) (d : ℕ) → d % 2 ≢ 0 → node_of g d ≡ target g (d / 2)
node_at_target g d odd = cond-false (d % 2 == 0) (source g (d / 2)) (target g (d / 2)) (ne_eqb (d % 2) 0 odd)

-- it is a dart of a segment
pub end_dart-lt : (g : Clustered) (l : Layout) (d : ℕ) → d < 2 * edges g → end_dart g d < length (borders g l).at
end_dart-lt g l d lt =
    ⊎_elim
    (λ even. let h : first_segment g (d / 2) + 0 < segments g =
    first_segment-le g (d / 2) 0 (omega arith) (omega arith) in omega
    (arith, end_source g d even, length-borders_at g l))
    (λ odd. let h : first_segment g (d / 2) + crossed g (d / 2) < segments g =
    first_segment-le g (d / 2) (crossed g (d / 2)) (omega arith) (omega arith) in omega
    (arith, end_target g d odd, length-borders_at g l))
    (cases_eq (d % 2) 0)

-- which stands where the graph's dart stands
pub end_dart_stands : (g : Clustered) (l : Layout) (d : ℕ) → d < 2 * edges g →
    slice_index (borders g l).at (end_dart g d) ≡ node_of g d
end_dart_stands g l d lt =
    ⊎_elim
    (λ even. ap (slice_index (borders g l).at) (end_source g d even) ∙ stands_source g l (d / 2) (omega arith)
    ∙ sym (node_at_source g d even))
    (λ odd. ap (slice_index (borders g l).at) (end_target g d odd) ∙ stands_target g l (d / 2) (omega arith)
    ∙ sym (node_at_target g d odd))
    (cases_eq (d % 2) 0)

-- and differs from those of other darts
segment_place : (g : Clustered) (e j h k : ℕ) → j < segment_size g e → k < segment_size g h →
    2 * first_segment g e + j ≡ 2 * first_segment g h + k → (e ≡ h) × (j ≡ k)
segment_place g e j h k within_e within_h same =
    sum_below-apart (segment_size g) e j h k within_e within_h (omega (arith, segment_sizes g e, segment_sizes g h))

-- darts whose segments end alike are one dart
pub end_dart-apart : (g : Clustered) (d b : ℕ) → end_dart g d ≡ end_dart g b → d ≡ b
end_dart-apart g d b same =
    ⊎_elim
    (λ even. ⊎_elim
    (λ even_too. let h : (d / 2 ≡ b / 2) × (0 ≡ 0) =
    segment_place g (d / 2) 0 (b / 2) 0 (omega arith) (omega arith)
    (omega (arith, end_source g d even, end_source g b even_too)) in omega (arith, h.0))
    (λ odd. absurd (omega (arith, end_source g d even, end_target g b odd)))
    (cases_eq (b % 2) 0))
    (λ odd. ⊎_elim
    (λ even. absurd (omega (arith, end_target g d odd, end_source g b even)))
    (λ odd_too.
    let h : (d / 2 ≡ b / 2) × (2 * crossed g (d / 2) + 1 ≡ 2 * crossed g (b / 2) + 1) =
    segment_place g (d / 2) (2 * crossed g (d / 2) + 1) (b / 2) (2 * crossed g (b / 2) + 1) (omega arith)
    (omega arith) (omega (arith, end_target g d odd, end_target g b odd_too)) in
    omega (arith, h.0))
    (cases_eq (b % 2) 0))
    (cases_eq (d % 2) 0)
