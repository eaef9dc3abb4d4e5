-- The lists of the border graph, as its tables tell them.
use Rattle.std.proofs.Common.{◌≡◌, ℕ, ◌+◌, ◌-◌, ◌^◌, ◌<◌, ◌≤◌, List, length, slice_index, sym, refl, ap, ◌∙◌, subst, arith}
use Rattle.std.proofs.lemmas.Bool.{cond_both}
use Rattle.std.proofs.lemmas.List.{length-map}
use Rattle.cp_cgraph.specs.Clustered.{Clustered, IsClustered, nodes, edges, clusters, source}
use Rattle.cp_cgraph.specs.Crossings.{contains, crossings}
use Rattle.cp_cgraph.specs.declared.layout.Layout.{Layout}
use Rattle.cp_rot.specs.Systems.{System, IsRotation, darts, list_of, next, vertex_of}
use Rattle.cp_rot.proofs.Rotations.{item_stands, next_of_item, place_after_other}
use Rattle.cp_border.specs.Borders.{borders, sum_below, border_list, crossed, end_dart, first_border, node_list}
use Rattle.cp_border.specs.Good.{IsArranged}
use Rattle.cp_border.specs.Tables.{Tables, HasPlacesFor, HoldsTable}
use Rattle.cp_border.specs.Views.{IsViewedUpto, IsTold}
use Rattle.cp_border.proofs.Numbering.{Place, located}
use Rattle.cp_border.proofs.Rotation.{list_of_node, list_of_border}
use Rattle.cp_border.proofs.RotationLaw.{length-borders_at-graph}
use Rattle.cp_border.proofs.TurnLaws.{next_told, viewed_vertex}

-- a node has as many darts as in the layout
pub node_degree : (g : Clustered) (l : Layout) → IsArranged g l → (v : ℕ) → v < nodes g →
    length (node_list l v) ≡ length (list_of (borders g l) v)
node_degree g l ar v lt = sym (length-map (node_list l v) (end_dart g))
    ∙ sym (ap (λ (xs : List ℕ). length xs) (list_of_node g l ar v lt))

-- and a border vertex four
pub border_degree : (g : Clustered) (l : Layout) → IsArranged g l → (v : ℕ) → nodes g ≤ v →
    v < first_border g (edges g) → 4 ≡ length (list_of (borders g l) v)
border_degree g l ar v low lt =
    let p : Place (crossed g) (edges g) (v - nodes g) = located (crossed g) (edges g) (v - nodes g) (omega arith) in
    let vertex : first_border g p.piece + p.place ≡ v = omega (arith, p.is) in
    let four : 4 ≡ length (border_list g l p.piece p.place) =
    cond_both (contains g (slice_index (crossings g p.piece) p.place) (source g p.piece)) _ _
    (λ (xs : List ℕ). 4 ≡ length xs) (λ inside. refl) (λ outside. refl) in
    subst (λ (u : ℕ). 4 ≡ length (list_of (borders g l) u)) vertex (four ∙ sym
    (ap (λ (xs : List ℕ). length xs) (list_of_border g l ar p.piece p.place p.is_piece p.is_place)))

-- the next dart of an item is the item behind it
pub item_after : (r : System) → IsRotation r → (table : List ℕ) (v k dart : ℕ) → HoldsTable (darts r) table (next r) →
    v < r.vertices → k + 1 < length (list_of r v) → dart ≡ slice_index (list_of r v) k →
    slice_index table dart ≡ slice_index (list_of r v) (k + 1)
item_after r is table v k dart told ltv ltk at =
    ap (slice_index table) at ∙ told.told (slice_index (list_of r v) k) (item_stands r is v k ltv (omega arith)).0
    ∙ next_of_item r is v k ltv (omega arith)
    ∙ ap (slice_index (list_of r v)) (place_after_other (length (list_of r v)) k (λ e. omega arith))

-- the tables as they are filled
pub tables_told : (g : Clustered) (l : Layout) (t : Tables) → IsClustered g → IsArranged g l → HasPlacesFor g t →
    HoldsTable (edges g + 1) t.first (sum_below (crossed g)) →
    HoldsTable (darts (borders g l)) t.at (vertex_of (borders g l)) →
    IsViewedUpto g l (clusters g) 0 t.following t.begins → IsTold g l t
tables_told g l t is ar places first_told at_told viewed = record {
  clustered = is;
  arranged = ar;
  places = places;
  first_told = first_told;
  at_told = at_told;
  next_told = record {
    size = omega (arith, places.following_places, length-borders_at-graph g l is ar);
    told = next_told g l is ar t.following t.begins viewed;
  };
  begins_told = λ v low lt. (viewed_vertex g l is ar t.following t.begins viewed v low lt).begin;
}

-- tables have places for the darts of the border graph, and these are so few that no sum overflows
pub room_for_darts : (g : Clustered) (l : Layout) (t : Tables) → IsClustered g → IsArranged g l → HasPlacesFor g t →
    (darts (borders g l) ≤ length t.at) × (darts (borders g l) ≤ length t.following) × (darts (borders g l) < 2 ^ 60)
room_for_darts g l t is ar places =
    let long = length-borders_at-graph g l is ar in (
      omega (arith, long, places.at_places),
      omega (arith, long, places.following_places),
      omega
          (arith, long, places.few_edges),
    )

-- the border graph of which tables tell has few darts
pub told_few : (g : Clustered) (l : Layout) (t : Tables) → IsTold g l t → darts (borders g l) < 2 ^ 60
told_few g l t told = (room_for_darts g l t told.clustered told.arranged told.places).2
