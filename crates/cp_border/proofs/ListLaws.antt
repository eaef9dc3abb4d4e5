-- The items of the lists of a layout, and where the darts of the borders begin.
use Rattle.std.proofs.Common.{◌≡◌, ℕ, suc, ◌+◌, ◌-◌, ◌*◌, ◌^◌, ◌<◌, ◌≤◌, List, [], ◌∷◌, ◌++◌, take, length, slice_index, sym, refl, ap, ◌∙◌, subst, arith}
use Rattle.std.specs.Prelude.{◌==◌}
use Rattle.std.specs.List.{position_or_len}
use Rattle.cp_cgraph.specs.Clustered.{Clustered, IsClustered, nodes, edges, clusters}
use Rattle.cp_cgraph.specs.Crossings.{crossings}
use Rattle.cp_cgraph.specs.declared.layout.Layout.{Layout}
use Rattle.cp_rot.specs.Systems.{list_of}
use Rattle.cp_border.specs.Borders.{borders, sum_below, node_list, cluster_list, crossed, first_border, first_border_edge}
use Rattle.cp_border.specs.Good.{IsArranged}
use Rattle.cp_border.specs.Tables.{list_at, border_at}
use Rattle.cp_border.proofs.Numbering.{sum_below-le}
use Rattle.cp_border.proofs.Darts.{border_length}
use Rattle.cp_border.proofs.Rotation.{crossing_of, item_at, list_of_border}
use Rattle.cp_border.proofs.RotationLaw.{begin_dart-lt, border_vertex-lt, border_edges-vertices}

-- the border vertex of an item is one, and the list there is that of the vertex
pub border_at-lt : (g : Clustered) (l : Layout) → IsClustered g → IsArranged g l → (c k : ℕ) → 0 < c → c < clusters g →
    k < length (cluster_list l c) → border_at g l c k < first_border g (edges g)
border_at-lt g l is ar c k above lt within =
    let item = item_at g l ar c k above lt within in
    let cross = crossing_of g is (slice_index (cluster_list l c) k) c item.edge lt item.left in
    border_vertex-lt g (slice_index (cluster_list l c) k) (position_or_len (λ x. x == c)
    (crossings g (slice_index (cluster_list l c) k))) item.edge cross.within

-- and the list at an item is that of its border vertex
pub list_of_item : (g : Clustered) (l : Layout) → IsClustered g → IsArranged g l → (c k : ℕ) → 0 < c → c < clusters g →
    k < length (cluster_list l c) → list_at g l c k ≡ list_of (borders g l) (border_at g l c k)
list_of_item g l is ar c k above lt within =
    let item = item_at g l ar c k above lt within in
    let cross = crossing_of g is (slice_index (cluster_list l c) k) c item.edge lt item.left in
    sym (list_of_border g l ar (slice_index (cluster_list l c) k) (position_or_len (λ x. x == c)
    (crossings g (slice_index (cluster_list l c) k))) item.edge cross.within)

-- the first border edge, and where the border edges of a cluster begin and end
pub start_first : (g : Clustered) (l : Layout) (sum : ℕ) → sum ≡ sum_below (crossed g) (edges g) →
    2 * (edges g + sum) ≡ 2 * first_border_edge g l 1
start_first g l sum is = omega arith

-- the border edges of the next cluster begin behind those of this one
pub start_next : (g : Clustered) (l : Layout) (c start count : ℕ) → 0 < c → start ≡ 2 * first_border_edge g l c →
    count ≡ length (cluster_list l c) → start + 2 * count ≡ 2 * first_border_edge g l (c + 1)
start_next g l c start count above is size =
    let more : sum_below (border_length l) (suc (c - 1)) ≡ sum_below (border_length l) (c + 1 - 1) =
    ap (sum_below (border_length l)) (let h : suc (c - 1) ≡ c + 1 - 1 = omega arith in h) in
    let this : border_length l (c - 1) ≡ length (cluster_list l c) =
    ap (λ (m : ℕ). length (cluster_list l m)) (let h : c - 1 + 1 ≡ c = omega arith in h) in
    omega arith

-- where the border edges of a cluster begin is a small number
pub start-lt : (g : Clustered) (l : Layout) → IsClustered g → IsArranged g l → (c start : ℕ) → c ≤ clusters g →
    edges g < 2 ^ 60 → nodes g + sum_below (crossed g) (edges g) < 2 ^ 59 → start ≡ 2 * first_border_edge g l c →
    start < 2 ^ 62
start-lt g l is ar c start lt few size at =
    let all : sum_below (border_length l) (c - 1) ≤ sum_below (border_length l) (length g.parents) =
    sum_below-le (border_length l) (c - 1) (length g.parents) (omega arith) in
    omega (arith, border_edges-vertices g l is ar)

-- the darts of the border edges are few
pub border_dart-lt : (g : Clustered) (l : Layout) → IsClustered g → IsArranged g l → (c k : ℕ) → 0 < c →
    c < clusters g →
    k < length (cluster_list l c) → edges g + 2 * sum_below (crossed g) (edges g) < 2 ^ 59
    → 2 * (first_border_edge g l c + k) + 1 < 2 ^ 60
border_dart-lt g l is ar c k above lt within few =
    omega (arith, (begin_dart-lt g l c k above lt within).1, border_edges-vertices g l is ar)

-- the front of a list, by its length
pub take_front : (n : ℕ) (xs ys : List ℕ) → n ≡ length xs → take n (xs ++ ys) ≡ xs
take_front n xs ys e = ap (λ (k : ℕ). take k (xs ++ ys)) e ∙ front xs ys
  where
    -- the front of two lists is the first list
    front : (xs ys : List ℕ) → take (length xs) (xs ++ ys) ≡ xs
    front [] ys = refl
    front (x ∷ xs) ys = ap (λ (zs : List ℕ). x ∷ zs) (front xs ys)

-- the items of a node's list are darts of the graph
pub node_item-lt : (g : Clustered) (l : Layout) → IsArranged g l → (i : ℕ) (xs : List ℕ) → i < length l.nodes →
    xs ≡ node_list l i → (k : ℕ) → k < length xs → slice_index xs k < 2 * edges g
node_item-lt g l ar i xs lt same k within =
    let right = ((ar.nodes_right i).present ((ar.nodes_right i).expected lt)).1 in
    let P : List ℕ → Type 0 = λ ys. (j : ℕ) → j < length ys → slice_index ys j < 2 * edges g in
    subst P (sym same) (λ j ltj. (right.each_passes j ltj).0) k within
