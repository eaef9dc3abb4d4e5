-- The table of the next dart and that of the first darts, written vertex by vertex.
use Rattle.std.proofs.Common.{◌≡◌, ◌≢◌, ℕ, ◌+◌, ◌-◌, ◌<◌, ◌≤◌, List, length, set, slice_index, sym, refl, ap, ◌∙◌, subst, ⊎_elim, arith}
use Rattle.std.specs.List.{Contains}
use Rattle.std.proofs.lemmas.Bool.{cases_eq, cases_lt}
use Rattle.std.proofs.lemmas.List.{get_or-set_same, get_or-set_other}
use Rattle.cp_lists.proofs.ExactLists.{EachOnce, place_of}
use Rattle.cp_cgraph.specs.Clustered.{Clustered, IsClustered, nodes, edges, clusters}
use Rattle.cp_cgraph.specs.Crossings.{crossings}
use Rattle.cp_cgraph.specs.declared.layout.Layout.{Layout}
use Rattle.cp_rot.specs.Systems.{System, IsRotation, darts, list_of, next, place_after, vertex_of}
use Rattle.cp_rot.proofs.Rotations.{in_list, item_stands, next_of_item}
use Rattle.cp_border.specs.Borders.{borders, sum_below, cluster_list, crossed, first_border, border_vertex}
use Rattle.cp_border.specs.Good.{IsArranged}
use Rattle.cp_border.specs.Tables.{list_at, border_at}
use Rattle.cp_border.specs.Views.{HasTurn, IsViewed, IsViewedUpto}
use Rattle.cp_border.proofs.Numbering.{Place, located}
use Rattle.cp_border.proofs.Rotation.{IsCrossing, crossing_at, item_of}
use Rattle.cp_border.proofs.RotationLaw.{IsRotation-borders, place_on_border}
use Rattle.cp_border.proofs.ListLaws.{border_at-lt, list_of_item}

-- behind each item is written the one behind it, and elsewhere the table is as before
pub record IsWritten (items table after : List ℕ) : Type 0 where
  pub written : (i : ℕ) → i < length items →
      slice_index after (slice_index items i) ≡ slice_index items (place_after (length items) i)
  pub others : (d : ℕ) → ((i : ℕ) → i < length items → slice_index items i ≢ d) →
      slice_index after d ≡ slice_index table d

-- the list of a vertex is written
turned : (r : System) → IsRotation r → (v : ℕ) (table after : List ℕ) → v < r.vertices →
    IsWritten (list_of r v) table after → HasTurn r after v
turned r is v table after lt w d within e =
    let h = place_of (list_of r v) d (subst (λ u. Contains (list_of r u) d) e (in_list r is d within)) in
    ap (slice_index after) (sym h.2) ∙ w.written h.0 h.1 ∙ sym (next_of_item r is v h.0 lt h.1) ∙ ap (next r) h.2

-- and what was written at any vertex stays
turn_kept : (r : System) → IsRotation r → (v u : ℕ) (table after : List ℕ) → v < r.vertices →
    IsWritten (list_of r v) table after → HasTurn r table u → HasTurn r after u
turn_kept r is v u table after lt w had d within e =
    ⊎_elim
    (λ same. turned r is v table after lt w d within (e ∙ same))
    (λ ne. w.others d (λ i lti item. ne (sym e ∙ ap (vertex_of r) (sym item) ∙ (item_stands r is v i lt lti).1))
    ∙ had d within e)
    (cases_eq u v)

-- the list by another name
pub HasTurn-written : (r : System) → IsRotation r → (v : ℕ) (table after items : List ℕ) → v < r.vertices →
    items ≡ list_of r v → IsWritten items table after → HasTurn r after v
HasTurn-written r is v table after items lt same w =
    turned r is v table after lt (subst (λ xs. IsWritten xs table after) same w)

-- and what was written at another vertex stays
pub HasTurn-kept : (r : System) → IsRotation r → (v u : ℕ) (table after items : List ℕ) → v < r.vertices →
    items ≡ list_of r v → IsWritten items table after → HasTurn r table u → HasTurn r after u
HasTurn-kept r is v u table after items lt same w =
    turn_kept r is v u table after lt (subst (λ xs. IsWritten xs table after) same w)

-- one vertex more, where vertices are taken by number
pub turned_more : (r : System) → IsRotation r → (v : ℕ) (table after items : List ℕ) → v < r.vertices →
    items ≡ list_of r v → IsWritten items table after → ((u : ℕ) → u < v → HasTurn r table u) → (u : ℕ) → u < v + 1 →
    HasTurn r after u
turned_more r is v table after items lt same w had u less =
    ⊎_elim
    (λ e. subst (HasTurn r after) (sym e) (HasTurn-written r is v table after items lt same w))
    (λ ne. HasTurn-kept r is v u table after items lt same w (had u (omega arith)))
    (cases_eq u v)

-- the darts of the list of a vertex are darts, each once
pub list_within : (r : System) → IsRotation r → (v : ℕ) (items : List ℕ) → v < r.vertices → items ≡ list_of r v →
    (i : ℕ) → i < length items → slice_index items i < darts r
list_within r is v items lt same =
    let P : List ℕ → Type 0 = λ xs. (i : ℕ) → i < length xs → slice_index xs i < darts r in
    subst P (sym same) (λ i lti. (item_stands r is v i lt lti).0)

-- and each of them stands there once
pub list_once : (r : System) → IsRotation r → (v : ℕ) (items : List ℕ) → v < r.vertices → items ≡ list_of r v →
    EachOnce items
list_once r is v items lt same = subst EachOnce (sym same) (is.arranged v lt).each_once

-- a first dart that is noted keeps those of the other vertices
begin_kept : (g : Clustered) (l : Layout) (begins : List ℕ) (v w x : ℕ) → nodes g ≤ v → nodes g ≤ w →
    v - nodes g < length begins → x ≡ slice_index (list_of (borders g l) v) 0 →
    slice_index begins (w - nodes g) ≡ slice_index (list_of (borders g l) w) 0 →
    slice_index (set begins (v - nodes g) x) (w - nodes g) ≡ slice_index (list_of (borders g l) w) 0
begin_kept g l begins v w x low_v low_w lt is had =
    ⊎_elim
    (λ e. ap (slice_index (set begins (v - nodes g) x)) e ∙ get_or-set_same begins (v - nodes g) x 0 lt ∙ is
    ∙ ap (λ (u : ℕ). slice_index (list_of (borders g l) u) 0) (let h : v ≡ w = omega arith in h))
    (λ ne. get_or-set_other begins (v - nodes g) (w - nodes g) x 0 ne ∙ had)
    (cases_eq (w - nodes g) (v - nodes g))

-- at the start of the first cluster
pub IsViewedUpto-first : (g : Clustered) (l : Layout) (table begins : List ℕ) →
    ((v : ℕ) → v < nodes g → HasTurn (borders g l) table v) → IsViewedUpto g l 1 0 table begins
IsViewedUpto-first g l table begins had = record {
  nodes_turned = had;
  borders_viewed = record { earlier = λ b j above lt. absurd (omega arith); here = λ j lt. absurd (omega arith) };
}

-- the next border vertex
pub IsViewedUpto-more : (g : Clustered) (l : Layout) → IsClustered g → IsArranged g l →
    (c k : ℕ) (table after begins items : List ℕ) (x : ℕ) → 0 < c → c < clusters g → k < length (cluster_list l c) →
    sum_below (crossed g) (edges g) ≤ length begins → items ≡ list_at g l c k → IsWritten items table after →
    x ≡ slice_index items 0 → IsViewedUpto g l c k table begins →
    IsViewedUpto g l c (k + 1) after (set begins (border_at g l c k - nodes g) x)
IsViewedUpto-more g l is ar c k table after begins items x above lt within room same w begin so =
    let r : IsRotation (borders g l) = IsRotation-borders g l is ar in
    let low : border_at g l c k < first_border g (edges g) = border_at-lt g l is ar c k above lt within in
    let slot : border_at g l c k - nodes g < length begins = omega arith in
    let list : items ≡ list_of (borders g l) (border_at g l c k) = same ∙ list_of_item g l is ar c k above lt within in
    let head : x ≡ slice_index (list_of (borders g l) (border_at g l c k)) 0 = begin
    ∙ ap (λ (xs : List ℕ). slice_index xs 0) list in
    let keep : (b j : ℕ) → IsViewed g l table begins (border_at g l b j)
    → IsViewed g l after (set begins (border_at g l c k - nodes g) x) (border_at g l b j) = λ b j had. record {
      turn = HasTurn-kept (borders g l) r (border_at g l c k) (border_at g l b j) table after items low list w had.turn;
      begin = begin_kept g l begins (border_at g l c k) (border_at g l b j) x (omega arith) (omega arith) slot head
          had.begin;
    } in
    let this : IsViewed g l after (set begins (border_at g l c k - nodes g) x) (border_at g l c k) = record {
      turn = HasTurn-written (borders g l) r (border_at g l c k) table after items low list w;
      begin = get_or-set_same begins (border_at g l c k - nodes g) x 0 slot ∙ head;
    } in
    record {
      nodes_turned = λ v node. HasTurn-kept (borders g l) r (border_at g l c k) v table after items low list w
          (so.nodes_turned v node);
      borders_viewed = record {
        earlier = λ b j ab lb lj. keep b j (so.borders_viewed.earlier b j ab lb lj);
        here = λ j lj. ⊎_elim
            (λ e. subst (λ i. IsViewed g l after (set begins (border_at g l c k - nodes g) x) (border_at g l c i))
            (sym e) this)
            (λ ne. keep c j (so.borders_viewed.here j (omega arith)))
            (cases_eq j k);
      };
    }

-- the next cluster
pub IsViewedUpto-next : (g : Clustered) (l : Layout) (c k : ℕ) (table begins : List ℕ) → k ≡ length (cluster_list l c) →
    IsViewedUpto g l c k table begins → IsViewedUpto g l (c + 1) 0 table begins
IsViewedUpto-next g l c k table begins all so = record {
  nodes_turned = so.nodes_turned;
  borders_viewed = record {
    earlier = λ b j above lt within. ⊎_elim
        (λ e. subst (λ i. IsViewed g l table begins (border_at g l i j)) (sym e)
        (so.borders_viewed.here j (omega (arith, ap (λ (i : ℕ). length (cluster_list l i)) e))))
        (λ ne. so.borders_viewed.earlier b j above (omega arith) within)
        (cases_eq b c);
    here = λ j lt. absurd (omega arith);
  };
}

-- each border vertex is that of an item
viewed_at : (g : Clustered) (l : Layout) → IsClustered g → IsArranged g l → (table begins : List ℕ) →
    IsViewedUpto g l (clusters g) 0 table begins → (e i : ℕ) → e < edges g → i < crossed g e →
    IsViewed g l table begins (first_border g e + i)
viewed_at g l is ar table begins so e i lt within =
    let c : ℕ = slice_index (crossings g e) i in
    let cross : IsCrossing g e i (slice_index (crossings g e) i) = crossing_at g is e i lt within in
    let item = item_of g l ar (slice_index (crossings g e) i) e cross.above cross.cluster lt cross.left in
    let vertex : border_at g l (slice_index (crossings g e) i) (place_on_border g l e i) ≡ first_border g e + i =
    ap (λ (m : ℕ). border_vertex g m (slice_index (crossings g e) i)) item.is
    ∙ ap (λ (m : ℕ). first_border g e + m) cross.place_is in
    subst (IsViewed g l table begins) vertex (so.borders_viewed.earlier (slice_index (crossings g e) i)
    (place_on_border g l e i) cross.above cross.cluster item.within)

-- so each border vertex is written
pub viewed_vertex : (g : Clustered) (l : Layout) → IsClustered g → IsArranged g l → (table begins : List ℕ) →
    IsViewedUpto g l (clusters g) 0 table begins → (v : ℕ) → nodes g ≤ v → v < first_border g (edges g) →
    IsViewed g l table begins v
viewed_vertex g l is ar table begins so v low lt =
    let p : Place (crossed g) (edges g) (v - nodes g) = located (crossed g) (edges g) (v - nodes g) (omega arith) in
    let vertex : first_border g p.piece + p.place ≡ v = omega (arith, p.is) in
    subst (IsViewed g l table begins) vertex (viewed_at g l is ar table begins so p.piece p.place p.is_piece p.is_place)

-- so the table tells the next dart of each dart
pub next_told : (g : Clustered) (l : Layout) → IsClustered g → IsArranged g l → (table begins : List ℕ) →
    IsViewedUpto g l (clusters g) 0 table begins → (d : ℕ) → d < darts (borders g l) →
    slice_index table d ≡ next (borders g l) d
next_told g l is ar table begins so d lt =
    ⊎_elim
    (λ node. so.nodes_turned (vertex_of (borders g l) d) node d lt refl)
    (λ border. (viewed_vertex g l is ar table begins so (vertex_of (borders g l) d) border
    ((IsRotation-borders g l is ar).placed d lt)).turn d lt refl)
    (cases_lt (vertex_of (borders g l) d) (nodes g))

-- a node is a vertex
pub node-lt : (g : Clustered) (v : ℕ) → v < nodes g → v < first_border g (edges g)
node-lt g v lt = omega arith
