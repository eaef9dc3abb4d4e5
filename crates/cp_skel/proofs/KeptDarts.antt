-- The darts of the segments that are kept: at nodes, inside borders and outside; and no such segment is a loop.
use Rattle.std.proofs.Common.{◌≡◌, ◌≢◌, true, false, ℕ, ◌+◌, ◌-◌, ◌*◌, ◌/◌, ◌%◌, ◌<◌, Bool, cond, sym, refl, ap, ◌∙◌, subst, slice_index, ⊎_elim, arith}
use Rattle.std.proofs.lemmas.Bool.{cases_Bool, cases_eq, cond-false, cond-true}
use Rattle.cp_lists.specs.CyclicLists.{Has}
use Rattle.cp_cgraph.specs.Clustered.{Clustered, IsClustered, clusters, edges, source, target}
use Rattle.cp_cgraph.specs.Crossings.{contains, crossings, leaves}
use Rattle.cp_border.specs.Borders.{crossed, end_dart, first_segment}
use Rattle.cp_border.proofs.Darts.{toward_source, toward_target}
use Rattle.cp_border.proofs.Rotation.{IsCrossing, crossing_at, end_source, end_target}
use Rattle.cp_skel.specs.SkeletonLists.{crossing_place, dart_before, dart_behind, in_dart, out_dart}
use Rattle.cp_skel.specs.declared.vertex.Vertex.TheVariants.{Child, Node, Outside}
use Rattle.cp_skel.specs.Skeletons.{begins_at_border, dart_vertex, ends_at_border, kept_segments}
use Rattle.cp_skel.proofs.DartVertices.{begins_vertex, ends_vertex, source_vertex, target_vertex}
use Rattle.cp_skel.proofs.KeptSegments.{IsSegmentOf, kept-segment}
use Rattle.cp_skel.proofs.VertexKinds.{kind, number}

-- what a dart of a segment is
pub data DartKind (g : Clustered) (d : ℕ) : Type 0 where
  at_node : (x : ℕ) → x < 2 * edges g → source g (x / 2) ≢ target g (x / 2) → d ≡ end_dart g x → DartKind g d
  inside : (c e : ℕ) → 0 < c → c < clusters g → e < edges g → leaves g c e ≡ true → d ≡ in_dart g c e → DartKind g d
  outside : (c e : ℕ) → 0 < c → c < clusters g → e < edges g → leaves g c e ≡ true → d ≡ out_dart g c e → DartKind g d

-- the dart of a segment that ends at a border
before_kind : (g : Clustered) → IsClustered g → (d e i : ℕ) → e < edges g → i < crossed g e → d ≡ toward_source g e i
    → DartKind g d
before_kind g is d e i lt within at =
    let c : ℕ = slice_index (crossings g e) i in
    let cross : IsCrossing g e i c = crossing_at g is e i lt within in
    let same : d ≡ dart_before g c e = at ∙ ap (λ (j : ℕ). 2 * (first_segment g e + j) + 1) (sym cross.place_is) in
    let b : Bool = contains g c (source g e) in
    let x : ℕ = dart_before g c e in
    let y : ℕ = dart_behind g c e in
    ⊎_elim
    (λ t. inside c e cross.above cross.cluster lt cross.left (same ∙ sym (cond-true b x y t)))
    (λ t. outside c e cross.above cross.cluster lt cross.left (same ∙ sym (cond-false b y x t)))
    (cases_Bool b)

-- and of one that begins there
behind_kind : (g : Clustered) → IsClustered g → (d e i : ℕ) → e < edges g → i < crossed g e → d ≡ toward_target g e i
    → DartKind g d
behind_kind g is d e i lt within at =
    let c : ℕ = slice_index (crossings g e) i in
    let cross : IsCrossing g e i c = crossing_at g is e i lt within in
    let same : d ≡ dart_behind g c e = at ∙ ap (λ (j : ℕ). 2 * (first_segment g e + j + 1)) (sym cross.place_is) in
    let b : Bool = contains g c (source g e) in
    let x : ℕ = dart_before g c e in
    let y : ℕ = dart_behind g c e in
    ⊎_elim
    (λ t. outside c e cross.above cross.cluster lt cross.left (same ∙ sym (cond-true b y x t)))
    (λ t. inside c e cross.above cross.cluster lt cross.left (same ∙ sym (cond-false b x y t)))
    (cases_Bool b)

-- the first dart of an edge
pub first_end : (g : Clustered) (e : ℕ) → end_dart g (2 * e) ≡ 2 * first_segment g e
first_end g e = end_source g (2 * e) (omega arith)
    ∙ ap (λ (m : ℕ). 2 * first_segment g m) (let h : 2 * e / 2 ≡ e = omega arith in h)

-- the second
pub second_end : (g : Clustered) (e : ℕ) → end_dart g (2 * e + 1) ≡ 2 * (first_segment g e + crossed g e) + 1
second_end g e = end_target g (2 * e + 1) (λ z. omega arith)
    ∙ ap (λ (m : ℕ). 2 * (first_segment g m + crossed g m) + 1) (let h : (2 * e + 1) / 2 ≡ e = omega arith in h)

-- each dart of a segment that is kept is of one of three kinds
pub dart_kind : (g : Clustered) → IsClustered g → (d : ℕ) → Has (d / 2) (kept_segments g) → DartKind g d
dart_kind g is d h =
    let r = kept-segment g (d / 2) h in
    let e : ℕ = r.0 in
    let k : ℕ = r.1 in
    let of : IsSegmentOf g (d / 2) e k = r.2 in
    let first_half : 2 * r.0 / 2 ≡ r.0 = omega arith in
    let second_half : (2 * r.0 + 1) / 2 ≡ r.0 = omega arith in
    ⊎_elim
    (λ even. ⊎_elim
    (λ start. at_node (2 * e) (omega (arith, of.edge))
    (subst (λ (m : ℕ). source g m ≢ target g m) (sym first_half) of.no_loop)
    ((let h : d ≡ 2 * first_segment g r.0 = omega (arith, of.is, even, start) in h) ∙ sym (first_end g e)))
    (λ later. behind_kind g is d e (r.1 - 1) of.edge (omega (arith, of.within, later))
    (omega (arith, of.is, even, later)))
    (cases_eq r.1 0))
    (λ odd. ⊎_elim
    (λ last. at_node (2 * e + 1) (omega (arith, of.edge))
    (subst (λ (m : ℕ). source g m ≢ target g m) (sym second_half) of.no_loop)
    ((let h : d ≡ 2 * (first_segment g r.0 + crossed g r.0) + 1 = omega (arith, of.is, odd, last) in h)
    ∙ sym (second_end g e)))
    (λ earlier. before_kind g is d e r.1 of.edge (omega (arith, of.within, earlier)) (omega (arith, of.is, odd)))
    (cases_eq r.1 (crossed g r.0)))
    (cases_eq (d % 2) 0)

-- a vertex at a border is no node
kind_cond : (b : Bool) (c : ℕ)
    → (0 < kind (cond b (Child c) (Outside c))) × (0 < kind (cond b (Outside c) (Child c)))
kind_cond true c = (omega arith, omega arith)
kind_cond false c = (omega arith, omega arith)

-- and has the number of the cluster
number_cond : (b : Bool) (c : ℕ)
    → (number (cond b (Child c) (Outside c)) ≡ c) × (number (cond b (Outside c) (Child c)) ≡ c)
number_cond true c = (refl, refl)
number_cond false c = (refl, refl)

-- a segment of an edge that is no loop stands at two different vertices
pub segment-differ : (g : Clustered) → IsClustered g → (t e k : ℕ) → IsSegmentOf g t e k
    → dart_vertex g (2 * t) ≢ dart_vertex g (2 * t + 1)
segment-differ g is t e k of same =
    let ends_last : k ≡ crossed g e → dart_vertex g (2 * t + 1) ≡ Node (target g e) =
    λ last. ap (dart_vertex g) (let h : 2 * t + 1 ≡ 2 * (first_segment g e + crossed g e) + 1 =
    omega (arith, of.is, last) in h) ∙ target_vertex g e of.edge in
    let ends_inner : k ≢ crossed g e → dart_vertex g (2 * t + 1) ≡ ends_at_border g e (slice_index (crossings g e) k) =
    λ inner. ap (dart_vertex g) (let h : 2 * t + 1 ≡ toward_source g e k = omega (arith, of.is) in h)
    ∙ ends_vertex g e k of.edge (omega (arith, of.within, inner)) in
    ⊎_elim
    (λ first.
    let begin : dart_vertex g (2 * t) ≡ Node (source g e) =
    ap (dart_vertex g) (let h : 2 * t ≡ 2 * first_segment g e = omega (arith, of.is, first) in h)
    ∙ source_vertex g e of.edge in
    ⊎_elim
    (λ last. of.no_loop (ap number (sym begin ∙ same ∙ ends_last last)))
    (λ inner.
    let c : ℕ = slice_index (crossings g e) k in
    let one : 0 ≡ kind (ends_at_border g e c) = ap kind (sym begin ∙ same ∙ ends_inner inner) in
    let two = (kind_cond (contains g c (source g e)) c).1 in
    omega (arith, one, two))
    (cases_eq k (crossed g e)))
    (λ later.
    let i : ℕ = k - 1 in
    let b : ℕ = slice_index (crossings g e) (k - 1) in
    let within : k - 1 < crossed g e = omega (arith, of.within, later) in
    let begin : dart_vertex g (2 * t) ≡ begins_at_border g e b =
    ap (dart_vertex g) (let h : 2 * t ≡ toward_target g e (k - 1) = omega (arith, of.is, later) in h)
    ∙ begins_vertex g e (k - 1) of.edge within in
    ⊎_elim
    (λ last.
    let one : kind (begins_at_border g e b) ≡ 0 = ap kind (sym begin ∙ same ∙ ends_last last) in
    let two = (kind_cond (contains g b (source g e)) b).0 in
    omega (arith, one, two))
    (λ inner.
    let c : ℕ = slice_index (crossings g e) k in
    let equal : b ≡ c =
    sym (number_cond (contains g b (source g e)) b).0 ∙ ap number (sym begin ∙ same ∙ ends_inner inner)
    ∙ (number_cond (contains g c (source g e)) c).1 in
    let one = crossing_at g is e (k - 1) of.edge within in
    let two = crossing_at g is e k of.edge (omega (arith, of.within, inner)) in
    let places : k - 1 ≡ k = sym one.place_is ∙ ap (crossing_place g e) equal ∙ two.place_is in
    omega (arith, places, later))
    (cases_eq k (crossed g e)))
    (cases_eq k 0)
