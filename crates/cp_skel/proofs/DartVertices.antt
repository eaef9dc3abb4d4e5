-- Where the darts of the segments stand in the skeletons.
use Rattle.std.proofs.Common.{◌≡◌, ◌≢◌, ℕ, zero, suc, ◌+◌, ◌*◌, ◌/◌, ◌%◌, ◌<◌, Bool, true, List, [], ◌∷◌, ◌++◌, length, length-append, slice_index, sym, refl, ap, ◌∙◌, subst, ⊎_elim, arith}
use Rattle.std.specs.Prelude.{not, slice_index_or, ◌==◌}
use Rattle.std.specs.List.{flat_map}
use Rattle.std.proofs.lemmas.Bool.{cases_Bool, cases_eq, cond-false, cond-true, eq-eqb, false≢true, ne_eqb}
use Rattle.std.proofs.lemmas.List.{get_or_append_left, get_or_at}
use Rattle.cp_lists.specs.CyclicLists.{Has}
use Rattle.cp_cgraph.specs.Clustered.{Clustered, IsClustered, clusters, edges, node_of, source, target}
use Rattle.cp_cgraph.specs.Crossings.{contains, crossings, leaves}
use Rattle.cp_border.specs.Borders.{crossed, end_dart, first_segment}
use Rattle.cp_border.proofs.Darts.{segment_size, segment_sizes, toward_source, toward_target}
use Rattle.cp_border.proofs.Numbering.{piece_at}
use Rattle.cp_border.proofs.Rotation.{IsCrossing, crossing_of, end_source, end_target}
use Rattle.cp_skel.specs.SkeletonLists.{crossing_place, dart_before, dart_behind, in_dart, out_dart}
use Rattle.cp_skel.specs.declared.vertex.Vertex.{Vertex}
use Rattle.cp_skel.specs.declared.vertex.Vertex.TheVariants.{Child, Node, Outside}
use Rattle.cp_skel.specs.Skeletons.{begins_at_border, dart_vertex, edge_vertices, ends_at_border, kept_segments}
use Rattle.cp_skel.proofs.KeptSegments.{IsSegmentOf, segment-kept}

-- two items for each of a list
abbrev twos : (ℕ → Vertex) → (ℕ → Vertex) → List ℕ → List Vertex
twos A B cs = flat_map (λ c. A c ∷ B c ∷ []) cs

-- are twice as many
length-twos : (A B : ℕ → Vertex) (cs : List ℕ) → length (twos A B cs) ≡ 2 * length cs
length-twos A B [] = refl
length-twos A B (c ∷ cs) = omega (arith, length-twos A B cs)

-- the first of an item
twos_first : (A B : ℕ → Vertex) (cs : List ℕ) (i : ℕ) (d : Vertex) → i < length cs
    → slice_index_or (twos A B cs) (2 * i) d ≡ A (slice_index cs i)
twos_first A B [] i d lt = absurd (omega arith)
twos_first A B (c ∷ cs) zero d lt = refl
twos_first A B (c ∷ cs) (suc i) d lt =
    ap (λ (m : ℕ). slice_index_or (twos A B (c ∷ cs)) m d) (let h : 2 * suc i ≡ suc (suc (2 * i)) = omega arith in h)
    ∙ twos_first A B cs i d (omega arith)

-- and the second
twos_second : (A B : ℕ → Vertex) (cs : List ℕ) (i : ℕ) (d : Vertex) → i < length cs
    → slice_index_or (twos A B cs) (suc (2 * i)) d ≡ B (slice_index cs i)
twos_second A B [] i d lt = absurd (omega arith)
twos_second A B (c ∷ cs) zero d lt = refl
twos_second A B (c ∷ cs) (suc i) d lt =
    ap (λ (m : ℕ). slice_index_or (twos A B (c ∷ cs)) m d)
    (let h : suc (2 * suc i) ≡ suc (suc (suc (2 * i))) = omega arith in h)
    ∙ twos_second A B cs i d (omega arith)

-- the vertices of the darts of the segments of an edge, but the first and the last
abbrev inner_vertices : Clustered → ℕ → List Vertex
inner_vertices g e = twos (ends_at_border g e) (begins_at_border g e) (crossings g e)

-- as many vertices as darts
length-edge_vertices : (g : Clustered) (e : ℕ) → length (edge_vertices g e) ≡ segment_size g e
length-edge_vertices g e =
    let inner : length (inner_vertices g e) ≡ 2 * crossed g e =
    length-twos (ends_at_border g e) (begins_at_border g e) (crossings g e) in
    let whole : length (inner_vertices g e ++ Node (target g e) ∷ []) ≡ length (inner_vertices g e) + 1 =
    length-append (inner_vertices g e) (Node (target g e) ∷ []) in
    ap suc whole ∙ (let h : suc (length (inner_vertices g e) + 1) ≡ 2 * (crossed g e + 1) = omega (arith, inner) in h)

-- the vertex of dart j of the segments of edge e
edge_dart : (g : Clustered) (e j : ℕ) → e < edges g → j < segment_size g e
    → dart_vertex g (2 * first_segment g e + j) ≡ slice_index_or (edge_vertices g e) j (Node 0)
edge_dart g e j lt within =
    ap (dart_vertex g) (let h = segment_sizes g e in ap (λ (m : ℕ). m + j) (sym h))
    ∙ piece_at (edge_vertices g) (segment_size g) 0 (edges g) e j (Node 0)
    (λ k less. ap (λ (m : ℕ). length (edge_vertices g m)) (let h : 0 + k ≡ k = omega arith in h)
    ∙ length-edge_vertices g k) lt within
    ∙ ap (λ (m : ℕ). slice_index_or (edge_vertices g m) j (Node 0)) (let h : 0 + e ≡ e = omega arith in h)

-- the first dart of an edge stands at its source
pub source_vertex : (g : Clustered) (e : ℕ) → e < edges g → dart_vertex g (2 * first_segment g e) ≡ Node (source g e)
source_vertex g e lt =
    ap (dart_vertex g) (let h : 2 * first_segment g e ≡ 2 * first_segment g e + 0 = omega arith in h)
    ∙ edge_dart g e 0 lt (omega arith)

-- the last one at its target
pub target_vertex : (g : Clustered) (e : ℕ) → e < edges g
    → dart_vertex g (2 * (first_segment g e + crossed g e) + 1) ≡ Node (target g e)
target_vertex g e lt =
    let inner : length (inner_vertices g e) ≡ 2 * crossed g e =
    length-twos (ends_at_border g e) (begins_at_border g e) (crossings g e) in
    ap (dart_vertex g) (let h : 2 * (first_segment g e + crossed g e) + 1
    ≡ 2 * first_segment g e + suc (2 * crossed g e) = omega arith in h)
    ∙ edge_dart g e (suc (2 * crossed g e)) lt (omega arith)
    ∙ get_or_at (inner_vertices g e) (Node (target g e)) [] (Node 0) (2 * crossed g e) inner

-- the dart that ends at a border
pub ends_vertex : (g : Clustered) (e i : ℕ) → e < edges g → i < crossed g e
    → dart_vertex g (toward_source g e i) ≡ ends_at_border g e (slice_index (crossings g e) i)
ends_vertex g e i lt within =
    let inner : length (inner_vertices g e) ≡ 2 * crossed g e =
    length-twos (ends_at_border g e) (begins_at_border g e) (crossings g e) in
    ap (dart_vertex g)
    (let h : toward_source g e i ≡ 2 * first_segment g e + suc (2 * i) = omega arith in h)
    ∙ edge_dart g e (suc (2 * i)) lt (omega arith)
    ∙ get_or_append_left (inner_vertices g e) (Node (target g e) ∷ []) (Node 0) (2 * i) (omega (arith, inner))
    ∙ twos_first (ends_at_border g e) (begins_at_border g e) (crossings g e) i (Node 0) within

-- the dart that begins there
pub begins_vertex : (g : Clustered) (e i : ℕ) → e < edges g → i < crossed g e
    → dart_vertex g (toward_target g e i) ≡ begins_at_border g e (slice_index (crossings g e) i)
begins_vertex g e i lt within =
    let inner : length (inner_vertices g e) ≡ 2 * crossed g e =
    length-twos (ends_at_border g e) (begins_at_border g e) (crossings g e) in
    ap (dart_vertex g)
    (let h : toward_target g e i ≡ 2 * first_segment g e + suc (suc (2 * i)) = omega arith in h)
    ∙ edge_dart g e (suc (suc (2 * i))) lt (omega arith)
    ∙ get_or_append_left (inner_vertices g e) (Node (target g e) ∷ []) (Node 0) (suc (2 * i)) (omega (arith, inner))
    ∙ twos_second (ends_at_border g e) (begins_at_border g e) (crossings g e) i (Node 0) within

-- an edge that leaves a cluster is no loop
pub leaves-no_loop : (g : Clustered) (c e : ℕ) → leaves g c e ≡ true → source g e ≢ target g e
leaves-no_loop g c e left same =
    let s : Bool = contains g c (source g e) in
    let t : Bool = contains g c (target g e) in
    let one : s ≡ t = ap (contains g c) same in
    ⊎_elim
    (λ inner. false≢true (sym (cond-true s (not t) t inner ∙ ap not (sym one ∙ inner)) ∙ left))
    (λ outer. false≢true (sym (cond-false s (not t) t outer ∙ sym one ∙ outer) ∙ left))
    (cases_Bool (contains g c (source g e)))

-- dart d stands at vertex p, and is one of edge e, which is no loop
pub record StandsAt (g : Clustered) (d e : ℕ) (p : Vertex) : Type 0 where
  pub place : ℕ
  pub of : IsSegmentOf g (d / 2) e place
  pub at : dart_vertex g d ≡ p

-- the darts at nodes
pub end_dart-StandsAt : (g : Clustered) (x : ℕ) → x < 2 * edges g → source g (x / 2) ≢ target g (x / 2)
    → StandsAt g (end_dart g x) (x / 2) (Node (node_of g x))
end_dart-StandsAt g x lt ne =
    let e : ℕ = x / 2 in
    ⊎_elim
    (λ even. record {
      place = 0;
      of = record {
        edge = omega arith;
        no_loop = ne;
        within = omega arith;
        is = ap (λ (m : ℕ). m / 2) (end_source g x even)
            ∙ (let h : 2 * first_segment g (x / 2) / 2 ≡ first_segment g (x / 2) + 0 = omega arith in h);
      };
      at = ap (dart_vertex g) (end_source g x even) ∙ source_vertex g e (omega arith)
          ∙ ap Node (sym (cond-true (x % 2 == 0) (source g e) (target g e) (eq-eqb (x % 2) 0 even)));
    })
    (λ odd. record {
      place = crossed g e;
      of = record {
        edge = omega arith;
        no_loop = ne;
        within = omega arith;
        is = ap (λ (m : ℕ). m / 2) (end_target g x odd)
            ∙ (let h : (2 * (first_segment g (x / 2) + crossed g (x / 2)) + 1) / 2
            ≡ first_segment g (x / 2) + crossed g (x / 2) = omega arith in h);
      };
      at = ap (dart_vertex g) (end_target g x odd) ∙ target_vertex g e (omega arith)
          ∙ ap Node (sym (cond-false (x % 2 == 0) (source g e) (target g e) (ne_eqb (x % 2) 0 odd)));
    })
    (cases_eq (x % 2) 0)

-- the darts at borders
module _ (g : Clustered) (is : IsClustered g) (c e : ℕ) (lt : e < edges g) (cluster : c < clusters g)
    (left : leaves g c e ≡ true) where
  -- where the edge crosses the border
  crossing : IsCrossing g e (crossing_place g e c) c
  crossing = crossing_of g is e c lt cluster left

  -- the dart of the segment that ends there
  before-StandsAt : StandsAt g (dart_before g c e) e (ends_at_border g e c)
  before-StandsAt =
      let i : ℕ = crossing_place g e c in
      record {
        place = i;
        of = record {
          edge = lt;
          no_loop = leaves-no_loop g c e left;
          within = omega (arith, crossing.within);
          is = let h : (2 * (first_segment g e + i) + 1) / 2 ≡ first_segment g e + i = omega arith in h;
        };
        at = ends_vertex g e i lt crossing.within ∙ ap (ends_at_border g e) crossing.is;
      }

  -- and of the one that begins there
  behind-StandsAt : StandsAt g (dart_behind g c e) e (begins_at_border g e c)
  behind-StandsAt =
      let i : ℕ = crossing_place g e c in
      record {
        place = i + 1;
        of = record {
          edge = lt;
          no_loop = leaves-no_loop g c e left;
          within = omega (arith, crossing.within);
          is = let h : 2 * (first_segment g e + i + 1) / 2 ≡ first_segment g e + (i + 1) = omega arith in h;
        };
        at = begins_vertex g e i lt crossing.within ∙ ap (begins_at_border g e) crossing.is;
      }

  -- the dart inside stands at the vertex for the outside
  pub in_dart-StandsAt : StandsAt g (in_dart g c e) e (Outside c)
  in_dart-StandsAt =
      let b : Bool = contains g c (source g e) in
      let x : ℕ = dart_before g c e in
      let y : ℕ = dart_behind g c e in
      ⊎_elim
      (λ t. subst (λ (d : ℕ). StandsAt g d e (Outside c)) (sym (cond-true b x y t))
      (subst (StandsAt g x e) (cond-true b (Outside c) (Child c) t) before-StandsAt))
      (λ t. subst (λ (d : ℕ). StandsAt g d e (Outside c)) (sym (cond-false b x y t))
      (subst (StandsAt g y e) (cond-false b (Child c) (Outside c) t) behind-StandsAt))
      (cases_Bool b)

  -- the dart outside at the vertex for the cluster
  pub out_dart-StandsAt : StandsAt g (out_dart g c e) e (Child c)
  out_dart-StandsAt =
      let b : Bool = contains g c (source g e) in
      let x : ℕ = dart_before g c e in
      let y : ℕ = dart_behind g c e in
      ⊎_elim
      (λ t. subst (λ (d : ℕ). StandsAt g d e (Child c)) (sym (cond-true b y x t))
      (subst (StandsAt g y e) (cond-true b (Child c) (Outside c) t) behind-StandsAt))
      (λ t. subst (λ (d : ℕ). StandsAt g d e (Child c)) (sym (cond-false b y x t))
      (subst (StandsAt g x e) (cond-false b (Outside c) (Child c) t) before-StandsAt))
      (cases_Bool b)

-- the segment of a dart that stands somewhere is kept
pub StandsAt-kept : (g : Clustered) (d e : ℕ) (p : Vertex) → StandsAt g d e p → Has (d / 2) (kept_segments g)
StandsAt-kept g d e p s = segment-kept g (d / 2) e s.place s.of
