-- A graph without clusters: its border graph is the graph itself, with the nodes' lists as rotation.
use Rattle.std.proofs.Common.{◌≡◌, ℕ, zero, suc, ◌+◌, ◌*◌, ◌/◌, ◌%◌, ◌<◌, ◌≢◌, cond, List, [], ◌∷◌, ◌++◌, length, map, slice_index, slice_index_or, sym, refl, ap, ap₂, ◌∙◌, subst, ⊎_elim, arith}
use Rattle.std.specs.Prelude.{◌==◌, ◌↔◌, filter, reverse, not}
use Rattle.std.specs.List.{flat_map, range_with_len}
use Rattle.std.proofs.lemmas.Bool.{cases_lt, cases_Bool, eqb-true, eqb-false}
use Rattle.std.proofs.lemmas.List.{get_or_past, append-nil}
use Rattle.cp_lists.specs.Count.{Exactly}
use Rattle.cp_lists.proofs.ExactLists.{Exactly-agree}
use Rattle.cp_cgraph.specs.Clustered.{Clustered, IsClustered, nodes, edges, clusters, source, target, home, node_of}
use Rattle.cp_cgraph.specs.Crossings.{around, crossings, contains, outward}
use Rattle.cp_cgraph.specs.declared.layout.Layout.{Layout}
use Rattle.cp_rot.specs.Systems.{System, IsRotation, Arranges}
use Rattle.cp_rot.specs.FirstWrong.{IsRightList, IsFirstWrong}
use Rattle.cp_border.specs.Borders.{borders, sum_below, crossed, node_list, first_border, first_segment, end_dart, segment_ends, border_ends, border_list}
use Rattle.cp_border.specs.Good.{IsRightNode, IsRightCluster, IsArranged, IsFirstWrongNode}
use Rattle.cp_border.proofs.Pieces.{flat_map_places, flat_map_empty, map_same}

-- the nodes at which the darts of a graph stand, edge by edge, source first
abbrev pub dart_nodes : List (ℕ × ℕ) → List ℕ
dart_nodes ends = flat_map (λ e. e.0 ∷ e.1 ∷ []) ends

-- each home is the root
plain_home : (g : Clustered) → IsClustered g → g.parents ≡ [] → (v : ℕ) → home g v ≡ 0
plain_home g is none v =
    let one : length g.parents ≡ 0 = ap length none in
    ⊎_elim
    (λ lt. let h : home g v < clusters g = is.home_is_cluster v lt in omega arith)
    (λ ge. get_or_past g.homes v 0 (omega (arith, is.one_home)))
    (cases_lt v (nodes g))

-- no cluster but the root contains a node
plain_around : (g : Clustered) → IsClustered g → g.parents ≡ [] → (v : ℕ) → around g v ≡ []
plain_around g is none v = ap (λ (h : ℕ). outward g.parents h h) (plain_home g is none v)

-- no edge crosses a border
pub plain_crossings : (g : Clustered) → IsClustered g → g.parents ≡ [] → (e : ℕ) → crossings g e ≡ []
plain_crossings g is none e =
    ap₂ (λ (xs ys : List ℕ). filter (λ c. not (contains g c (target g e))) xs ++ reverse
    (filter (λ c. not (contains g c (source g e))) ys)) (plain_around g is none (source g e))
    (plain_around g is none (target g e))

-- an edge of a graph with no cluster but the root crosses no border
pub plain_crossed : (g : Clustered) → IsClustered g → g.parents ≡ [] → (e : ℕ) → crossed g e ≡ 0
plain_crossed g is none e = ap length (plain_crossings g is none e)

-- a sum of nothing
sum_below-zero : (f : ℕ → ℕ) → ((x : ℕ) → f x ≡ 0) → (n : ℕ) → sum_below f n ≡ 0
sum_below-zero f none zero = refl
sum_below-zero f none (suc n) = omega (arith, sum_below-zero f none n, none n)

-- each edge is one segment, of the same number
plain_first_segment : (g : Clustered) → IsClustered g → g.parents ≡ [] → (e : ℕ) → first_segment g e ≡ e
plain_first_segment g is none e = omega (arith, sum_below-zero (crossed g) (plain_crossed g is none) e)

-- the dart of a segment that is an edge, by the side
side_dart : (d q c : ℕ) → q ≡ d / 2 → c ≡ 0 → cond (d % 2 == 0) (2 * q) (2 * (q + c) + 1) ≡ d
side_dart d q c half nothing =
    ⊎_elim
    (λ even. let r : d % 2 ≡ 0 = eqb-true (d % 2) 0 even in rw even (omega arith))
    (λ odd. let r : d % 2 ≢ 0 = eqb-false (d % 2) 0 odd in rw odd (omega arith))
    (cases_Bool (d % 2 == 0))

-- so each dart keeps its number
pub plain_end_dart : (g : Clustered) → IsClustered g → g.parents ≡ [] → (d : ℕ) → end_dart g d ≡ d
plain_end_dart g is none d = side_dart d (first_segment g (d / 2)) (crossed g (d / 2))
    (plain_first_segment g is none (d / 2)) (plain_crossed g is none (d / 2))

-- and runs between the nodes of the edge
plain_segment_ends : (g : Clustered) → IsClustered g → g.parents ≡ [] → (e : ℕ) →
    segment_ends g e ≡ source g e ∷ target g e ∷ []
plain_segment_ends g is none e =
    ap (λ (n : ℕ). source g e ∷ flat_map (λ (b : ℕ). b ∷ b ∷ []) (range_with_len (first_border g e) n) ++ target g e
    ∷ []) (plain_crossed g is none e)

-- the border graph of a graph without clusters is the graph, with the nodes' lists
pub borders-plain : (g : Clustered) (l : Layout) → IsClustered g → g.parents ≡ [] →
    borders g l ≡ record { vertices = nodes g; at = dart_nodes g.ends; lists = l.nodes }
borders-plain g l is none =
    let same_vertices : first_border g (edges g) ≡ nodes g =
    omega (arith, sum_below-zero (crossed g) (plain_crossed g is none) (edges g)) in
    let same_segments : flat_map (segment_ends g) (range_with_len 0 (edges g)) ≡ dart_nodes g.ends =
    flat_map_places (segment_ends g) (λ e. e.0 ∷ e.1 ∷ []) (0, 0) 0 g.ends
    (λ i lt. ap (segment_ends g) (let e : 0 + i ≡ i = omega arith in e) ∙ plain_segment_ends g is none i) in
    let no_borders : flat_map (border_ends g l) (range_with_len 1 (length g.parents)) ≡ [] =
    ap (λ (n : ℕ). flat_map (border_ends g l) (range_with_len 1 n)) (ap length none) in
    let same_lists : map (map (end_dart g)) l.nodes ≡ l.nodes =
    map_same (map (end_dart g)) l.nodes (λ xs. map_same (end_dart g) xs (plain_end_dart g is none)) in
    let no_lists : flat_map (λ e. map (border_list g l e) (range_with_len 0 (crossed g e))) (range_with_len 0 (edges g))
    ≡ [] =
    flat_map_empty (λ e. map (border_list g l e) (range_with_len 0 (crossed g e))) (range_with_len 0 (edges g))
    (λ e. ap (λ (n : ℕ). map (border_list g l e) (range_with_len 0 n)) (plain_crossed g is none e)) in
    let at_is : (borders g l).at ≡ dart_nodes g.ends = ap₂ (λ (p q : List ℕ). p ++ q) same_segments no_borders
    ∙ append-nil (dart_nodes g.ends) in
    let lists_is : (borders g l).lists ≡ l.nodes = ap₂ (λ (p q : List (List ℕ)). p ++ q) same_lists no_lists
    ∙ append-nil l.nodes in
    let first_two : borders g l ≡ record { vertices = nodes g; at = dart_nodes g.ends; lists = (borders g l).lists } =
    ap₂ (λ (v : ℕ) (xs : List ℕ). let s : System = record { vertices = v; at = xs; lists = (borders g l).lists } in s)
    same_vertices at_is in
    first_two ∙ ap (λ (xs : List (List ℕ)). let s : System =
    record { vertices = nodes g; at = dart_nodes g.ends; lists = xs } in s) lists_is

-- the darts are twice the edges
pub length-dart_nodes : (ends : List (ℕ × ℕ)) → length (dart_nodes ends) ≡ 2 * length ends
length-dart_nodes [] = refl
length-dart_nodes (e ∷ es) = let rest : length (dart_nodes es) ≡ 2 * length es = length-dart_nodes es in omega arith

-- where a dart stands, by the edge and the side
abbrev stands : List (ℕ × ℕ) → ℕ → ℕ
stands ends d = cond (d % 2 == 0) (slice_index_or ends (d / 2) (0, 0)).0 (slice_index_or ends (d / 2) (0, 0)).1

-- the node of a dart, in the list of the nodes of all darts
dart_nodes_at : (ends : List (ℕ × ℕ)) (d : ℕ) → slice_index (dart_nodes ends) d ≡ stands ends d
dart_nodes_at [] d = ⊎_elim (λ even. rw even refl) (λ odd. rw odd refl) (cases_Bool (d % 2 == 0))
dart_nodes_at (e ∷ es) zero = refl
dart_nodes_at (e ∷ es) (suc zero) = refl
dart_nodes_at (e ∷ es) (suc (suc d)) =
    let half : suc (suc d) / 2 ≡ suc (d / 2) = omega arith in
    let side : suc (suc d) % 2 ≡ d % 2 = omega arith in
    dart_nodes_at es d ∙ sym (ap₂ (λ (r q : ℕ). cond (r == 0) (slice_index_or (e ∷ es) q (0, 0)).0
    (slice_index_or (e ∷ es) q (0, 0)).1) side half)

-- the list of the darts' nodes gives the node of each dart
pub slice_index-dart_nodes : (g : Clustered) (d : ℕ) → slice_index (dart_nodes g.ends) d ≡ node_of g d
slice_index-dart_nodes g d = dart_nodes_at g.ends d

-- what is exact for the darts of a node in the graph is exact in the list
exact_there : (g : Clustered) (i : ℕ) (xs : List ℕ) → Exactly (2 * edges g) (λ d. node_of g d == i) xs →
    Arranges (dart_nodes g.ends) i xs
exact_there g i xs ex =
    subst (λ n. Exactly n (λ d. slice_index (dart_nodes g.ends) d == i) xs) (sym (length-dart_nodes g.ends))
    (Exactly-agree (2 * edges g) (λ d. node_of g d == i) (λ d. slice_index (dart_nodes g.ends) d == i) xs
    (λ x lt. ap (λ (y : ℕ). y == i) (sym (slice_index-dart_nodes g x))) ex)

-- an arrangement of the darts at a node is exactly its darts
exact_back : (g : Clustered) (i : ℕ) (xs : List ℕ) → Arranges (dart_nodes g.ends) i xs →
    Exactly (2 * edges g) (λ d. node_of g d == i) xs
exact_back g i xs ex =
    Exactly-agree (2 * edges g) (λ d. slice_index (dart_nodes g.ends) d == i) (λ d. node_of g d == i) xs
    (λ x lt. ap (λ (y : ℕ). y == i) (slice_index-dart_nodes g x))
    (subst (λ n. Exactly n (λ d. slice_index (dart_nodes g.ends) d == i) xs) (length-dart_nodes g.ends) ex)

-- the list of a node is right in the layout where it is right in the rotation system
pub IsRightList-from_node : (g : Clustered) (l : Layout) (i : ℕ) → IsRightNode g l i →
    IsRightList (nodes g) (dart_nodes g.ends) l.nodes i
IsRightList-from_node g l i right = record {
  present = λ lt. let h : (i < length l.nodes) × Exactly (2 * edges g) (λ d. node_of g d == i) (node_list l i) =
      right.present lt in (h.0, exact_there g i (node_list l i) h.1);
  expected = right.expected;
}

-- a line that is right by lists is right
pub IsRightNode-from_list : (g : Clustered) (l : Layout) (i : ℕ) → IsRightList (nodes g) (dart_nodes g.ends) l.nodes i →
    IsRightNode g l i
IsRightNode-from_list g l i right = record {
  present = λ lt. let h : (i < length l.nodes) × Arranges (dart_nodes g.ends) i (node_list l i) =
      right.present lt in (h.0, exact_back g i (node_list l i) h.1);
  expected = right.expected;
}

-- a line is right exactly where it is right by lists
pub IsRightNode-iff_list : (g : Clustered) (l : Layout) (i : ℕ) →
    IsRightNode g l i ↔ IsRightList (nodes g) (dart_nodes g.ends) l.nodes i
IsRightNode-iff_list g l i = (IsRightList-from_node g l i, IsRightNode-from_list g l i)

-- so the first wrong node line is the first wrong list
pub IsFirstWrongNode-iff_list : (g : Clustered) (l : Layout) (i : ℕ) →
    IsFirstWrongNode g l i ↔ IsFirstWrong (nodes g) (dart_nodes g.ends) l.nodes i
IsFirstWrongNode-iff_list g l i = (there, back)
  where
    -- the first wrong node line is the first list that is not exact
    there : IsFirstWrongNode g l i → IsFirstWrong (nodes g) (dart_nodes g.ends) l.nodes i
    there first = record {
      wrong = λ right. first.wrong (IsRightNode-from_list g l i right);
      right_before =
          λ j lt. IsRightList-from_node g l j (first.right_before j lt);
    }

    -- and the first list that is not exact is the first wrong node line
    back : IsFirstWrong (nodes g) (dart_nodes g.ends) l.nodes i → IsFirstWrongNode g l i
    back first = record {
      wrong = λ right. first.wrong (IsRightList-from_node g l i right);
      right_before =
          λ j lt. IsRightNode-from_list g l j (first.right_before j lt);
    }

-- without clusters and without lists of clusters, no cluster line is wrong
pub IsRightCluster-plain : (g : Clustered) (l : Layout) → g.parents ≡ [] → l.clusters ≡ [] → (k : ℕ) →
    IsRightCluster g l k
IsRightCluster-plain g l none empty k = record {
  present = λ above within. absurd (omega (arith, ap length none));
  expected = λ within. omega (arith, ap length none, ap length empty);
}

-- so lists that are right make an arranged layout
pub IsArranged-plain : (g : Clustered) (l : Layout) → g.parents ≡ [] → l.clusters ≡ [] →
    ((i : ℕ) → IsRightList (nodes g) (dart_nodes g.ends) l.nodes i) → IsArranged g l
IsArranged-plain g l none empty right = record {
  nodes_right = λ i. IsRightNode-from_list g l i (right i);
  clusters_right = IsRightCluster-plain g l none empty;
}

-- as many lists as nodes, where each list is right
lists_listed : (n : ℕ) (at : List ℕ) (lists : List (List ℕ)) → ((i : ℕ) → IsRightList n at lists i) → length lists ≡ n
lists_listed n at lists right =
    ⊎_elim
    (λ fewer. let h : length lists < length lists = ((right (length lists)).present fewer).0 in absurd (omega arith))
    (λ most.
    ⊎_elim
    (λ more. let h : n < n = (right n).expected more in absurd (omega arith))
    (λ least. omega arith)
    (cases_lt n (length lists)))
    (cases_lt (length lists) n)

-- where a dart stands is a node
pub node_of-is_node : (g : Clustered) → IsClustered g → (d : ℕ) → d < 2 * edges g → node_of g d < nodes g
node_of-is_node g is d lt =
    ⊎_elim
    (λ even. rw even (is.source_is_node (d / 2) (omega arith)))
    (λ odd. rw odd (is.target_is_node (d / 2) (omega arith)))
    (cases_Bool (d % 2 == 0))

-- and lists that are right make a rotation system
pub IsRotation-plain_lists : (g : Clustered) (lists : List (List ℕ)) → IsClustered g →
    ((i : ℕ) → IsRightList (nodes g) (dart_nodes g.ends) lists i) →
    IsRotation record { vertices = nodes g; at = dart_nodes g.ends; lists = lists }
IsRotation-plain_lists g lists is right = record {
  paired = omega (arith, length-dart_nodes g.ends);
  placed = λ d lt. rw (slice_index-dart_nodes g d) (node_of-is_node g is d (omega (arith, length-dart_nodes g.ends)));
  listed = lists_listed (nodes g) (dart_nodes g.ends) lists right;
  arranged = λ v lt. ((right v).present lt).1;
}

-- the border graph of a graph without clusters is a rotation system where each list is right
pub IsRotation-plain : (g : Clustered) (l : Layout) → IsClustered g → g.parents ≡ [] →
    ((i : ℕ) → IsRightList (nodes g) (dart_nodes g.ends) l.nodes i) → IsRotation (borders g l)
IsRotation-plain g l is none right =
    subst IsRotation (sym (borders-plain g l is none)) (IsRotation-plain_lists g l.nodes is right)
