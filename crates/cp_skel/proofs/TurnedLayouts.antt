-- A layout whose lists are turns of those of a good layout is good.
use Rattle.std.proofs.Common.{◌≡◌, ℕ, zero, suc, ◌-◌, ◌*◌, Bool, List, [], ◌∷◌, ◌++◌, map, length, sym, refl, subst, arith}
use Rattle.std.specs.Prelude.{slice_index_or, ◌==◌}
use Rattle.std.specs.List.{flat_map}
use Rattle.std.proofs.lemmas.List.{append-nil, length-map}
use Rattle.cp_lists.specs.Count.{Exactly}
use Rattle.cp_lists.specs.Turns.{IsTurn, turned_to_least}
use Rattle.cp_lists.proofs.ExactLists.{Exactly-turn}
use Rattle.cp_lists.proofs.LeastItems.{turned_to_least-IsTurn}
use Rattle.cp_lists.proofs.TurnedLists.{parts_of_turn, turn-map, turn-reverse}
use Rattle.cp_cgraph.specs.Clustered.{Clustered, IsClustered, edges, node_of}
use Rattle.cp_cgraph.specs.Crossings.{leaves}
use Rattle.cp_cgraph.specs.declared.layout.Layout.{Layout}
use Rattle.cp_border.specs.Borders.{cluster_list, end_dart, node_list, segments}
use Rattle.cp_border.specs.Good.{IsArranged, IsGood}
use Rattle.cp_maps.specs.Maps.{IsMapOf, next_by}
use Rattle.cp_maps.proofs.Genus.{SameGenus-IsFlat}
use Rattle.cp_skel.specs.LoopLists.{AllTurned}
use Rattle.cp_skel.specs.SkeletonLists.{border_pair, in_dart, inner_clusters, out_dart, skeleton_lists}
use Rattle.cp_skel.specs.SolutionLayouts.{from_least}
use Rattle.cp_skel.proofs.GoodLayouts.{good_exactly}
use Rattle.cp_skel.proofs.SkeletonLists.{IsMapOf-skeletons}
use Rattle.cp_skel.proofs.TurnedMaps.{IsMapOf-turned}
use Rattle.cp_maps.proofs.MergedVertices.{same_lists-SameGenus}

-- as many lists, and each a turn of the one at its place
pub record IsTurnedLayout (l k : Layout) : Type 0 where
  pub as_many_nodes : length k.nodes ≡ length l.nodes
  pub as_many_clusters : length k.clusters ≡ length l.clusters
  pub nodes_turned : (v : ℕ) → IsTurn (node_list l v) (node_list k v)
  pub clusters_turned : (c : ℕ) → IsTurn (cluster_list l c) (cluster_list k c)

-- a turn of an exact list is exact
turned-Exactly : (n : ℕ) (p : ℕ → Bool) (xs ys : List ℕ) → IsTurn xs ys → Exactly n p xs → Exactly n p ys
turned-Exactly n p xs ys turn exact =
    let w = parts_of_turn xs ys turn in
    subst (Exactly n p) (sym w.3) (Exactly-turn n p w.0 w.1 (subst (Exactly n p) w.2 exact))

-- so it is arranged, too
turned-IsArranged : (g : Clustered) (l k : Layout) → IsTurnedLayout l k → IsArranged g l → IsArranged g k
turned-IsArranged g l k turned ar = record {
  nodes_right = λ i. record {
    present = λ lt. let w = (ar.nodes_right i).present lt in (
      omega (arith, w.0, turned.as_many_nodes),
      turned-Exactly (2 * edges g) (λ d. node_of g d == i) (node_list l i) (node_list k i) (turned.nodes_turned i) w.1,
    );
    expected = λ lt. (ar.nodes_right i).expected (omega (arith, lt, turned.as_many_nodes));
  };
  clusters_right = λ c. record {
    present = λ above lt. let w = (ar.clusters_right c).present above lt in (
      omega (arith, w.0, turned.as_many_clusters),
      turned-Exactly (edges g) (leaves g c) (cluster_list l c) (cluster_list k c) (turned.clusters_turned c) w.1,
    );
    expected = λ lt. (ar.clusters_right c).expected (omega (arith, lt, turned.as_many_clusters));
  };
}

-- turned lists behind turned lists
AllTurned-append : (rows turned others behind : List (List ℕ)) → AllTurned rows turned → AllTurned others behind
    → AllTurned (rows ++ others) (turned ++ behind)
AllTurned-append [] [] others behind one two = two
AllTurned-append [] (ys ∷ turned) others behind one two = absurd one
AllTurned-append (xs ∷ rows) [] others behind one two = absurd one
AllTurned-append (xs ∷ rows) (ys ∷ turned) others behind one two =
    (one.0, AllTurned-append rows turned others behind one.1 two)

-- the lists of borders
pairs-turned : (g : Clustered) (l k : Layout) → ((c : ℕ) → IsTurn (cluster_list l c) (cluster_list k c)) → (cs : List ℕ)
    → AllTurned (flat_map (border_pair g l) cs) (flat_map (border_pair g k) cs)
pairs-turned g l k turned [] = tt
pairs-turned g l k turned (c ∷ cs) =
    let es : List ℕ = cluster_list l c in
    let fs : List ℕ = cluster_list k c in (
      turn-reverse (map (in_dart g c) es) (map (in_dart g c) fs) (turn-map (in_dart g c) es fs (turned c)),
      (turn-map (out_dart g c) es fs (turned c), pairs-turned g l k turned cs),
    )

-- the lists of nodes
nodes-turned : (g : Clustered) (xs ys : List (List ℕ)) → length ys ≡ length xs
    → ((i : ℕ) → IsTurn (slice_index_or xs i []) (slice_index_or ys i []))
    → AllTurned (map (map (end_dart g)) xs) (map (map (end_dart g)) ys)
nodes-turned g [] [] long turned = tt
nodes-turned g [] (y ∷ ys) long turned = absurd (omega (arith, long))
nodes-turned g (x ∷ xs) [] long turned = absurd (omega (arith, long))
nodes-turned g (x ∷ xs) (y ∷ ys) long turned =
    (turn-map (end_dart g) x y (turned 0), nodes-turned g xs ys (omega (arith, long)) (λ i. turned (suc i)))

-- and good
pub turned-IsGood : (g : Clustered) (l k : Layout) → IsClustered g → IsTurnedLayout l k → IsGood g l → IsGood g k
turned-IsGood g l k is turned good =
    let n : ℕ = 2 * segments g in
    let h : ℕ → ℕ = next_by (skeleton_lists g l) in
    let f : ℕ → ℕ = next_by (skeleton_lists g k) in
    let ar : IsArranged g k = turned-IsArranged g l k turned good.arranged in
    let all : AllTurned (skeleton_lists g l) (skeleton_lists g k) =
    AllTurned-append (flat_map (border_pair g l) (inner_clusters g)) (flat_map (border_pair g k) (inner_clusters g))
    (map (map (end_dart g)) l.nodes) (map (map (end_dart g)) k.nodes)
    (pairs-turned g l k turned.clusters_turned (inner_clusters g))
    (nodes-turned g l.nodes k.nodes turned.as_many_nodes turned.nodes_turned) in
    let is_h : IsMapOf n h (skeleton_lists g k) =
    subst (IsMapOf n h) (append-nil (skeleton_lists g k))
    (IsMapOf-turned n h (skeleton_lists g l) (skeleton_lists g k) [] all
    (subst (IsMapOf n h) (sym (append-nil (skeleton_lists g l))) (IsMapOf-skeletons g l is good.arranged))) in
    (good_exactly g k is).1 (
      ar,
      SameGenus-IsFlat (segments g) h f
          (same_lists-SameGenus (segments g) h f (skeleton_lists g k) is_h (IsMapOf-skeletons g k is ar))
          ((good_exactly g l is).0 good).1,
    )

-- a list of lists that are turned
turned_at : (f : List ℕ → List ℕ) (xs : List (List ℕ)) (i : ℕ)
    → slice_index_or (map f xs) i (f []) ≡ f (slice_index_or xs i [])
turned_at f [] i = refl
turned_at f (x ∷ xs) zero = refl
turned_at f (x ∷ xs) (suc i) = turned_at f xs i

-- a layout from its least items on has turned lists
pub from_least-IsTurnedLayout : (l : Layout) → IsTurnedLayout l (from_least l)
from_least-IsTurnedLayout l =
    let turned : (xs : List (List ℕ)) (i : ℕ)
    → IsTurn (slice_index_or xs i []) (slice_index_or (map turned_to_least xs) i []) =
    λ xs i. subst (IsTurn (slice_index_or xs i [])) (sym (turned_at turned_to_least xs i))
    (turned_to_least-IsTurn (slice_index_or xs i [])) in
    record {
      as_many_nodes = length-map l.nodes turned_to_least;
      as_many_clusters = length-map l.clusters turned_to_least;
      nodes_turned = λ v. turned l.nodes v;
      clusters_turned = λ c. turned l.clusters (c - 1);
    }
