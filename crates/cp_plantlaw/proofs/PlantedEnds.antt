-- Two trees planted in the place of two vertices of an instance: the instances have rotations of genus zero alike.
use Rattle.std.proofs.Common.{◌≡◌, ℕ, ◌*◌, ◌↔◌, List, [], ◌∷◌, ◌++◌, length, map, sym, refl, ap, ap₂, ◌∙◌, subst, inl, inr, IsPermutation}
use Rattle.std.specs.List.{All, AllByRecursion, AllZip, Contains}
use Rattle.std.proofs.lemmas.List.{map-append}
use Rattle.std.proofs.lemmas.List.Sorted.{IsPermutation-map, IsPermutation-sym}
use Rattle.cp_lists.specs.CyclicLists.{Distinct, Has}
use Rattle.cp_lists.specs.Turns.{IsTurn}
use Rattle.cp_lists.proofs.TurnedLists.{turn-map, turn-refl, turn-sym}
use Rattle.cp_conn.specs.NamedGraphs.{NamedGraph, edges_at}
use Rattle.cp_maps.specs.Genus.{Becomes, IsFlat}
use Rattle.cp_maps.specs.Maps.{IsMapOf}
use Rattle.cp_maps.proofs.Genus.{SameGenus-IsFlat, SameGenus-sym, SameGenus-trans}
use Rattle.cp_maps.proofs.MapLists.{IsMapOf-among}
use Rattle.cp_maplaw.specs.NamedDarts.{dart_list}
use Rattle.cp_maplaw.proofs.Systems.{system_flat}
use Rattle.cp_rot.specs.Genus.{HasGenusZero}
use Rattle.cp_rot.specs.Systems.{IsRotation, System, next}
use Rattle.cp_board.specs.Instances.{Synchronized, IsSynchronized, graph}
use Rattle.cp_board.specs.Rotations.{ArrangesEdges, dart, system}
use Rattle.cp_synclaw.proofs.InstanceSystems.{system-IsMapOf, system-IsRotation, system_edges}
use Rattle.cp_plantlaw.specs.NamedTrees.{Named, tops, word, rows, verts}
use Rattle.cp_plantlaw.proofs.MapRows.{IsMapOf-permuted, IsMapOf-turned}
use Rattle.cp_plantlaw.proofs.MovedEnds.{IsMoved, IsNodeOf, moved_dart, leaf_place, moved_lists-IsFlat, tree-Fits}
use Rattle.cp_plantlaw.proofs.PlantedNames.{planted_names-Becomes, row_darts}

-- rows are turns of themselves
all_turned : (lists : List (List ℕ)) → AllZip IsTurn lists lists
all_turned [] = tt
all_turned (xs ∷ lists) = (turn-refl xs, all_turned lists)

-- rows one behind the other
zip_behind : (hs bs cs ds : List (List ℕ)) → AllZip IsTurn hs bs → AllZip IsTurn cs ds
    → AllZip IsTurn (hs ++ cs) (bs ++ ds)
zip_behind [] [] cs ds one two = two
zip_behind [] (b ∷ bs) cs ds one two = absurd one
zip_behind (a ∷ hs) [] cs ds one two = absurd one
zip_behind (a ∷ hs) (b ∷ bs) cs ds one two = (one.0, zip_behind hs bs cs ds one.1 two)

-- the ends of the edges of i move to vertices of j
module _ (i j : Synchronized) (is_i : IsSynchronized i) (is_j : IsSynchronized j) (place : ℕ → ℕ → ℕ) (back : ℕ → ℕ)
    (moved : IsMoved i j place back) where
  -- the graphs
  abbrev gi : NamedGraph
  gi = graph i

  -- the graph of j
  abbrev gj : NamedGraph
  gj = graph j

  -- how many edges j has
  abbrev n : ℕ
  n = length gj.edges

  -- an edge of a vertex of i has its dart in j
  abbrev dart_of : ℕ → ℕ → ℕ
  dart_of = moved_dart i j is_i is_j place back moved

  -- the list of darts of an inner node
  abbrev node_darts : ℕ × List ℕ → List ℕ
  node_darts r = row_darts (dart gj) (λ x. x) r

  -- a tree is planted in the place of u: its first node is at v, below the edge r, its leaves are edges of u, and each
  -- node has its vertex, whose list by t is, up to a turn, that of the tree
  pub record IsPlantedTree (t : ℕ → List ℕ) (u v r : ℕ) (ks : Named) : Type 0 where
    pub nodes : AllByRecursion (IsNodeOf i j is_i is_j place back moved u) ((v, r ∷ tops ks) ∷ rows ks)
    pub leaves : (x : ℕ) → Has x (r ∷ word ks) → Contains (edges_at gi u) x
    pub once : Distinct (v ∷ verts ks)
    pub turned : AllByRecursion (λ x. IsTurn x.1 (t x.0)) ((v, r ∷ tops ks) ∷ rows ks)

  -- the lists of the nodes, up to turns
  rows_turned : (t : ℕ → List ℕ) (rs : List (ℕ × List ℕ)) → AllByRecursion (λ x. IsTurn x.1 (t x.0)) rs
      → AllZip IsTurn (map (dart_list (dart gj) t) (map (λ x. x.0) rs)) (map node_darts rs)
  rows_turned t [] turned = tt
  rows_turned t (x ∷ rs) turned = (
    turn-sym (map (dart gj x.0) x.1) (map (dart gj x.0) (t x.0)) (turn-map (dart gj x.0) x.1 (t x.0) turned.0),
    rows_turned t rs turned.1,
  )

  -- the leaves in the place of the tree
  planted_end-Becomes : (t : ℕ → List ℕ) (u v r : ℕ) (ks : Named) (f : ℕ → ℕ) (lists : List (List ℕ))
      → IsPlantedTree t u v r ks
      → IsMapOf (2 * n) f (map (dart_list (dart gj) t) (v ∷ verts ks) ++ lists)
      → Becomes n f (map (dart_of u) (r ∷ word ks) ∷ lists)
  planted_end-Becomes t u v r ks f lists tree is =
      planted_names-Becomes (dart gj) (dart_of u) n f v r ks lists
      (tree-Fits i j is_i is_j place back moved u v ks tree.nodes.0.0 (λ x h. tree.nodes.0.1 x (inr h)) tree.nodes.1
      (λ x h. tree.leaves x (inr h)) tree.once.0 tree.once.1)
      (leaf_place i j is_i is_j place back moved u v r tree.nodes.0.0 (tree.nodes.0.1 r (inl refl))
      (tree.leaves r (inl refl)))
      (IsMapOf-turned (2 * n) f (map (dart_list (dart gj) t) (v ∷ verts ks) ++ lists)
      (map node_darts ((v, r ∷ tops ks) ∷ rows ks) ++ lists)
      (zip_behind (map (dart_list (dart gj) t) (v ∷ verts ks)) (map node_darts ((v, r ∷ tops ks) ∷ rows ks)) lists lists
      (rows_turned t ((v, r ∷ tops ks) ∷ rows ks) tree.turned) (all_turned lists)) is)

  -- two trees and the other vertices
  module _ (t : ℕ → List ℕ) (u w : ℕ) (others : List ℕ) (v x : ℕ) (r q : ℕ) (ks js : Named)
      (one : IsPlantedTree t u v r ks) (two : IsPlantedTree t w x q js)
      (all : IsPermutation gj.verts ((v ∷ verts ks) ++ ((x ∷ verts js) ++ others))) where
    -- the leaves in the places of both
    planted_ends-Becomes : (f : ℕ → ℕ) → IsMapOf (2 * n) f (map (dart_list (dart gj) t) gj.verts)
        → Becomes n f
        (map (dart_of w) (q ∷ word js) ∷ map (dart_of u) (r ∷ word ks) ∷ map (dart_list (dart gj) t) others)
    planted_ends-Becomes f is =
        let lists : ℕ → List ℕ = dart_list (dart gj) t in
        let rest : List (List ℕ) = map lists (x ∷ verts js) ++ map lists others in
        let is_all : IsMapOf (2 * n) f (map lists (v ∷ verts ks) ++ rest) =
        subst (IsMapOf (2 * n) f)
        (map-append lists (v ∷ verts ks) ((x ∷ verts js) ++ others)
        ∙ ap (λ zs. map lists (v ∷ verts ks) ++ zs) (map-append lists (x ∷ verts js) others))
        (IsMapOf-permuted (2 * n) f (map lists gj.verts) (map lists ((v ∷ verts ks) ++ ((x ∷ verts js) ++ others)))
        (IsPermutation-map lists gj.verts ((v ∷ verts ks) ++ ((x ∷ verts js) ++ others)) all) is) in
        let h : Becomes n f (map (dart_of u) (r ∷ word ks) ∷ rest) = planted_end-Becomes t u v r ks f rest one is_all in
        let k : Becomes n h.0 (map (dart_of w) (q ∷ word js) ∷ map (dart_of u) (r ∷ word ks) ∷ map lists others) =
        planted_end-Becomes t w x q js h.0 (map (dart_of u) (r ∷ word ks) ∷ map lists others) two
        (IsMapOf-among (2 * n) h.0 (map (dart_of u) (r ∷ word ks)) (map lists (x ∷ verts js)) (map lists others) h.1) in
        (k.0, k.1, SameGenus-trans n f h.0 k.0 h.2 k.2)

    -- lists s of i, which has u, w and the others as its vertices, are those of the leaves at u and w, and t elsewhere
    module _ (s : ℕ → List ℕ) (all_i : IsPermutation gi.verts (w ∷ u ∷ others))
        (at_u : IsTurn (r ∷ word ks) (s u)) (at_w : IsTurn (q ∷ word js) (s w))
        (kept : (z : ℕ) → Has z others → (s z ≡ t z) × ((y : ℕ) → place z y ≡ z)) where
      -- the darts at a vertex where no end moves
      same_darts : (z : ℕ) → ((y : ℕ) → place z y ≡ z) → (ys : List ℕ) → map (dart gj z) ys ≡ map (dart_of z) ys
      same_darts z stays [] = refl
      same_darts z stays (y ∷ ys) =
          ap₂ (λ a b. a ∷ b) (ap (λ a. dart gj a y) (sym (stays y))) (same_darts z stays ys)

      -- the other lists are the same
      same_lists : (zs : List ℕ) → ((z : ℕ) → Has z zs → Has z others)
          → map (dart_list (dart gj) t) zs ≡ map (dart_list dart_of s) zs
      same_lists [] inside = refl
      same_lists (z ∷ zs) inside =
          let k = kept z (inside z (inl refl)) in
          ap₂ (λ ys yss. ys ∷ yss)
          (ap (map (dart gj z)) (sym k.0) ∙ same_darts z k.1 (s z))
          (same_lists zs (λ y h. inside y (inr h)))

      -- both instances have genus zero or none
      pub planted_ends-HasGenusZero : All (λ z. ArrangesEdges gi z (s z)) gi.verts
          → All (λ z. ArrangesEdges gj z (t z)) gj.verts
          → HasGenusZero (system gi s) ↔ HasGenusZero (system gj t)
      planted_ends-HasGenusZero arranged_s arranged_t =
          let c : System = system gj t in
          let rot : IsRotation c = system-IsRotation j is_j t arranged_t in
          let size = system_edges j is_j t arranged_t in
          let f : ℕ → ℕ = next c in
          let h : Becomes n f
          (map (dart_of w) (q ∷ word js) ∷ map (dart_of u) (r ∷ word ks) ∷ map (dart_list (dart gj) t) others) =
          planted_ends-Becomes f (system-IsMapOf j is_j t arranged_t) in
          let turned : IsMapOf (2 * n) h.0 (map (dart_list dart_of s) (w ∷ u ∷ others)) =
          IsMapOf-turned (2 * n) h.0
          (map (dart_of w) (q ∷ word js) ∷ map (dart_of u) (r ∷ word ks) ∷ map (dart_list (dart gj) t) others)
          (map (dart_list dart_of s) (w ∷ u ∷ others)) (
            turn-map (dart_of w) (q ∷ word js) (s w) at_w,
            (
              turn-map (dart_of u) (r ∷ word ks) (s u) at_u,
              subst (AllZip IsTurn (map (dart_list (dart gj) t) others)) (same_lists others (λ z k. k))
                  (all_turned (map (dart_list (dart gj) t) others)),
            ),
          ) h.1 in
          let flat : HasGenusZero (system gi s) ↔ IsFlat n h.0 =
          moved_lists-IsFlat i j is_i is_j place back moved s arranged_s h.0
          (IsMapOf-permuted (2 * n) h.0 (map (dart_list dart_of s) (w ∷ u ∷ others))
          (map (dart_list dart_of s) gi.verts)
          (IsPermutation-map (dart_list dart_of s) (w ∷ u ∷ others) gi.verts
          (IsPermutation-sym gi.verts (w ∷ u ∷ others) all_i)) turned) in (
            λ z. (system_flat c rot).1 (subst (λ k. IsFlat k f) (sym size)
                (SameGenus-IsFlat n h.0 f (SameGenus-sym n f h.0 h.2) (flat.0 z))),
            λ z. flat.1 (SameGenus-IsFlat n f h.0 h.2 (subst (λ k. IsFlat k f) size ((system_flat c rot).0 z))),
          )
