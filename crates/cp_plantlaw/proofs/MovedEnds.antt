-- Two instances, where the ends of the edges of the one move to vertices of the other: the darts of the other serve
-- both.
use Rattle.std.proofs.Common.{◌≡◌, ◌≢◌, ◌⊎◌, ℕ, ◌*◌, ◌<◌, ◌≤◌, ◌↔◌, List, [], ◌∷◌, ◌++◌, length, map, sym, refl, ap, ap₂, ◌∙◌, subst, inl, inr, ⊎_elim, true}
use Rattle.std.specs.List.{All, AllByRecursion, Contains}
use Rattle.std.proofs.lemmas.List.{map-append}
use Rattle.cp_lists.specs.CyclicLists.{Distinct, Has, Lacks}
use Rattle.cp_lists.proofs.DistinctLists.{Distinct-append_left, Distinct-append_right, Has-append_left, Has-append_right, Has-Contains, Lacks-append_left, Lacks-append_right}
use Rattle.cp_lists.proofs.EachItem.{all_parts}
use Rattle.cp_orbits.specs.Connected.{Joins}
use Rattle.cp_faces.specs.Twins.{twin}
use Rattle.cp_conn.specs.NamedGraphs.{NamedGraph, edges_at, ends_at, far}
use Rattle.cp_conn.proofs.NamedGraphs.{Contains-edges_at, edges_at-Contains, far_edges_at, far_joins, joins_ends, joins_far}
use Rattle.cp_maps.specs.Genus.{IsFlat, OneGenus}
use Rattle.cp_maps.specs.Maps.{IsMapOf}
use Rattle.cp_maps.specs.Names.{Names}
use Rattle.cp_maps.proofs.Genus.{OneGenus-IsFlat, OneGenus-sym}
use Rattle.cp_maps.proofs.Names.{named_lists-OneGenus}
use Rattle.cp_maplaw.specs.NamedDarts.{AreDartsOf, dart_list}
use Rattle.cp_maplaw.proofs.Systems.{system_flat}
use Rattle.cp_rot.specs.Genus.{HasGenusZero}
use Rattle.cp_rot.specs.Systems.{IsRotation, System, edges, next}
use Rattle.cp_board.specs.Instances.{Synchronized, IsSynchronized, graph}
use Rattle.cp_board.specs.Rotations.{ArrangesEdges, dart, system}
use Rattle.cp_synclaw.proofs.InstanceDarts.{dart_low, dart_of_edge, far_differs, instance_darts}
use Rattle.cp_synclaw.proofs.InstanceSystems.{listed_edge, system-IsMapOf, system-IsRotation, system_edges}
use Rattle.cp_plantlaw.specs.NamedTrees.{Named, tops, word, rows, verts}
use Rattle.cp_plantlaw.proofs.PlantedNames.{Fits}

-- an edge with two ends has no third
end_cases : (g : NamedGraph) (v a b e : ℕ) → Joins (g.ends e) a b → ends_at g v e ≡ true → (v ≡ a) ⊎ (v ≡ b)
end_cases g v a b e joins here =
    ⊎_elim
    (λ (x : ((g.ends e).0 ≡ a) × ((g.ends e).1 ≡ b)). ⊎_elim
    (λ (y : ((g.ends e).0 ≡ v) × ((g.ends e).1 ≡ far g v e)). inl (sym y.0 ∙ x.0))
    (λ y. inr (sym y.1 ∙ x.1)) (far_joins g v e here))
    (λ x. ⊎_elim
    (λ (y : ((g.ends e).0 ≡ v) × ((g.ends e).1 ≡ far g v e)). inr (sym y.0 ∙ x.0))
    (λ y. inl (sym y.1 ∙ x.1)) (far_joins g v e here))
    joins

-- the end v of edge e of instance i is at `place v e` in instance j, and `back` tells v from it
pub record IsMoved (i j : Synchronized) (place : ℕ → ℕ → ℕ) (back : ℕ → ℕ) : Type 0 where
  pub live : (e : ℕ) → Contains (graph i).edges e → Contains (graph j).edges e
  pub ends : (e : ℕ) → Contains (graph i).edges e
      → (graph j).ends e ≡ (place ((graph i).ends e).0 e, place ((graph i).ends e).1 e)
  pub home : (w e : ℕ) → Contains (edges_at (graph i) w) e → back (place w e) ≡ w
  pub more : length (graph i).edges ≤ length (graph j).edges

-- the ends of edges of i that move to vertices of j
module _ (i j : Synchronized) (place : ℕ → ℕ → ℕ) (back : ℕ → ℕ) (moved : IsMoved i j place back) where
  -- the graphs
  abbrev gi : NamedGraph
  gi = graph i

  -- the graph of j
  abbrev gj : NamedGraph
  gj = graph j

  -- where an edge of a vertex ends
  moved_joins : (w e : ℕ) → Contains (edges_at gi w) e → Joins (gj.ends e) (place w e) (place (far gi w e) e)
  moved_joins w e c =
      let h = edges_at-Contains gi w e c in
      let ends = moved.ends e h.0 in
      ⊎_elim
      (λ (x : ((gi.ends e).0 ≡ w) × ((gi.ends e).1 ≡ far gi w e)).
      inl (
        ap (λ (y : ℕ × ℕ). y.0) ends ∙ ap (λ z. place z e) x.0,
        ap (λ (y : ℕ × ℕ). y.1) ends ∙ ap
            (λ z. place z e) x.1,
      ))
      (λ x. inr (
        ap (λ (y : ℕ × ℕ). y.0) ends ∙ ap (λ z. place z e) x.0,
        ap (λ (y : ℕ × ℕ). y.1) ends ∙ ap
            (λ z. place z e) x.1,
      ))
      (far_joins gi w e h.1)

  -- it is an edge of the vertex that its end moved to
  pub moved_at : (w e : ℕ) → Contains (edges_at gi w) e → Contains (edges_at gj (place w e)) e
  moved_at w e c =
      Contains-edges_at gj (place w e) e (moved.live e (edges_at-Contains gi w e c).0)
      (joins_ends gj (place w e) (place (far gi w e) e) e (moved_joins w e c))

  -- and its far end is the other that moved
  pub moved_far : (w e : ℕ) → Contains (edges_at gi w) e → far gj (place w e) e ≡ place (far gi w e) e
  moved_far w e c = joins_far gj (place w e) (place (far gi w e) e) e (moved_joins w e c)

-- the same, in instances that keep the rules
module _ (i j : Synchronized) (is_i : IsSynchronized i) (is_j : IsSynchronized j) (place : ℕ → ℕ → ℕ) (back : ℕ → ℕ)
    (moved : IsMoved i j place back) where
  -- the graphs
  abbrev graph_i : NamedGraph
  graph_i = graph i

  -- the graph of j
  abbrev graph_j : NamedGraph
  graph_j = graph j

  -- the darts of both
  di : AreDartsOf graph_i (dart graph_i)
  di = instance_darts i is_i

  -- the darts of j
  dj : AreDartsOf graph_j (dart graph_j)
  dj = instance_darts j is_j

  -- the dart of j for an edge at a vertex of i
  abbrev pub moved_dart : ℕ → ℕ → ℕ
  moved_dart w e = dart graph_j (place w e) e

  -- these are darts of the graph of i
  pub moved-AreDartsOf : AreDartsOf graph_i moved_dart
  moved-AreDartsOf = record {
    at = λ d. back (dj.at d);
    edge_of = dj.edge_of;
    placed = λ w e c. ap back (dj.placed (place w e) e (moved_at i j place back moved w e c)) ∙ moved.home w e c;
    named = λ w e c. dj.named (place w e) e (moved_at i j place back moved w e c);
    twins = λ w e c. ap (λ z. dart graph_j z e) (sym (moved_far i j place back moved w e c)) ∙ dj.twins (place w e) e
        (moved_at i j place back moved w e c);
  }

  -- the new name of a dart of i
  abbrev renamed : ℕ → ℕ
  renamed d = moved_dart (di.at d) (di.edge_of d)

  -- the dart of an edge at a vertex becomes the one there
  renamed_dart : (w e : ℕ) → Contains (edges_at graph_i w) e → renamed (dart graph_i w e) ≡ moved_dart w e
  renamed_dart w e c = ap₂ moved_dart (di.placed w e c) (di.named w e c)

  -- how many edges there are
  abbrev m : ℕ
  m = length graph_i.edges

  -- how many edges j has
  abbrev n : ℕ
  n = length graph_j.edges

  -- the names are those of darts, different, and twins stay twins
  renamed-Names : Names m n renamed
  renamed-Names = record {
    below = λ d lt.
        let k = dart_of_edge i is_i d lt in
        subst (λ x. x < 2 * n) (sym (renamed_dart k.0 k.1 k.2) ∙ ap renamed k.3)
        (dart_low j is_j (place k.0 k.1) k.1 (moved_at i j place back moved k.0 k.1 k.2));
    apart = λ c d lc ld same.
        let k = dart_of_edge i is_i c lc in
        let l = dart_of_edge i is_i d ld in
        let one : moved_dart k.0 k.1 ≡ moved_dart l.0 l.1 =
        sym (renamed_dart k.0 k.1 k.2) ∙ ap renamed k.3 ∙ same ∙ ap renamed (sym l.3) ∙ renamed_dart l.0 l.1 l.2 in
        sym k.3
        ∙ ap₂ (dart graph_i)
        (sym (moved-AreDartsOf.placed k.0 k.1 k.2) ∙ ap moved-AreDartsOf.at one ∙ moved-AreDartsOf.placed l.0 l.1 l.2)
        (sym (moved-AreDartsOf.named k.0 k.1 k.2) ∙ ap moved-AreDartsOf.edge_of one
        ∙ moved-AreDartsOf.named l.0 l.1 l.2)
        ∙ l.3;
    twins = λ d lt.
        let k = dart_of_edge i is_i d lt in
        ap (λ x. renamed (twin x)) (sym k.3)
        ∙ ap renamed (sym (di.twins k.0 k.1 k.2))
        ∙ renamed_dart (far graph_i k.0 k.1) k.1 (far_edges_at graph_i k.0 k.1 k.2)
        ∙ moved-AreDartsOf.twins k.0 k.1 k.2
        ∙ ap twin (sym (renamed_dart k.0 k.1 k.2) ∙ ap renamed k.3);
  }

  -- a list of edges of a vertex under the new names
  renamed_list : (w : ℕ) (xs : List ℕ) → ((x : ℕ) → Has x xs → Contains (edges_at graph_i w) x)
      → map renamed (map (dart graph_i w) xs) ≡ map (moved_dart w) xs
  renamed_list w [] all = refl
  renamed_list w (x ∷ xs) all =
      ap₂ (λ z zs. z ∷ zs) (renamed_dart w x (all x (inl refl))) (renamed_list w xs (λ y h. all y (inr h)))

  -- lists that arrange the edges of i
  module _ (s : ℕ → List ℕ) (arranged : All (λ v. ArrangesEdges graph_i v (s v)) graph_i.verts) where
    -- the lists of some vertices under the new names
    renamed_lists : (ws : List ℕ) → ((w : ℕ) → Has w ws → Contains graph_i.verts w)
        → map (map renamed) (map (dart_list (dart graph_i) s) ws) ≡ map (dart_list moved_dart s) ws
    renamed_lists [] all = refl
    renamed_lists (w ∷ ws) all =
        ap₂ (λ z zs. z ∷ zs)
        (renamed_list w (s w) (λ x h. (listed_edge i is_i s arranged w x (all w (inl refl))).0 h))
        (renamed_lists ws (λ y h. all y (inr h)))

    -- they make a system of genus zero where a map of the darts of j with these lists is flat
    pub moved_lists-IsFlat : (h : ℕ → ℕ) → IsMapOf (2 * n) h (map (dart_list moved_dart s) graph_i.verts)
        → HasGenusZero (system graph_i s) ↔ IsFlat n h
    moved_lists-IsFlat h is_h =
        let r : System = system graph_i s in
        let rot : IsRotation r = system-IsRotation i is_i s arranged in
        let one : OneGenus m (next r) n h =
        named_lists-OneGenus m n renamed (next r) h (map (dart_list
        (dart graph_i) s) graph_i.verts) moved.more renamed-Names
        (system-IsMapOf i is_i s arranged)
        (subst (IsMapOf (2 * n) h) (sym (renamed_lists graph_i.verts
        (λ w c. (Has-Contains w graph_i.verts).0 c))) is_h) in
        let size : edges r ≡ m = system_edges i is_i s arranged in (
          λ z. OneGenus-IsFlat m (next r) n h one (subst (λ k. IsFlat k (next r)) size ((system_flat r rot).0 z)),
          λ z. (system_flat r rot).1 (subst (λ k. IsFlat k (next r)) (sym size)
              (OneGenus-IsFlat n h m (next r) (OneGenus-sym m (next r) n h one) z)),
        )

  -- the inner nodes of a tree planted in the place of u
  module _ (u : ℕ) where
    -- the vertex is one that ends at u moved to, and it has these edges
    abbrev pub IsNodeOf : ℕ × List ℕ → Type 0
    IsNodeOf r = (back r.0 ≡ u) × ((x : ℕ) → Has x r.1 → Contains (edges_at graph_j r.0) x)

    -- an edge of u that ends at such a vertex is there in the place of its end u
    pub leaf_place : (v x : ℕ) → back v ≡ u → Contains (edges_at graph_j v) x → Contains (edges_at graph_i u) x
        → dart graph_j v x ≡ moved_dart u x
    leaf_place v x at here c =
        ap (λ z. dart graph_j z x)
        (⊎_elim
        (λ same. same)
        (λ (other : v ≡ place (far graph_i u x) x). absurd (far_differs i is_i u x c
        (sym (moved.home (far graph_i u x) x (far_edges_at graph_i u x c)) ∙ ap back (sym other) ∙ at)))
        (end_cases graph_j v (place u x) (place (far graph_i u x) x) x (moved_joins i j place back moved u x c)
        (edges_at-Contains graph_j v x here).1))

    -- an edge between two vertices has twin darts there
    twin_place : (v w g : ℕ) → v ≢ w → Contains (edges_at graph_j v) g → Contains (edges_at graph_j w) g
        → dart graph_j w g ≡ twin (dart graph_j v g)
    twin_place v w g ne cv cw =
        ap (λ z. dart graph_j z g)
        (⊎_elim
        (λ (e : w ≡ v). absurd (ne (sym e)))
        (λ e. e)
        (end_cases graph_j w v (far graph_j v g) g (far_joins graph_j v g (edges_at-Contains graph_j v g cv).1)
        (edges_at-Contains graph_j w g cw).1))
        ∙ dj.twins v g cv

    -- so the tree fits the darts
    pub tree-Fits : (v : ℕ) (ks : Named) → back v ≡ u → ((x : ℕ) → Has x (tops ks) → Contains (edges_at graph_j v) x)
        → AllByRecursion IsNodeOf (rows ks) → ((x : ℕ) → Has x (word ks) → Contains (edges_at graph_i u) x)
        → Lacks v (verts ks) → Distinct (verts ks) → Fits (dart graph_j) (moved_dart u) v ks
    tree-Fits v Named.no_kid at own nodes leaves other once = tt
    tree-Fits v (Named.leaf_kid x ks) at own nodes leaves other once = (
      leaf_place v x at (own x (inl refl)) (leaves x (inl refl)),
      tree-Fits v ks at (λ y h. own y (inr h)) nodes (λ y h. leaves y (inr h)) other once,
    )
    tree-Fits v (Named.node_kid w g inner ks) at own nodes leaves other once =
        let parts = all_parts IsNodeOf (rows inner) (rows ks) nodes.1 in
        let joined = map-append (λ (r : ℕ × List ℕ). r.0) (rows inner) (rows ks) in
        let apart : Lacks w (verts inner ++ verts ks) = subst (Lacks w) joined once.0 in
        let others : Distinct (verts inner ++ verts ks) = subst Distinct joined once.1 in
        let lacks : Lacks v (verts inner ++ verts ks) = subst (Lacks v) joined other.1 in (
          twin_place v w g (λ e. other.0 (sym e)) (own g (inl refl)) (nodes.0.1 g (inl refl)),
          (
            tree-Fits w inner nodes.0.0 (λ y h. nodes.0.1 y (inr h)) parts.0
                (λ y h. leaves y (Has-append_left y (word inner) (word ks) h))
                (Lacks-append_left w (verts inner) (verts ks) apart)
                (Distinct-append_left (verts inner) (verts ks) others),
            tree-Fits v ks at (λ y h. own y (inr h)) parts.1
                (λ y h. leaves y (Has-append_right y (word inner) (word ks) h))
                (Lacks-append_right v (verts inner) (verts ks) lacks)
                (Distinct-append_right (verts inner) (verts ks) others),
          ),
        )
