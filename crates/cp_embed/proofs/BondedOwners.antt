-- Where the tree of a vertex is one P-node of leaves, the vertex and the owner are a bond.
use Rattle.std.proofs.Common.{◌≡◌, ◌≢◌, ℕ, ◌-◌, ◌*◌, ◌<◌, ◌⊎◌, ◌↔◌, true, Option, Some, None, List, ◌∷◌, suc, length, map, reverse, slice_index, slice_index_or, sym, refl, ap, ◌∙◌, subst, inl, inr, ⊎_elim, arith}
use Rattle.std.specs.Prelude.{MatchOption}
use Rattle.std.specs.List.{Contains, range_with_len}
use Rattle.std.proofs.lemmas.Bool.{cases_eq}
use Rattle.std.proofs.lemmas.List.{get_or_read, length-reverse}
use Rattle.cp_base.specs.Graphs.{PlainGraph, AreWithin}
use Rattle.cp_lists.specs.CyclicLists.{Has, Lacks}
use Rattle.cp_lists.proofs.DistinctLists.{has_lacks, Lacks-from, Has-Contains, Has_at}
use Rattle.cp_orbits.specs.Connected.{Joins, Connected, here, step}
use Rattle.cp_conn.specs.Blocks.{HaveNoLoop}
use Rattle.cp_conn.specs.Bonds.{ConnectedWithout, IsBond}
use Rattle.cp_conn.specs.CutVertex.{avoids, without_vertex}
use Rattle.cp_conn.specs.Darts.{start}
use Rattle.cp_conn.specs.NamedGraphs.{pairs, far, edges_at}
use Rattle.cp_conn.proofs.Bonds.{ConnectedWithout-second}
use Rattle.cp_conn.proofs.CutVertices.{kept_pair, kept_of, avoided, avoids_of}
use Rattle.cp_conn.proofs.DartChains.{Joins-sym}
use Rattle.cp_conn.proofs.NamedGraphs.{pairs_have, pairs_from, edges_at-Contains, Contains-edges_at, far_joins, joins_ends, joins_far}
use Rattle.cp_ears.specs.Bipolar.{IsOneBlock, HaveEdges}
use Rattle.cp_ears.proofs.Biconnected.{biconnected_of}
use Rattle.cp_faces.specs.Twins.{twin}
use Rattle.cp_pq.specs.declared.node.Node.TheVariants.{Leaf, P}
use Rattle.cp_pq.specs.Nodes.{leaves, IsIn, itself}
use Rattle.cp_pq.specs.Owners.{AreOnOneSide}
use Rattle.cp_pq.specs.Trees.{PQTree, IsWellFormed}
use Rattle.cp_pq.proofs.NodeLayers.{leaves_P}
use Rattle.cp_force.specs.Owners.{IsSoleP}
use Rattle.cp_embed.specs.declared.taking.Frame.{Frame}
use Rattle.cp_embed.specs.Bonds.{as_named}
use Rattle.cp_embed.specs.BuiltTrees.{IsUnwindable}
use Rattle.cp_embed.specs.Directions.{edge_of}
use Rattle.cp_embed.specs.ListedBlocks.{ListedGraph, IsListedBlock}
use Rattle.cp_embed.specs.OwnedTrees.{HasOwners, AreLinkedBehind, Reaches, here as stays, over}
use Rattle.cp_embed.specs.Sweeps.{LeadsInto}
use Rattle.cp_embed.specs.TreeSteps.{IsStageTree}
use Rattle.cp_embed.specs.VertexOrders.{taken_at, last_of, dart_at}
use Rattle.cp_embed.proofs.BipolarSweeps.{last_taken-Has}
use Rattle.cp_embed.proofs.BuiltTrees.{built-stage}
use Rattle.cp_embed.proofs.DartLists.{range-Has}
use Rattle.cp_embed.proofs.EdgeDarts.{dart_at-start}
use Rattle.cp_embed.proofs.OwnedTrees.{built-HasOwners}
use Rattle.cp_embed.proofs.Sides.{leaf_sides, row-leaves_are}
use Rattle.cp_embed.proofs.StageTrees.{root_dart, order-within}

-- edges are numbers below their count
edge-within : (g : PlainGraph) (k : ℕ) → Contains (as_named g).edges k → k < length g.ends
edge-within g k c =
    let lt = ((range-Has k 0 (length g.ends)).0 ((Has-Contains k (range_with_len 0 (length g.ends))).1 c)).1 in
    omega (arith, lt)

-- and each of these is one
edge-Contains : (g : PlainGraph) (k : ℕ) → k < length g.ends → Contains (as_named g).edges k
edge-Contains g k lt = (Has-Contains k (range_with_len 0 (length g.ends))).0
    ((range-Has k 0 (length g.ends)).1 (omega arith, omega (arith, lt)))

-- each pair of ends is that of an edge
pair-edge : (g : PlainGraph) (p : ℕ × ℕ) → Contains g.ends p
    → (k : ℕ) × (k < length g.ends) × (slice_index_or g.ends k (0, 0) ≡ p)
pair-edge g p c = (c.0, c.1, sym (get_or_read g.ends c.0 p c.1 (sym c.2) (0, 0)))

-- both ends of a pair that joins two vertices are other vertices than v where these are
joins_avoid : (v : ℕ) (p : ℕ × ℕ) (y z : ℕ) → Joins p y z → y ≢ v → z ≢ v → avoids v p ≡ true
joins_avoid v p y z j ny nz = ⊎_elim
    (λ h. avoids_of v p (λ f. ny (sym h.0 ∙ f)) (λ f. nz (sym h.1 ∙ f)))
    (λ h. avoids_of v p (λ f. nz (sym h.0 ∙ f)) (λ f. ny (sym h.1 ∙ f)))
    j

-- a graph that is one block, and a vertex t of it; the others are taken
module _ (g : PlainGraph) (within : AreWithin g.vertices g.ends) (no_loop : HaveNoLoop g.ends)
    (one_block : IsOneBlock g.ends) (each_has_edge : HaveEdges g.vertices g.ends) (t : ℕ) (t_in : t < g.vertices)
    (taken : List ℕ) (taken_are : (u : ℕ) → Has u taken ↔ ((u < g.vertices) × (u ≢ t))) where
  -- where the darts stand
  abbrev at : ℕ → ℕ
  at = start g.ends

  -- how many edges there are
  abbrev e : ℕ
  e = length g.ends

  -- the two ends of an edge that joins two vertices are these
  joined-within : (k y z : ℕ) → k < length g.ends → Joins (slice_index_or g.ends k (0, 0)) y z
      → (y < g.vertices) × (z < g.vertices) × (y ≢ z)
  joined-within k y z lt j = ⊎_elim
      (λ h. (
        subst (λ u. u < g.vertices) h.0 (within k lt).0,
        subst (λ u. u < g.vertices) h.1 (within k lt).1,
        λ same. no_loop k lt (h.0 ∙ same ∙ sym h.1),
      ))
      (λ h. (
        subst (λ u. u < g.vertices) h.1 (within k lt).1,
        subst (λ u. u < g.vertices) h.0 (within k lt).0,
        λ same. no_loop k lt (h.0 ∙ sym same ∙ sym h.1),
      ))
      j

  -- the dart of such an edge
  joined-dart : (k y z : ℕ) → k < length g.ends → Joins (slice_index_or g.ends k (0, 0)) y z
      → (at (dart_at g.ends y k) ≡ y) × (dart_at g.ends y k < 2 * e) × (edge_of (dart_at g.ends y k) ≡ k)
      × (at (twin (dart_at g.ends y k)) ≡ z)
  joined-dart k y z lt j =
      let d = dart_at-start g.ends no_loop y k lt (joins_ends (as_named g) y z k j) in
      (d.0, d.1, d.2, d.3 ∙ joins_far (as_named g) y z k j)

  -- the edges of t lead out of what is taken
  t-edge : (k : ℕ) → Contains (edges_at (as_named g) t) k
      → (k < length g.ends) × (at (dart_at g.ends t k) ≡ t) × (edge_of (dart_at g.ends t k) ≡ k)
      × (at (twin (dart_at g.ends t k)) ≡ far (as_named g) t k) × Has (far (as_named g) t k) taken
      × LeadsInto at e taken (dart_at g.ends t k)
  t-edge k c =
      let h = edges_at-Contains (as_named g) t k c in
      let lt : k < length g.ends = edge-within g k h.0 in
      let j = far_joins (as_named g) t k h.1 in
      let d = joined-dart k t (far (as_named g) t k) lt j in
      let w = joined-within k t (far (as_named g) t k) lt j in
      let in_taken : Has (far (as_named g) t k) taken =
      (taken_are (far (as_named g) t k)).1 (w.1, λ same. w.2 (sym same))
      in (
        lt,
        d.0,
        d.2,
        d.3,
        in_taken,
        record {
          within = d.1;
          outside = subst (λ u. Lacks u taken) (sym d.0) (Lacks-from t taken (λ f. ((taken_are t).0 f).1 refl));
          into = subst (λ u. Has u taken) (sym d.3) in_taken;
        },
      )

  -- a walk without t and v is one over what is taken
  walk_taken : (v p q : ℕ) → ConnectedWithout (as_named g) t v p q → Reaches at e taken v p q
  walk_taken v p _ here = stays
  walk_taken v p _ (step {y = y} {z = z} c pr contained joins) =
      let one = kept_pair (avoids t) (without_vertex v (pairs (as_named g))) pr contained in
      let two = kept_pair (avoids v) (pairs (as_named g)) pr one.0 in
      let k : (k : ℕ) × Contains (as_named g).edges k × (slice_index_or g.ends k (0, 0) ≡ pr) =
      pairs_from (as_named g) pr two.0
      in
      let lt : k.0 < length g.ends = edge-within g k.0 k.1 in
      let j : Joins (slice_index_or g.ends k.0 (0, 0)) y z = subst (λ (a : ℕ × ℕ). Joins a y z) (sym k.2) joins in
      let d = joined-dart k.0 y z lt j in
      over (dart_at g.ends y k.0) z (subst (Reaches at e taken v p) (sym d.0) (walk_taken v p y c)) d.1 d.3
      ((taken_are z).1 ((joined-within k.0 y z lt j).1, avoided t pr y z one.1 joins))
      (avoided v pr y z two.1 joins)

  -- a walk without t to v passes an edge of v into the component of its first vertex
  module _ (v p : ℕ) (v_other : v ≢ t) (p_other : p ≢ v) where
    -- such an edge
    abbrev IsEntered : Type 0
    IsEntered = (f : ℕ) × Contains (edges_at (as_named g) v) f
        × ConnectedWithout (as_named g) t v p (far (as_named g) v f)

    -- the walk has passed one, or has not yet come to v
    entered_by : (y : ℕ) → Connected (without_vertex t g.ends) p y
        → IsEntered ⊎ ((y ≢ v) × ConnectedWithout (as_named g) t v p y)
    entered_by _ here = inr (p_other, here)
    entered_by _ (step {y = y} {z = z} c pr contained joins) = ⊎_elim
        inl
        (λ before.
        let one = kept_pair (avoids t) g.ends pr contained in
        let k = pair-edge g pr one.0 in
        let live : Contains (as_named g).edges k.0 = edge-Contains g k.0 k.1 in
        let j : Joins (slice_index_or g.ends k.0 (0, 0)) y z = subst (λ (a : ℕ × ℕ). Joins a y z) (sym k.2) joins in
        ⊎_elim
        (λ same.
        let back : Joins (slice_index_or g.ends k.0 (0, 0)) v y =
        subst (λ u. Joins (slice_index_or g.ends k.0 (0, 0)) u y) same (Joins-sym (slice_index_or g.ends k.0 (0, 0)) y
        z j)
        in
        inl (
          k.0,
          Contains-edges_at (as_named g) v k.0 live (joins_ends (as_named g) v y k.0 back),
          subst (ConnectedWithout (as_named g) t v p) (sym (joins_far (as_named g) v y k.0 back)) before.1,
        ))
        (λ other. inr (
          other,
          step before.1 pr (kept_of (avoids t) (without_vertex v (pairs (as_named g))) pr
              (kept_of (avoids v) (pairs (as_named g)) pr
              (subst (Contains (pairs (as_named g))) k.2 (pairs_have (as_named g) k.0 live))
              (joins_avoid v pr y z joins before.0 other)) one.1) joins,
        ))
        (cases_eq z v))
        (entered_by y c)

    -- one block stays connected without t
    pub entered : p < g.vertices → v < g.vertices → p ≢ t → IsEntered
    entered lt_p lt_v other = ⊎_elim
        (λ f. f)
        (λ f. absurd (f.0 refl))
        (entered_by v (biconnected_of g.vertices g.ends no_loop one_block each_has_edge t p v lt_p lt_v other v_other))

-- the tree of the stage in which all vertices but t are taken
module _ (block : ListedGraph) (well : IsListedBlock block) (t r : ℕ) (t_in : t < block.graph.vertices)
    (taken : List ℕ) (taken_are : (u : ℕ) → Has u taken ↔ ((u < block.graph.vertices) × (u ≢ t))) (tree : PQTree)
    (stage : IsStageTree block r taken tree) (owned : HasOwners block taken tree) (v : ℕ) (xs : List ℕ)
    (body : tree.body ≡ P v (map Leaf xs)) where
  -- the graph
  abbrev g : PlainGraph
  g = block.graph

  -- what the owner tells
  owner : Has v taken × ((a b : ℕ) → AreLinkedBehind (start block.graph.ends) (length block.graph.ends) taken v a b
      → AreOnOneSide (map Leaf xs) a b)
  owner = owned v (map Leaf xs) (subst (IsIn (P v (map Leaf xs))) (sym body) itself)

  -- a leaf of the tree that is not in the row is the root
  root-alone : (k : ℕ) → Has k (tree.root ∷ leaves tree.body) → Lacks k xs → tree.root ≡ k
  root-alone k h lacks = ⊎_elim
      (λ same. same)
      (λ there. absurd (has_lacks k xs
      (subst (Has k) (ap leaves body ∙ leaves_P v (map Leaf xs) ∙ row-leaves_are xs) there) lacks))
      h

  -- t and the owner are a bond
  pub sole-IsBond : IsBond (as_named g) t v
  sole-IsBond = record {
    differ = λ same. ((taken_are v).0 owner.0).1 (sym same);
    no_loop = λ k c same. ((taken_are (far (as_named g) t k)).0
        (t-edge g well.within well.no_loop well.one_block well.each_has_edge t t_in taken taken_are k c).4).1 same;
    one_each = λ k f ck cf off c.
        let a = t-edge g well.within well.no_loop well.one_block well.each_has_edge t t_in taken taken_are k ck in
        let b = t-edge g well.within well.no_loop well.one_block well.each_has_edge t t_in taken taken_are f cf in
        let off_f : far (as_named g) t f ≢ v =
        λ at_v. off (ConnectedWithout-second (as_named g) t v (far (as_named g) t k)
        (subst (ConnectedWithout (as_named g) t v (far (as_named g) t k)) at_v c))
        in
        ⊎_elim
        (λ same. same)
        (λ none. sym (root-alone k ((stage.leaves_are k).1 (dart_at g.ends t k, a.2, a.5)) none.0)
        ∙ root-alone f ((stage.leaves_are f).1 (dart_at g.ends t f, b.2, b.5)) none.1)
        (leaf_sides xs k f (owner.1 k f (record {
          from = dart_at g.ends t k;
          to = dart_at g.ends t f;
          from_is = a.2;
          to_is = b.2;
          from_leads = a.5;
          to_leads = b.5;
          from_apart = λ is. off (sym a.3 ∙ is);
          to_apart = λ is. off_f (sym b.3 ∙ is);
          walk = subst (λ u. Reaches (start g.ends) (length g.ends) taken v u (start g.ends (twin (dart_at g.ends t
              f))))
              (sym a.3) (subst (Reaches (start g.ends) (length g.ends) taken v (far (as_named g) t k)) (sym b.3)
              (walk_taken g well.within well.no_loop well.one_block well.each_has_edge t t_in taken taken_are v
              (far (as_named g) t k) (far (as_named g) t f) c));
        })));
    reach = λ k c off.
        let a = t-edge g well.within well.no_loop well.one_block well.each_has_edge t t_in taken taken_are k c in
        let p = (taken_are (far (as_named g) t k)).0 a.4 in
        let o = (taken_are v).0 owner.0 in
        entered g well.within well.no_loop well.one_block well.each_has_edge t t_in taken taken_are v
        (far (as_named g) t k) o.1 off p.0 o.0 p.1;
  }

-- the tree of a vertex with what was kept of its building is well formed
pub way-IsWellFormed : (block : ListedGraph) (t first : ℕ) (frames : List Frame) (tree : PQTree)
    → IsUnwindable block t first frames tree → IsWellFormed tree
way-IsWellFormed block t first frames tree way =
    (built-stage block way.well way.order way.later way.root way.order_is frames tree (length way.order - 1)
    (omega (arith, way.frame_each)) way.built).formed

-- its vertex and the owner of its body are a bond
pub way-IsBond : (block : ListedGraph) (t first : ℕ) (frames : List Frame) (tree : PQTree)
    → IsUnwindable block t first frames tree → (v : ℕ) → IsSoleP tree v → IsBond (as_named block.graph) t v
way-IsBond block t first frames tree way v sole =
    let rd = root_dart block way.well way.order way.later way.root way.order_is in
    let last : ℕ = length way.order - 1 in
    let place : suc (length (reverse frames)) ≡ last = omega (arith, length-reverse frames, way.frame_each) in
    let stage = built-stage block way.well way.order way.later way.root way.order_is frames tree last
    (omega (arith, way.frame_each)) way.built
    in
    let owned : HasOwners block (taken_at way.order last) tree =
    subst (λ i. HasOwners block (taken_at way.order i) tree) place
    (built-HasOwners block way.well way.order way.later way.root way.order_is (reverse frames) tree way.built
    (omega (arith, length-reverse frames, way.frame_each)))
    in
    let within : last_of way.order < block.graph.vertices =
    (order-within block way.well way.order way.later way.root way.order_is (last_of way.order)).0
    (Has_at way.order last (omega (arith, way.frame_each)))
    in
    subst (λ u. IsBond (as_named block.graph) u v) way.last
    (sole-IsBond block way.well (last_of way.order) (dart_at block.graph.ends (last_of way.order) way.root) within
    (taken_at way.order last)
    (λ u. last_taken-Has block.graph way.well.within way.well.no_loop (slice_index way.order 0) (last_of way.order)
    way.order way.order_is.bipolar (dart_at block.graph.ends (last_of way.order) way.root) rd.1 rd.3 rd.0 u)
    tree stage owned v sole.0 sole.1)

-- what is said of an owner that is there
pub match_owner : (A : Type 0) (B C : ℕ → Type 0) (found : Option ℕ) → ((v : ℕ) → B v → C v) → MatchOption found A B
    → MatchOption found (Unit {0}) C
match_owner A B C None f m = tt
match_owner A B C (Some v) f m = f v m
