-- Whole components of an instance: what holds of them as a graph of their own holds of them in the graph.
use Rattle.std.proofs.Common.{◌≡◌, ◌≢◌, ℕ, ◌<◌, ◌↔◌, Bool, List, length, map, get_or, sym, ap, ◌∙◌, subst, inl, inr, ⊎_elim, arith}
use Rattle.std.specs.List.{Contains, filter, flat_map}
use Rattle.std.specs.List.Sorted.{IsPermutation}
use Rattle.std.proofs.lemmas.List.{get_or-map, length-map}
use Rattle.std.proofs.lemmas.List.Elements.{Contains-get_or}
use Rattle.std.proofs.lemmas.List.Kept.{IsStrictlyIncreasing-filter}
use Rattle.cp_orbits.specs.Connected.{Connected, Joins, here, step}
use Rattle.cp_orbits.proofs.ClassLabels.{Connected-more}
use Rattle.cp_base.specs.Graphs.{AreWithin}
use Rattle.cp_conn.specs.Blocks.{HaveNoLoop}
use Rattle.cp_conn.specs.Bonds.{ConnectedWithout, GoesOn, IsBond}
use Rattle.cp_conn.specs.CutVertex.{avoids, without_vertex}
use Rattle.cp_conn.specs.NamedGraphs.{NamedGraph, edges_at, ends_at, far, pairs}
use Rattle.cp_conn.proofs.CutVertices.{kept_of, kept_pair}
use Rattle.cp_conn.proofs.NamedGraphs.{Contains-edges_at, edges_at-Contains, far_joins, joins_ends, pairs_from, pairs_have, rank_at}
use Rattle.cp_board.specs.Instances.{IsSynchronized, Synchronized, edge_names, edges_of, ends_of, graph, vert_names}
use Rattle.cp_board.specs.Joins.{ArePartsAt}
use Rattle.cp_sync.specs.Numbering.{numbered_ends}
use Rattle.cp_sync.proofs.EqualOrders.{rising_same}
use Rattle.cp_sync.proofs.NumberedGraphs.{AreWithin-numbered, live_ends}
use Rattle.cp_local.specs.LocalGraphs.{IsClosedPart, part}

-- a walk stays inside and goes by the pairs fs, where each pair of es that leaves the inside does
carried : (es fs : List (ℕ × ℕ)) (inside : ℕ → Type 0) (x y : ℕ)
    → ((e : ℕ × ℕ) (a b : ℕ) → Contains es e → Joins e a b → inside a → Contains fs e × inside b)
    → inside x → Connected es x y → inside y × Connected fs x y
carried es fs inside x y on ix here = (ix, here)
carried es fs inside x y on ix (step {y = w} c e k j) =
    let r = carried es fs inside x w on ix c in
    let s = on e w y k j r.0 in
    (s.1, step r.1 e s.0 j)

module _ (i : Synchronized) (verts edges : List ℕ) (closed : IsClosedPart i verts edges) where
  -- the part
  abbrev pub local : NamedGraph
  local = part i verts edges

  -- the ends of an edge of the part are vertices of the part, and the edge is no loop
  pub part_live_ends : IsSynchronized i → (e : ℕ) → Contains edges e
      → Contains verts (ends_of i e).0 × Contains verts (ends_of i e).1 × ((ends_of i e).0 ≢ (ends_of i e).1)
  part_live_ends is e c =
      let w = closed.ends_within e c in
      (w.0, w.1, (live_ends i is e (closed.edges_live e c)).2)

  -- the numbered ends are numbers of vertices of the part
  pub part-AreWithin : AreWithin (length verts) (map (numbered_ends local) edges)
  part-AreWithin = AreWithin-numbered local closed.ends_within

  -- and no edge of the numbered part is a loop
  pub part-HaveNoLoop : IsSynchronized i → HaveNoLoop (map (numbered_ends local) edges)
  part-HaveNoLoop is k lt same =
      let below : k < length edges = omega (arith, lt, length-map edges (numbered_ends local)) in
      let e = get_or edges k 0 in
      let c = part_live_ends is e (Contains-get_or edges k 0 below) in
      let at = get_or-map (numbered_ends local) edges k 0 (0, 0) below in
      c.2 (sym (rank_at verts (ends_of i e).0 c.0).1
      ∙ ap (λ n. get_or verts n 0) (sym (ap (λ (p : ℕ × ℕ). p.0) at) ∙ same ∙ ap (λ (p : ℕ × ℕ). p.1) at)
      ∙ (rank_at verts (ends_of i e).1 c.1).1)

  -- the far end of an edge of a vertex of the part is one too
  pub part_far : (x e : ℕ) → Contains verts x → Contains (edges_of i x) e → Contains verts (far (graph i) x e)
  part_far x e cx ce =
      let w = closed.ends_within e (closed.whole x e cx ce) in
      ⊎_elim
      (λ j. subst (Contains verts) j.1 w.1)
      (λ j. subst (Contains verts) j.0 w.0)
      (far_joins (graph i) x e (edges_at-Contains (graph i) x e ce).1)

  -- an edge at a vertex of the part is an edge of the vertex in the part, and back
  part_edge : (x e : ℕ) → Contains verts x → Contains (edges_at local x) e ↔ Contains (edges_of i x) e
  part_edge x e cx = (
    λ c. let h = edges_at-Contains local x e c in Contains-edges_at (graph i) x e (closed.edges_live e h.0) h.1,
    λ c. let h = edges_at-Contains (graph i) x e c in Contains-edges_at local x e (closed.whole x e cx c) h.1,
  )

  -- a vertex of the part has the edges that it has in the graph
  pub part_edges_at : IsSynchronized i → (x : ℕ) → Contains verts x → edges_at local x ≡ edges_of i x
  part_edges_at is x cx =
      rising_same (edges_at local x) (edges_of i x)
      (IsStrictlyIncreasing-filter (ends_at local x) edges closed.edges_rise)
      (IsStrictlyIncreasing-filter (ends_at (graph i) x) (edge_names i) is.edges_named.rise)
      (λ e. (part_edge x e cx).0) (λ e. (part_edge x e cx).1)

  -- a pair of the part is one of the graph
  pair_live : (p : ℕ × ℕ) → Contains (pairs local) p → Contains (pairs (graph i)) p
  pair_live p c =
      let h = pairs_from local p c in
      subst (Contains (pairs (graph i))) h.2 (pairs_have (graph i) h.0 (closed.edges_live h.0 h.1))

  -- a pair of the graph that joins a vertex of the part is one of the part, and joins it to one
  pair_within : (p : ℕ × ℕ) (a b : ℕ) → Contains (pairs (graph i)) p → Joins p a b → Contains verts a
      → Contains (pairs local) p × Contains verts b
  pair_within p a b c j ca =
      let h = pairs_from (graph i) p c in
      let e = h.0 in
      let joined : Joins (ends_of i e) a b = subst (λ (q : ℕ × ℕ). Joins q a b) (sym h.2) j in
      let ce = closed.whole a e ca (Contains-edges_at (graph i) a e h.1 (joins_ends (graph i) a b e joined)) in
      let w = closed.ends_within e ce in (
        subst (Contains (pairs local)) h.2 (pairs_have local e ce),
        ⊎_elim (λ k. subst (Contains verts) k.1 w.1) (λ k. subst (Contains verts) k.0 w.0) joined,
      )

  -- a vertex of the part is connected in it to what it is connected to in the graph
  pub part_connected : (x y : ℕ) → Contains verts x → Connected (pairs local) x y ↔ Connected (pairs (graph i)) x y
  part_connected x y cx = (
    Connected-more (pairs local) (pairs (graph i)) x y pair_live,
    λ c. (carried (pairs (graph i)) (pairs local) (Contains verts) x y pair_within cx c).1,
  )

  -- what a vertex of the part is connected to is a vertex of the part
  pub part_whole : (x y : ℕ) → Contains verts x → Connected (pairs (graph i)) x y → Contains verts y
  part_whole x y cx c = (carried (pairs (graph i)) (pairs local) (Contains verts) x y pair_within cx c).0

  -- the same for pairs that pass a test
  part_tested : (p : ℕ × ℕ → Bool) (es fs : List (ℕ × ℕ))
      → ((e : ℕ × ℕ) → Contains fs e → Contains es e)
      → ((e : ℕ × ℕ) (a b : ℕ) → Contains es e → Joins e a b → Contains verts a → Contains fs e × Contains verts b)
      → ((e : ℕ × ℕ) → Contains (filter p fs) e → Contains (filter p es) e)
      × ((e : ℕ × ℕ) (a b : ℕ) → Contains (filter p es) e → Joins e a b → Contains verts a
      → Contains (filter p fs) e × Contains verts b)
  part_tested p es fs live within = (
    λ e c. let h = kept_pair p fs e c in kept_of p es e (live e h.0) h.1,
    λ e a b c j ca.
        let h = kept_pair p es e c in
        let w = within e a b h.0 j ca in
        (kept_of p fs e w.0 h.1, w.1),
  )

  -- it is connected so where a vertex is removed
  pub part_connected_but : (u x y : ℕ) → Contains verts x
      → Connected (without_vertex u (pairs local)) x y ↔ Connected (without_vertex u (pairs (graph i))) x y
  part_connected_but u x y cx =
      let t = part_tested (avoids u) (pairs (graph i)) (pairs local) pair_live pair_within in (
        Connected-more (without_vertex u (pairs local)) (without_vertex u (pairs (graph i))) x y t.0,
        λ c. (carried (without_vertex u (pairs (graph i))) (without_vertex u (pairs local)) (Contains verts) x y t.1
            cx c).1,
      )

  -- and where two are
  pub part_connected_without : (u v x y : ℕ) → Contains verts x
      → ConnectedWithout local u v x y ↔ ConnectedWithout (graph i) u v x y
  part_connected_without u v x y cx =
      let s = part_tested (avoids v) (pairs (graph i)) (pairs local) pair_live pair_within in
      let es = without_vertex v (pairs (graph i)) in
      let fs = without_vertex v (pairs local) in
      let t = part_tested (avoids u) es fs s.0 s.1 in (
        Connected-more (without_vertex u fs) (without_vertex u es) x y t.0,
        λ c. (carried (without_vertex u es) (without_vertex u fs) (Contains verts) x y t.1 cx c).1,
      )

  -- the edges of a vertex of the part are in the same parts
  pub part_ArePartsAt : IsSynchronized i → (u : ℕ) (parts : List (List ℕ)) → Contains verts u
      → ArePartsAt local u parts ↔ ArePartsAt (graph i) u parts
  part_ArePartsAt is u parts cu =
      let same = part_edges_at is u cu in (
        λ (p : ArePartsAt local u parts). record {
          whole = subst (λ xs. IsPermutation xs (flat_map (λ l. l) parts)) same p.whole;
          filled = p.filled;
          rise = p.rise;
          by_least = p.by_least;
          one = λ e f ce cf.
              let one = p.one e f ((part_edge u e cu).1 ce) ((part_edge u f cu).1 cf) in
              let b = part_connected_but u (far (graph i) u e) (far (graph i) u f) (part_far u e cu ce) in
              (λ h. b.0 (one.0 h), λ c. one.1 (b.1 c));
        },
        λ (p : ArePartsAt (graph i) u parts). record {
          whole = subst (λ xs. IsPermutation xs (flat_map (λ l. l) parts)) (sym same) p.whole;
          filled = p.filled;
          rise = p.rise;
          by_least = p.by_least;
          one = λ e f ce cf.
              let at = (part_edge u e cu).0 ce in
              let one = p.one e f at ((part_edge u f cu).0 cf) in
              let b = part_connected_but u (far (graph i) u e) (far (graph i) u f) (part_far u e cu at) in
              (λ h. b.1 (one.0 h), λ c. one.1 (b.0 c));
        },
      )

  -- an edge goes on in the part as it does in the graph
  pub part_GoesOn : (u v e f : ℕ) → Contains verts u → Contains verts v → Contains (edges_of i u) e
      → GoesOn local u v e f ↔ GoesOn (graph i) u v e f
  part_GoesOn u v e f cu cv ce =
      let b = part_connected_without u v (far (graph i) u e) (far (graph i) v f) (part_far u e cu ce) in (
        λ g. ⊎_elim inl (λ h. inr (h.0, (part_edge v f cv).0 h.1, b.0 h.2)) g,
        λ g. ⊎_elim inl (λ h. inr (h.0, (part_edge v f cv).1 h.1, b.1 h.2)) g,
      )

  -- two vertices of the part are the poles of a bond in it where they are in the graph
  pub part_IsBond : (u v : ℕ) → Contains verts u → Contains verts v → IsBond local u v ↔ IsBond (graph i) u v
  part_IsBond u v cu cv = (
    λ (b : IsBond local u v). record {
      differ = b.differ;
      no_loop = λ e ce. b.no_loop e ((part_edge u e cu).1 ce);
      one_each = λ e f ce cf off c. b.one_each e f ((part_edge u e cu).1 ce) ((part_edge u f cu).1 cf) off
          ((part_connected_without u v (far (graph i) u e) (far (graph i) u f) (part_far u e cu ce)).1 c);
      reach = λ e ce off.
          let r = b.reach e ((part_edge u e cu).1 ce) off in (
            r.0,
            (part_edge v r.0 cv).0 r.1,
            (part_connected_without u v (far (graph i) u e) (far (graph i) v r.0) (part_far u e cu ce)).0 r.2,
          );
    },
    λ (b : IsBond (graph i) u v). record {
      differ = b.differ;
      no_loop = λ e ce. b.no_loop e ((part_edge u e cu).0 ce);
      one_each = λ e f ce cf off c. b.one_each e f ((part_edge u e cu).0 ce) ((part_edge u f cu).0 cf) off
          ((part_connected_without u v (far (graph i) u e) (far (graph i) u f)
          (part_far u e cu ((part_edge u e cu).0 ce))).0 c);
      reach = λ e ce off.
          let at = (part_edge u e cu).0 ce in
          let r = b.reach e at off in (
            r.0,
            (part_edge v r.0 cv).1 r.1,
            (part_connected_without u v (far (graph i) u e) (far (graph i) v r.0) (part_far u e cu at)).1 r.2,
          );
    },
  )
