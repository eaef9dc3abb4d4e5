-- What the components of two vertices tell of them is so in the whole graph.
use Rattle.std.proofs.Common.{◌≡◌, ◌≢◌, ℕ, List, map, slice_index_or, sym, ◌∙◌, subst, ⊎_elim}
use Rattle.std.specs.List.{All, Contains}
use Rattle.std.proofs.lemmas.List.Elements.{Contains-get_or}
use Rattle.cp_lists.specs.CyclicLists.{Distinct}
use Rattle.cp_conn.specs.Bonds.{GoesOn, IsBond}
use Rattle.cp_conn.specs.NamedGraphs.{NamedGraph, edges_at, far}
use Rattle.cp_conn.proofs.NamedGraphs.{Contains-edges_at, edges_at-Contains, far_joins, map_has}
use Rattle.cp_board.specs.Instances.{Synchronized, IsSynchronized, edge_names, edges_of, graph}
use Rattle.cp_board.proofs.NamedLists.{rises_from}
use Rattle.cp_board.proofs.NumberOfNewNames.{Distinct-from_rises}
use Rattle.cp_local.specs.LocalGraphs.{IsClosedPart, part}
use Rattle.cp_local.proofs.ClosedParts.{part_GoesOn, part_IsBond, part_edges_at}
use Rattle.cp_synclaw.proofs.InstanceDarts.{far_differs}
use Rattle.cp_poles.specs.Between.{IsAlongBond}
use Rattle.cp_poles.specs.LocalBonds.{IsBetween, local_part}
use Rattle.cp_poles.specs.declared.bonds.Between.{Between}

module _ (i : Synchronized) (is : IsSynchronized i) (verts edges : List ℕ) (closed : IsClosedPart i verts edges) where
  -- the part
  abbrev g : NamedGraph
  g = part i verts edges

  -- an edge of a vertex in the part is one in the graph
  edge_whole : (w e : ℕ) → Contains (edges_at g w) e → Contains (edges_of i w) e
  edge_whole w e c =
      let h = edges_at-Contains g w e c in Contains-edges_at (graph i) w e (closed.edges_live e h.0) h.1

  -- its far end is in the part
  pub local_far : (w e : ℕ) → Contains (edges_at g w) e → Contains verts (far g w e)
  local_far w e c =
      let h = edges_at-Contains g w e c in
      let ends = closed.ends_within e h.0 in
      ⊎_elim
      (λ j. subst (Contains verts) j.1 ends.1)
      (λ j. subst (Contains verts) j.0 ends.0)
      (far_joins g w e h.1)

  -- no edge of the part is a loop
  pub local_far_differs : (w e : ℕ) → Contains (edges_at g w) e → far g w e ≢ w
  local_far_differs w e c = far_differs i is w e (edge_whole w e c)

  -- each edge stands once in it
  pub local_edges_once : Distinct edges
  local_edges_once = Distinct-from_rises edges (rises_from edges closed.edges_rise)

  -- what goes on along a bond in the part does so in the graph
  pub IsAlongBond-whole : (u v : ℕ) → Contains verts u → Contains verts v → (along : List (ℕ × ℕ))
      → IsAlongBond g u v along → IsAlongBond (graph i) u v along
  IsAlongBond-whole u v cu cv along on = record {
    bond = (part_IsBond i verts edges closed u v cu cv).0 on.bond;
    edges = on.edges ∙ part_edges_at i verts edges closed is u cu;
    onward = onward_whole along (on.edges ∙ part_edges_at i verts edges closed is u cu) on.onward;
  }
    where
      onward_whole : (xs : List (ℕ × ℕ)) → map (λ x. x.0) xs ≡ edges_of i u
          → All (λ x. GoesOn g u v x.0 x.1) xs → All (λ x. GoesOn (graph i) u v x.0 x.1) xs
      onward_whole xs same all k d lt =
          let x : ℕ × ℕ = slice_index_or xs k d in
          let c : Contains (edges_of i u) x.0 =
          subst (λ zs. Contains zs x.0) same (map_has (λ (y : ℕ × ℕ). y.0) xs x (Contains-get_or xs k d lt)) in
          (part_GoesOn i verts edges closed u v x.0 x.1 cu cv c).0 (all k d lt)

-- the components of u and v, and numbers of the components without the two
module _ (i : Synchronized) (u v : ℕ) (b : Between) (are : IsBetween i u v b) where
  -- the components as a graph
  abbrev h : NamedGraph
  h = local_part i b

  -- the closed part
  closed : IsClosedPart i b.local.verts b.local.edges
  closed = are.components.closed

  -- u has the edges of the graph there
  pub first_edges : edges_of i u ≡ edges_at h u
  first_edges =
      sym (part_edges_at i b.local.verts b.local.edges closed are.rules u are.components.first)

  -- and so has v
  pub second_edges : edges_of i v ≡ edges_at h v
  second_edges =
      sym (part_edges_at i b.local.verts b.local.edges closed are.rules v are.components.second)

  -- an edge of a vertex there is live
  pub edge_live : (w e : ℕ) → Contains (edges_at h w) e → Contains (edge_names i) e
  edge_live w e c = closed.edges_live e (edges_at-Contains h w e c).0

  -- its far end is there
  pub far_there : (w e : ℕ) → Contains (edges_at h w) e → Contains h.verts (far h w e)
  far_there = local_far i are.rules b.local.verts b.local.edges closed

  -- it is no loop
  pub far_other : (w e : ℕ) → Contains (edges_at h w) e → far h w e ≢ w
  far_other = local_far_differs i are.rules b.local.verts b.local.edges closed

  -- each edge stands once there
  pub edges_once : Distinct h.edges
  edges_once = local_edges_once i are.rules b.local.verts b.local.edges closed

  -- what goes on there goes on in the graph
  pub along_whole : (along : List (ℕ × ℕ)) → IsAlongBond h u v along → IsAlongBond (graph i) u v along
  along_whole = IsAlongBond-whole i are.rules b.local.verts b.local.edges closed u v are.components.first
      are.components.second

  -- a bond is one there
  pub bond_there : IsBond (graph i) u v → IsBond h u v
  bond_there = (part_IsBond i b.local.verts b.local.edges closed u v are.components.first are.components.second).1
