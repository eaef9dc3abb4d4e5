-- The components of two vertices of an instance, as a graph of their own.
use Rattle.std.specs.Prelude.{◌≡◌, ℕ, ◌⊎◌, List}
use Rattle.std.specs.List.{Contains}
use Rattle.std.specs.List.Sorted.{IsStrictlyIncreasing}
use Rattle.cp_orbits.specs.Connected.{Connected}
use Rattle.cp_conn.specs.NamedGraphs.{NamedGraph, pairs}
use Rattle.cp_board.specs.Instances.{Synchronized, edge_names, edges_of, ends_of, graph, vert_names}
use Rattle.cp_sync.specs.Numbering.{numbered}
use Rattle.cp_local.specs.declared.part.LocalGraph.{LocalGraph}

-- some vertices and edges of an instance, with the ends that these edges have there
abbrev pub part : Synchronized → List ℕ → List ℕ → NamedGraph
part i verts edges = record { verts = verts; edges = edges; ends = ends_of i }

-- live vertices and edges, rising: all edges of these vertices, and both ends of these edges
pub record IsClosedPart (i : Synchronized) (verts edges : List ℕ) : Type 0 where
  pub verts_rise : IsStrictlyIncreasing verts
  pub edges_rise : IsStrictlyIncreasing edges
  pub verts_live : (x : ℕ) → Contains verts x → Contains (vert_names i) x
  pub edges_live : (e : ℕ) → Contains edges e → Contains (edge_names i) e
  pub whole : (x e : ℕ) → Contains verts x → Contains (edges_of i x) e → Contains edges e
  pub ends_within : (e : ℕ) → Contains edges e → Contains verts (ends_of i e).0 × Contains verts (ends_of i e).1

-- x is connected to u or to v
abbrev pub IsReached : Synchronized → ℕ → ℕ → ℕ → Type 0
IsReached i u v x = Connected (pairs (graph i)) u x ⊎ Connected (pairs (graph i)) v x

-- the vertices and the edges of the components of u and v, and no more
pub record AreComponents (i : Synchronized) (u v : ℕ) (verts edges : List ℕ) : Type 0 where
  pub closed : IsClosedPart i verts edges
  pub first : Contains verts u
  pub second : Contains verts v
  pub reached : (x : ℕ) → Contains verts x → IsReached i u v x

-- the graph of the components of u and v, numbered in the order of the names
pub record IsLocalGraph (i : Synchronized) (u v : ℕ) (found : LocalGraph) : Type 0 where
  pub components : AreComponents i u v found.verts found.edges
  pub graph : found.graph ≡ numbered (part i found.verts found.edges)
