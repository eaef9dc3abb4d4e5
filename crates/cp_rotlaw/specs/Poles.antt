-- Two poles of a rotation system, and the parallel parts between them in another order (Bläsius, Fink, Rutter 2021).
use Rattle.std.specs.Prelude.{◌≡◌, ◌≢◌, ℕ, ◌+◌, ◌*◌, ◌<◌, List}
use Rattle.cp_conn.specs.NamedGraphs.{NamedGraph}
use Rattle.cp_rot.specs.Rewrites.{values}
use Rattle.cp_rot.specs.Systems.{System, edges, list_of, vertex_of}

-- the graph of a system, whose vertices and edges are named by their numbers
abbrev pub graph_of : System → NamedGraph
graph_of r = record {
  verts = values r.vertices (λ v. v);
  edges = values (edges r) (λ e. e);
  ends = λ e. (vertex_of r (2 * e), vertex_of r (2 * e + 1));
}

-- s is r with this list of darts at u, and some list at v: its graph and all other lists are those of r
pub record IsPermutedAt (r : System) (u v : ℕ) (order : List ℕ) (s : System) : Type 0 where
  pub vertices : s.vertices ≡ r.vertices
  pub at : s.at ≡ r.at
  pub first : list_of s u ≡ order
  pub others : (w : ℕ) → w < r.vertices → w ≢ u → w ≢ v → list_of s w ≡ list_of r w
