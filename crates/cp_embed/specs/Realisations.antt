-- Rotation systems of a graph in the plane that have a given cyclic order at one vertex, and keep given lists at the
-- others.
use Rattle.std.specs.Prelude.{◌≡◌, ◌≢◌, ℕ, ◌<◌, Bool, Option, List, length, map}
use Rattle.cp_lists.specs.Turns.{IsTurn}
use Rattle.cp_base.specs.Graphs.{PlainGraph}
use Rattle.cp_conn.specs.Darts.{start}
use Rattle.cp_rot.specs.Genus.{HasGenusZero}
use Rattle.cp_rot.specs.Systems.{System, IsRotation, darts, edges, vertex_of, list_of}
use Rattle.cp_embed.specs.Directions.{KeepsDirection, edge_of}

-- the edges round a vertex of a rotation system, counterclockwise
abbrev pub edges_round : System → ℕ → List ℕ
edges_round r v = map edge_of (list_of r v)

-- a rotation system of the graph: it has the vertices of the graph, and the two darts of each edge stand at its ends
pub record IsRotationOfGraph (g : PlainGraph) (r : System) : Type 0 where
  pub rotation : IsRotation r
  pub vertices : r.vertices ≡ g.vertices
  pub edges_are : edges r ≡ length g.ends
  pub at_ends : (d : ℕ) → d < darts r → vertex_of r d ≡ start g.ends d

-- the system is one of the graph in the plane, the edges round t have the cyclic order, and each other vertex with a
-- given
-- list keeps it in the direction of its bit
pub record Realises (g : PlainGraph) (psi : ℕ → Option (List ℕ)) (t : ℕ) (order : List ℕ) (bit : ℕ → Bool)
    (r : System) : Type 0 where
  pub of_graph : IsRotationOfGraph g r
  pub plane : HasGenusZero r
  pub order_is : IsTurn order (edges_round r t)
  pub lists_kept : (v : ℕ) → v < g.vertices → v ≢ t → KeepsDirection (psi v) (bit v) (edges_round r v)

-- some rotation system has the cyclic order at t, and the given lists by the bits
abbrev pub IsRealised : PlainGraph → (ℕ → Option (List ℕ)) → ℕ → List ℕ → (ℕ → Bool) → Type 0
IsRealised g psi t order bit = (r : System) × Realises g psi t order bit r
