-- Darts for the edges of a graph whose vertices and edges have names.
use Rattle.std.specs.Prelude.{◌≡◌, ℕ, ◌≢◌, List, map, ◌↔◌}
use Rattle.std.specs.List.{Contains}
use Rattle.cp_lists.specs.CyclicLists.{Distinct, Has}
use Rattle.cp_faces.specs.Twins.{twin}
use Rattle.cp_conn.specs.NamedGraphs.{NamedGraph, edges_at, far}

-- dart w e is the dart of edge e at its end w: vertex and edge can be read off it, and at the far end stands its twin
pub record AreDartsOf (g : NamedGraph) (dart : ℕ → ℕ → ℕ) : Type 0 where
  pub at : ℕ → ℕ
  pub edge_of : ℕ → ℕ
  pub placed : (w e : ℕ) → Contains (edges_at g w) e → at (dart w e) ≡ w
  pub named : (w e : ℕ) → Contains (edges_at g w) e → edge_of (dart w e) ≡ e
  pub twins : (w e : ℕ) → Contains (edges_at g w) e → dart (far g w e) e ≡ twin (dart w e)

-- the darts of a vertex in the order that s tells for its edges
abbrev pub dart_list : (ℕ → ℕ → ℕ) → (ℕ → List ℕ) → ℕ → List ℕ
dart_list dart s w = map (dart w) (s w)

-- a graph without loops between its vertices, and for each vertex a list of exactly its edges
pub record IsArrangedBy (g : NamedGraph) (s : ℕ → List ℕ) : Type 0 where
  pub once_verts : Distinct g.verts
  pub once_edges : Distinct g.edges
  pub ends_in : (w e : ℕ) → Contains (edges_at g w) e → Has w g.verts
  pub no_loop : (w e : ℕ) → Contains (edges_at g w) e → far g w e ≢ w
  pub arranged : (w e : ℕ) → Has w g.verts → Has e (s w) ↔ Contains (edges_at g w) e
