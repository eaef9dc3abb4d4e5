-- Bonds: two vertices that are the poles of parallel subgraphs (Bläsius, Fink, Rutter 2021; skeletons of P-nodes:
-- Di Battista, Tamassia 1996).
use Rattle.std.specs.Prelude.{◌≡◌, ◌≢◌, ℕ, ◌⊎◌}
use Rattle.std.specs.List.{Contains}
use Rattle.cp_orbits.specs.Connected.{Connected}
use Rattle.cp_conn.specs.CutVertex.{without_vertex}
use Rattle.cp_conn.specs.NamedGraphs.{NamedGraph, pairs, edges_at, far}

-- x and y are connected where u and v are removed
abbrev pub ConnectedWithout : NamedGraph → ℕ → ℕ → ℕ → ℕ → Type 0
ConnectedWithout g u v x y = Connected (without_vertex u (without_vertex v (pairs g))) x y

-- v is adjacent to each component of the rest in which an edge of u ends, and no two edges of u end in one:
-- u and v are the poles of parallel subgraphs, one for each edge of u
pub record IsBond (g : NamedGraph) (u v : ℕ) : Type 0 where
  pub differ : u ≢ v
  pub no_loop : (e : ℕ) → Contains (edges_at g u) e → far g u e ≢ u
  pub one_each : (e f : ℕ) → Contains (edges_at g u) e → Contains (edges_at g u) f → far g u e ≢ v
      → ConnectedWithout g u v (far g u e) (far g u f) → e ≡ f
  pub reach : (e : ℕ) → Contains (edges_at g u) e → far g u e ≢ v
      → (f : ℕ) × Contains (edges_at g v) f × ConnectedWithout g u v (far g u e) (far g v f)

-- along a bond of u and v the edge e of u goes on as edge f of v: e itself where it ends at v, or else an edge
-- of v into the same component
abbrev pub GoesOn : NamedGraph → ℕ → ℕ → ℕ → ℕ → Type 0
GoesOn g u v e f =
    ((far g u e ≡ v) × (f ≡ e))
    ⊎ ((far g u e ≢ v) × Contains (edges_at g v) f × ConnectedWithout g u v (far g u e) (far g v f))

-- the function tells as what edge of v each edge of u goes on
abbrev pub IsAlong : NamedGraph → ℕ → ℕ → (ℕ → ℕ) → Type 0
IsAlong g u v along = (e : ℕ) → Contains (edges_at g u) e → GoesOn g u v e (along e)
