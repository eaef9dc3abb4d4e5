-- Dipoles: two vertices, and edges from one to the other.
use Rattle.std.specs.Prelude.{◌≡◌, ◌≢◌, ℕ, ◌/◌, ◌<◌, List, map, reverse}
use Rattle.cp_lists.specs.Turns.{IsTurn}
use Rattle.cp_rot.specs.Systems.{System, darts, edges, vertex_of, list_of}
use Rattle.cp_faces.specs.Twins.{twin}

-- two vertices, at least one edge, and no loop
pub record IsDipole (r : System) : Type 0 where
  pub two : r.vertices ≡ 2
  pub some : 0 < edges r
  pub no_loop : (d : ℕ) → d < darts r → vertex_of r (twin d) ≢ vertex_of r d

-- the edges round vertex v, counterclockwise
abbrev pub edges_round : System → ℕ → List ℕ
edges_round r v = map (λ d. d / 2) (list_of r v)

-- round the second vertex the edges stand in the reverse of the order that they have round the first
abbrev pub AreReverse : System → Type 0
AreReverse r = IsTurn (reverse (edges_round r 0)) (edges_round r 1)
