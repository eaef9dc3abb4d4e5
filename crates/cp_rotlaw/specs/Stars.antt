-- Splitting a vertex: one vertex for each component that an edge of it enters once it is removed.
use Rattle.std.specs.Prelude.{◌≡◌, ◌≢◌, ◌↔◌, ℕ, zero, suc, ◌+◌, ◌/◌, ◌<◌, ◌≤◌, ◌==◌, cond}
use Rattle.std.specs.List.{filter}
use Rattle.cp_orbits.specs.Connected.{Connected}
use Rattle.cp_conn.specs.CutVertex.{without_vertex}
use Rattle.cp_conn.specs.Blocks.{AreInOneBlock}
use Rattle.cp_rot.specs.Systems.{System, darts, edges, vertex_of, list_of}
use Rattle.cp_faces.specs.Twins.{twin}
use Rattle.cp_rot.specs.Genus.{end_pairs, Joined}

-- a dart of u: it stands there
pub record IsDartOf (r : System) (u d : ℕ) : Type 0 where
  pub within : d < darts r
  pub stands : vertex_of r d ≡ u

-- darts d and f of u enter one component of the system without u
abbrev pub EnterOne : System → ℕ → ℕ → ℕ → Type 0
EnterOne r u d f = Connected (without_vertex u (end_pairs r.at)) (vertex_of r (twin d)) (vertex_of r (twin f))

-- part tells for each dart of u the number of the component that it enters: the components are numbered from 0
-- by the least of the edges of u that enter them
pub record AreParts (r : System) (u : ℕ) (parts : ℕ) (part : ℕ → ℕ) : Type 0 where
  pub below : (d : ℕ) → IsDartOf r u d → part d < parts
  pub same : (d f : ℕ) → IsDartOf r u d → IsDartOf r u f → (part d ≡ part f) ↔ EnterOne r u d f
  pub least : (i : ℕ) → i < parts → (d : ℕ) × IsDartOf r u d × (part d ≡ i) × ((f : ℕ) → IsDartOf r u f → i ≤ part f
      → d / 2 ≤ f / 2)

-- the number of the vertex that part i gets: the first stays u, and the others come behind all vertices
abbrev pub star_vertex : System → ℕ → ℕ → ℕ
star_vertex r u zero = u
star_vertex r u (suc i) = r.vertices + i

-- s is r with u split into one vertex for each part, each with the darts of its part in the order that they had
pub record IsSplitIntoParts (r : System) (u : ℕ) (parts : ℕ) (part : ℕ → ℕ) (s : System) : Type 0 where
  pub vertices : s.vertices + 1 ≡ r.vertices + parts
  pub size : darts s ≡ darts r
  pub stand : (d : ℕ) → d < darts r → vertex_of s d ≡ cond (vertex_of r d == u) (star_vertex r u (part d))
      (vertex_of r d)
  pub others : (v : ℕ) → v < r.vertices → v ≢ u → list_of s v ≡ list_of r v
  pub stars : (i : ℕ) → i < parts → list_of s (star_vertex r u i) ≡ filter (λ d. part d == i) (list_of r u)

-- s is r with u split by the components that its edges enter
pub record IsStarSplit (r : System) (u : ℕ) (s : System) : Type 0 where
  pub parts : ℕ
  pub part : ℕ → ℕ
  pub are_parts : AreParts r u parts part
  pub split : IsSplitIntoParts r u parts part s
  pub apart : (i j : ℕ) → i < j → j < parts → Joined s (star_vertex r u i) (star_vertex r u j) → ⊥

-- two edges are in one block of the one exactly where they are in one block of the other
abbrev pub HaveSameBlocks : System → System → Type 0
HaveSameBlocks r s = (e f : ℕ) → e < edges r → f < edges r → AreInOneBlock (end_pairs r.at) e f ↔ AreInOneBlock (end_pairs s.at) e f
