-- What the search between two vertices of a graph finds: the components without them, and edges that enter these.
use Rattle.std.specs.Prelude.{◌≡◌, ◌≢◌, ℕ, ◌<◌, ◌↔◌, List, length, map, take, Option, Some, None, slice_index, slice_index_or}
use Rattle.std.specs.List.{All, Contains}
use Rattle.cp_conn.specs.Bonds.{ConnectedWithout, IsBond, GoesOn}
use Rattle.cp_conn.specs.NamedGraphs.{NamedGraph, edges_at, far, rank}

-- the number of a vertex, by the place of its name
abbrev pub number_of : NamedGraph → List ℕ → ℕ → ℕ
number_of g numbers x = slice_index numbers (rank g.verts x)

-- the numbers tell which vertices are connected where u and v are removed
pub record AreNumbersBetween (g : NamedGraph) (u v : ℕ) (numbers : List ℕ) : Type 0 where
  pub one_each : length numbers ≡ length g.verts
  pub below : (x : ℕ) → Contains g.verts x → number_of g numbers x < length numbers
  pub tells : (x y : ℕ) → Contains g.verts x → Contains g.verts y
      → (number_of g numbers x ≡ number_of g numbers y) ↔ ConnectedWithout g u v x y

-- the edge that the table has for a number
abbrev pub entry : List (Option ℕ) → ℕ → Option ℕ
entry table p = slice_index_or table p None

-- the table has for each number some edge of those of v with this number, where there is one
pub record AreEntries (g : NamedGraph) (v : ℕ) (numbers es : List ℕ) (table : List (Option ℕ)) : Type 0 where
  pub one_each : length table ≡ length numbers
  pub from : (p f : ℕ) → entry table p ≡ Some f → Contains es f × (number_of g numbers (far g v f) ≡ p)
  pub all : (f : ℕ) → Contains es f → entry table (number_of g numbers (far g v f)) ≢ None

-- after the first k edges of u: each has its edge onward, and the table has lost those that were taken
pub record AreTaken (g : NamedGraph) (u v : ℕ) (numbers : List ℕ) (k : ℕ) (table : List (Option ℕ))
    (along : List (ℕ × ℕ)) : Type 0 where
  pub one_each : length table ≡ length numbers
  pub edges : map (λ x. x.0) along ≡ take k (edges_at g u)
  pub onward : All (λ x. GoesOn g u v x.0 x.1) along
  pub left : (p f : ℕ) → entry table p ≡ Some f
      → Contains (edges_at g v) f × (number_of g numbers (far g v f) ≡ p)
      × ((j : ℕ) → j < k → far g u (slice_index (edges_at g u) j) ≢ v
      → number_of g numbers (far g u (slice_index (edges_at g u) j)) ≢ p)
  pub gone : (f : ℕ) → Contains (edges_at g v) f → entry table (number_of g numbers (far g v f)) ≡ None
      → (j : ℕ) × (j < k) × (far g u (slice_index (edges_at g u) j) ≢ v)
      × (number_of g numbers (far g u (slice_index (edges_at g u) j)) ≡ number_of g numbers (far g v f))
  pub apart : (j l : ℕ) → j < k → l < k → far g u (slice_index (edges_at g u) j) ≢ v
      → far g u (slice_index (edges_at g u) l) ≢ v
      → number_of g numbers (far g u (slice_index (edges_at g u) j))
      ≡ number_of g numbers (far g u (slice_index (edges_at g u) l))
      → j ≡ l

-- each edge of u with an edge of v as which it goes on along the bond of the two
pub record IsAlongBond (g : NamedGraph) (u v : ℕ) (along : List (ℕ × ℕ)) : Type 0 where
  pub bond : IsBond g u v
  pub edges : map (λ x. x.0) along ≡ edges_at g u
  pub onward : All (λ x. GoesOn g u v x.0 x.1) along
