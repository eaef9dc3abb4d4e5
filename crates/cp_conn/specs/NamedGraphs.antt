-- Graphs whose vertices and edges have names: instances of synchronized planarity keep names over all steps
-- (Bläsius, Fink, Rutter 2021).
use Rattle.std.specs.Prelude.{◌≡◌, ℕ, Bool, true, cond, ◌||◌, ◌↔◌, eqb, List, map}
use Rattle.std.specs.List.{filter, Contains, list_all, position_or_len}
use Rattle.cp_conn.specs.Blocks.{AreInOneBlock}
use Rattle.cp_conn.specs.CutVertex.{IsCutVertex}

-- the names of the vertices and of the edges, and the two ends of each edge
pub record NamedGraph : Type 0 where
  pub verts : List ℕ
  pub edges : List ℕ
  pub ends : ℕ → ℕ × ℕ

-- the place of n among some names, or their number where it is none of them
abbrev pub rank : List ℕ → ℕ → ℕ
rank names n = position_or_len (λ name. eqb name n) names

-- the two ends of each edge, in the order of the edges
abbrev pub pairs : NamedGraph → List (ℕ × ℕ)
pairs g = map g.ends g.edges

-- one end of edge e is v
abbrev pub ends_at : NamedGraph → ℕ → ℕ → Bool
ends_at g v e = eqb (g.ends e).0 v || eqb (g.ends e).1 v

-- the edges with an end v, in the order of the edges
abbrev pub edges_at : NamedGraph → ℕ → List ℕ
edges_at g v = filter (ends_at g v) g.edges

-- the end of edge e that is not v, or v where e is a loop at v
abbrev pub far : NamedGraph → ℕ → ℕ → ℕ
far g v e = cond (eqb (g.ends e).0 v) (g.ends e).1 (g.ends e).0

-- the edges of u in the list all end at v
abbrev pub all_end_at : NamedGraph → ℕ → ℕ → List ℕ → Bool
all_end_at g u v es = list_all (λ e. eqb (far g u e) v) es

-- the graph with those edges alone that pass a test
abbrev pub only : (ℕ → Bool) → NamedGraph → NamedGraph
only inside g = record { verts = g.verts; edges = filter inside g.edges; ends = g.ends }

-- edges e and f are equal or lie on one simple cycle (Whitney 1932)
abbrev pub InOneBlock : NamedGraph → ℕ → ℕ → Type 0
InOneBlock g e f = AreInOneBlock (pairs g) (rank g.edges e) (rank g.edges f)

-- the test tells the edges of the block of e
pub record IsBlockOf (g : NamedGraph) (e : ℕ) (inside : ℕ → Bool) : Type 0 where
  pub live : Contains g.edges e
  pub tells : (f : ℕ) → Contains g.edges f → (inside f ≡ true) ↔ InOneBlock g e f

-- removing v parts the edges of v (Hopcroft, Tarjan 1973)
abbrev pub IsCut : NamedGraph → ℕ → Type 0
IsCut g v = IsCutVertex (pairs g) v
