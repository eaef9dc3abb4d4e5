-- Rotations of a graph whose vertices and edges have names (Heffter 1891, Edmonds 1960).
use Rattle.std.specs.Prelude.{ℕ, ◌+◌, ◌*◌, cond, eqb, List, [], ◌∷◌, length, map}
use Rattle.std.specs.List.{All, flat_map}
use Rattle.std.specs.List.Sorted.{IsPermutation}
use Rattle.cp_rot.specs.Systems.{System}
use Rattle.cp_rot.specs.Genus.{HasGenusZero}
use Rattle.cp_conn.specs.NamedGraphs.{NamedGraph, edges_at, rank}

-- the list holds each edge of v exactly once, and nothing else
abbrev pub ArrangesEdges : NamedGraph → ℕ → List ℕ → Type 0
ArrangesEdges g v xs = IsPermutation (edges_at g v) xs

-- the dart of edge e at its end v, where vertices and edges are numbered in the order of their names
abbrev pub dart : NamedGraph → ℕ → ℕ → ℕ
dart g v e = 2 * rank g.edges e + cond (eqb (g.ends e).0 v) 0 1

-- the rotation system in which each vertex has the list of edges that s tells
abbrev pub system : NamedGraph → (ℕ → List ℕ) → System
system g s = record {
  vertices = length g.verts;
  at = flat_map (λ e. rank g.verts (g.ends e).0 ∷ rank g.verts (g.ends e).1 ∷ []) g.edges;
  lists = map (λ v. map (dart g v) (s v)) g.verts;
}

-- s tells a list of each vertex that holds each of its edges once, and the rotation system has Euler genus zero
pub record IsRotationOf (g : NamedGraph) (s : ℕ → List ℕ) : Type 0 where
  pub arranged : All (λ v. ArrangesEdges g v (s v)) g.verts
  pub flat : HasGenusZero (system g s)
