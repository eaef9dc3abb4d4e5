-- Vertices and edges numbered in the order of their names.
use Rattle.std.specs.Prelude.{ℕ, length, map}
use Rattle.cp_base.specs.Graphs.{PlainGraph}
use Rattle.cp_conn.specs.NamedGraphs.{NamedGraph, rank}

-- the two ends of an edge, by the places of their names
abbrev pub numbered_ends : NamedGraph → ℕ → ℕ × ℕ
numbered_ends g e = (rank g.verts (g.ends e).0, rank g.verts (g.ends e).1)

-- the graph where each vertex and each edge has the place of its name as its number
abbrev pub numbered : NamedGraph → PlainGraph
numbered g = record { vertices = length g.verts; ends = map (numbered_ends g) g.edges }
