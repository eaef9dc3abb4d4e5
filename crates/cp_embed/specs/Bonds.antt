-- Poles of a vertex of a block (Bläsius, Rutter 2016).
use Rattle.std.specs.Prelude.{length, slice_index_or}
use Rattle.std.specs.List.{range_with_len}
use Rattle.cp_base.specs.Graphs.{PlainGraph}
use Rattle.cp_conn.specs.NamedGraphs.{NamedGraph}

-- the graph with its vertices and edges named by their numbers
abbrev pub as_named : PlainGraph → NamedGraph
as_named g = record {
  verts = range_with_len 0 g.vertices;
  edges = range_with_len 0 (length g.ends);
  ends = λ k. slice_index_or g.ends k (0, 0);
}
