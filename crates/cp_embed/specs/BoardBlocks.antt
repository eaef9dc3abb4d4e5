-- Blocks of an instance of synchronized planarity as blocks with lists: vertices and edges are numbered in the order of
-- their names.
use Rattle.std.specs.Prelude.{◌≡◌, ℕ, Bool, cond, Option, Some, None, List, filter, map}
use Rattle.std.specs.List.{list_any}
use Rattle.cp_conn.specs.NamedGraphs.{NamedGraph, IsBlockOf, ends_at, rank}
use Rattle.cp_board.specs.Names.{has}
use Rattle.cp_board.specs.Instances.{Synchronized, edge_names, graph, is_q, psi_at}
use Rattle.cp_sync.specs.Numbering.{numbered}
use Rattle.cp_embed.specs.ListedBlocks.{ListedGraph}
use Rattle.cp_embed.specs.declared.board_blocks.EdgeBlock.{EdgeBlock}

-- v is an end of one of the edges
abbrev pub ends_some : NamedGraph → List ℕ → ℕ → Bool
ends_some g es v = list_any (ends_at g v) es

-- some edges of a graph, with the vertices that are their ends
abbrev pub part_with : NamedGraph → List ℕ → NamedGraph
part_with g es = record { verts = filter (ends_some g es) g.verts; edges = es; ends = g.ends }

-- what the psi of a Q-vertex has of the edges, each by its place among them; none for a P-vertex
abbrev pub list_among : Synchronized → List ℕ → ℕ → Option (List ℕ)
list_among i es v = cond (is_q i v) (Some (map (rank es) (filter (has es) (psi_at i v)))) None

-- some edges of an instance with the vertices that are their ends, and for each Q-vertex what its psi has of them
abbrev pub listed_part : Synchronized → List ℕ → ListedGraph
listed_part i es = record {
  graph = numbered (part_with (graph i) es);
  lists = map (list_among i es) (part_with (graph i) es).verts;
}

-- the edges of the block of edge e, rising
pub record AreBlockEdges (i : Synchronized) (e : ℕ) (es : List ℕ) : Type 0 where
  pub inside : ℕ → Bool
  pub is_block : IsBlockOf (graph i) e inside
  pub edges : es ≡ filter inside (edge_names i)

-- the edges of some block, rising
abbrev pub AreEdgesOfBlock : Synchronized → List ℕ → Type 0
AreEdgesOfBlock i es = (e : ℕ) × AreBlockEdges i e es

-- these edges with the vertices that are their ends and what is kept of the lists, and the names of both, rising
pub record IsCutOut (i : Synchronized) (es : List ℕ) (cut : EdgeBlock) : Type 0 where
  pub edges : cut.edges ≡ es
  pub verts : cut.verts ≡ (part_with (graph i) es).verts
  pub block : cut.block ≡ listed_part i es
