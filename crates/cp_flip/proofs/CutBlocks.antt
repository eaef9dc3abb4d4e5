-- A block that is cut out has a vertex, and where it is not one edge, this has two edges.
use Rattle.std.proofs.Common.{◌≡◌, ◌≢◌, ℕ, ◌<◌, List, length, sym, refl, subst, inl, arith}
use Rattle.std.specs.List.{Contains}
use Rattle.cp_lists.proofs.ExactLists.{place_of}
use Rattle.cp_conn.proofs.CutVertices.{kept_of}
use Rattle.cp_board.specs.Instances.{IsSynchronized, Synchronized, edge_names}
use Rattle.cp_embed.specs.BoardBlocks.{AreBlockEdges, AreEdgesOfBlock, listed_part}
use Rattle.cp_embed.specs.Embeddings.{HasTwoEdges}
use Rattle.cp_embed.specs.ListedBlocks.{IsListedBlock, ListedGraph}
use Rattle.cp_embed.proofs.BoardBlocks.{listed_part-IsListedBlock, size}
use Rattle.cp_flip.proofs.BlockDegrees.{block-HasTwoEdges}

module _ (i : Synchronized) (is : IsSynchronized i) (es : List ℕ) (block : AreEdgesOfBlock i es) where
  -- the edges are those of the block of some edge
  abbrev b : AreBlockEdges i block.0 es
  b = block.1

  -- there is one
  pub some : 0 < length es
  some =
      let there = kept_of b.inside (edge_names i) block.0 b.is_block.live
      ((b.is_block.tells block.0 b.is_block.live).1 (inl refl)) in
      let p = place_of es block.0 (subst (λ xs. Contains xs block.0) (sym b.edges) there) in
      omega (arith, p.1)

  -- the block cut out is a block with lists
  listed : IsListedBlock (listed_part i es)
  listed = listed_part-IsListedBlock i is block.0 es b

  -- it has a vertex
  part-vertex : 0 < (listed_part i es).graph.vertices
  part-vertex =
      let same = size i is block.0 es b in
      let h = (listed.within 0 (omega (arith, some, same))).0 in omega (arith, h)

  -- which has two edges, where the block is not one edge
  part-HasTwoEdges : length es ≢ 1 → HasTwoEdges (listed_part i es).graph.ends 0
  part-HasTwoEdges other =
      let same = size i is block.0 es b in
      block-HasTwoEdges (listed_part i es).graph.vertices (listed_part i es).graph.ends listed.one_block
      listed.each_has_edge (omega (arith, some, same, other)) 0 part-vertex

  -- so does a block that is equal to it
  pub cut-vertex : (cut : ListedGraph) → cut ≡ listed_part i es → 0 < cut.graph.vertices
  cut-vertex cut same = subst (λ (x : ListedGraph). 0 < x.graph.vertices) (sym same) part-vertex

  -- and its vertex 0 has two edges, where it is not one edge
  pub cut-HasTwoEdges : (cut : ListedGraph) → cut ≡ listed_part i es → length es ≢ 1 → HasTwoEdges cut.graph.ends 0
  cut-HasTwoEdges cut same other =
      subst (λ (x : ListedGraph). HasTwoEdges x.graph.ends 0) (sym same) (part-HasTwoEdges other)
