-- The block is cut out of the board, and has two edges at its first vertex or is one edge.
use Rattle.std.proofs.Common.{◌≡◌, ℕ, sym, ◌∙◌, subst}
use Rattle.std.proofs.lemmas.Result.{err_from_is_err_and}
use Rattle.cp_pq.specs.Trees.{PQTree}
use Rattle.cp_embed.specs.BoardBlocks.{listed_part}
use Rattle.cp_embed.specs.ListedBlocks.{ListedGraph}
use Rattle.cp_flip.specs.DirectedBlocks.{CanBeDirected, IsDirectedTree}
use Rattle.cp_flip.proofs.CutBlocks.{cut-HasTwoEdges, cut-vertex}
use Rattle.cp_flip.proofs.block_trees.embed_block.Goals as goal

-- the tree of the block cut out, in the block's own terms
tree_own : (block own : ListedGraph) (v : ℕ) (old new : PQTree) → own ≡ block → v ≡ 0 → IsDirectedTree own 0 old new
    → IsDirectedTree block v old new
tree_own block own v old new is_block is_vertex d =
    subst (λ u. IsDirectedTree block u old new) (sym is_vertex)
    (subst (λ b. IsDirectedTree b 0 old new) is_block d)

pub directed-requires-clause-within : goal.directed-requires-clause-within
directed-requires-clause-within g c =
    cut-vertex (g.B.Board.instance c.args.board.now) c.requires.rules c.args.edges.now c.requires.block
    c.in_ok-cut.cut.block c.in_ok-cut.ensures.block

pub directed-requires-clause-two_edges : goal.directed-requires-clause-two_edges
directed-requires-clause-two_edges g c =
    cut-HasTwoEdges (g.B.Board.instance c.args.board.now) c.requires.rules c.args.edges.now c.requires.block
    c.in_ok-cut.cut.block c.in_ok-cut.ensures.block c.if-edges-eq1.false

pub returns-in_err-found-clause-refused : goal.returns-in_err-found-clause-refused
returns-in_err-found-clause-refused g c =
    let p = err_from_is_err_and c.from_residual-in_err-found.result c.from_residual-in_err-found.ensures.1 in
    rw (p.1, p.2) (λ fault bit d. c.in_err-found.ensures.refused fault bit
    (subst (λ b. CanBeDirected b bit) (sym c.in_ok-cut.ensures.block) d))

pub returns-then-edges-eq1-clause-block : goal.returns-then-edges-eq1-clause-block
returns-then-edges-eq1-clause-block g c = record {
  block = c.requires.block;
  verts_are = c.in_ok-cut.ensures.verts;
  directions = c.if-edges-eq1.true;
}

pub returns-clause-block : goal.returns-clause-block
returns-clause-block g c = record {
  block = c.requires.block;
  verts_are = c.in_ok-cut.ensures.verts;
  directions = (
    c.in_ok-found.ensures.block ∙ c.in_ok-cut.ensures.block,
    tree_own (listed_part (g.B.Board.instance c.args.board.now) c.args.edges.now) c.in_ok-cut.cut.block
        c.in_ok-found.found.embedding.vertex c.in_ok-found.found.embedding.tree c.in_ok-found.found.tree
        c.in_ok-cut.ensures.block c.in_ok-found.ensures.vertex c.in_ok-found.ensures.tree,
  );
}
