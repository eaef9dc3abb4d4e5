-- Each row is that of the block of its edge, and the blocks so far are one more where the edge is the first of its row.
use Rattle.std.proofs.Common.{◌<◌, ◌+◌, length, slice_index, sym, ap, ◌∙◌, subst, arith}
use Rattle.std.proofs.lemmas.Result.{err_from_is_err_and}
use Rattle.cp_board.specs.Instances.{edge_names, graph}
use Rattle.cp_sync.specs.Numbering.{numbered}
use Rattle.cp_embed.specs.BoardBlocks.{AreBlockEdges}
use Rattle.cp_flip.specs.BlockTrees.{AreEmbeddedUpTo, IsEmbeddedBlock, IsWithoutRotation}
use Rattle.cp_flip.proofs.EmbeddedBlocks.{AreEmbeddedUpTo-all, AreEmbeddedUpTo-first, AreEmbeddedUpTo-other, fault-IsFirstUnembeddable, numbered-own, row-read, row-within}
use Rattle.cp_flip.proofs.FirstBlocks.{row-AreBlockEdges, row-some}
use Rattle.cp_flip.proofs.NumberedRows.{numbers-below}
use Rattle.cp_flip.proofs.block_trees.embed_blocks.Goals as goal
use Rattle.cp_flip.proofs.block_trees.embed_blocks.Goals.{then-row-edges+in_ok-embed_block_of+in_ok-push, else-row-edges}

pub edges_by_number-requires-clause-below : goal.edges_by_number-requires-clause-below
edges_by_number-requires-clause-below g c =
    numbers-below (numbered (graph (g.B.Board.instance c.args.board.now))).ends (length c.args.edges.now)
    c.args.numbers.now c.requires.by_least

pub index-requires : goal.index-requires
index-requires g c =
    let i = g.B.Board.instance c.args.board.now in
    let h = row-within i c.requires.rules c.args.numbers.now
    (numbered-own i c.requires.rules c.args.edges.now c.args.numbers.now c.requires) c.args.edges.now
    c.in_ok-rows.rows.items c.loop-k.k c.requires.edges_are c.in_ok-rows.ensures c.loop-k-test.true in
    omega (arith, h, c.in_ok-rows.rows.ok.0)

pub bounds-row-0 : goal.bounds-row-0
bounds-row-0 g c =
    let i = g.B.Board.instance c.args.board.now in
    let are = numbered-own i c.requires.rules c.args.edges.now c.args.numbers.now c.requires in
    let row_is = row-read i c.requires.rules c.args.numbers.now are c.args.edges.now c.in_ok-rows.rows.items c.loop-k.k
    c.items-row.result.now c.index.result.now c.requires.edges_are c.in_ok-rows.ensures c.loop-k-test.true
    c.index.ensures c.items-row.ensures in
    let size = ap length c.requires.edges_are in
    subst (λ xs. 0 < length xs) (sym row_is)
    (row-some i c.requires.rules c.args.numbers.now are c.loop-k.k (omega (arith, c.loop-k-test.true, size)))

pub embed_block_of-requires-clause-block : goal.embed_block_of-requires-clause-block
embed_block_of-requires-clause-block g c =
    let i = g.B.Board.instance c.args.board.now in
    let are = numbered-own i c.requires.rules c.args.edges.now c.args.numbers.now c.requires in
    let row_is = row-read i c.requires.rules c.args.numbers.now are c.args.edges.now c.in_ok-rows.rows.items c.loop-k.k
    c.items-row.result.now c.index.result.now c.requires.edges_are c.in_ok-rows.ensures c.loop-k-test.true
    c.index.ensures c.items-row.ensures in
    let size = ap length c.requires.edges_are in
    let edge = slice_index (edge_names i) c.loop-k.k in (
      edge,
      subst (AreBlockEdges i edge) (sym row_is)
          (row-AreBlockEdges i c.requires.rules c.args.numbers.now are c.loop-k.k (omega (arith, c.loop-k-test.true, size))),
    )

pub returns-in_err-embed_block_of-clause-refused : goal.returns-in_err-embed_block_of-clause-refused
returns-in_err-embed_block_of-clause-refused g c =
    let i = g.B.Board.instance c.args.board.now in
    let are = numbered-own i c.requires.rules c.args.edges.now c.args.numbers.now c.requires in
    let row_is = row-read i c.requires.rules c.args.numbers.now are c.args.edges.now c.in_ok-rows.rows.items c.loop-k.k
    c.items-row.result.now c.index.result.now c.requires.edges_are c.in_ok-rows.ensures c.loop-k-test.true
    c.index.ensures c.items-row.ensures in
    let size = ap length c.requires.edges_are in
    let p = err_from_is_err_and c.from_residual-in_err-embed_block_of.result
    c.from_residual-in_err-embed_block_of.ensures.1 in
    rw (p.1, p.2) (fault-IsFirstUnembeddable i c.requires.rules c.args.numbers.now are c.loop-k.k c.loop-k.found
    c.in_err-embed_block_of.field-0.0 (omega (arith, c.loop-k-test.true, size))
    (sym (ap (λ xs. slice_index xs 0) row_is) ∙ c.if-row-edges.true
    ∙ ap (λ xs. slice_index xs c.loop-k.k) c.requires.edges_are)
    c.loop-k.invariant
    (subst (λ xs. IsWithoutRotation i xs c.in_err-embed_block_of.field-0.0) row_is c.in_err-embed_block_of.ensures.refused))

pub loop-k-preserved : goal.loop-k-preserved
loop-k-preserved g c =
    let i = g.B.Board.instance c.args.board.now in
    let are = numbered-own i c.requires.rules c.args.edges.now c.args.numbers.now c.requires in
    let row_is = row-read i c.requires.rules c.args.numbers.now are c.args.edges.now c.in_ok-rows.rows.items c.loop-k.k
    c.items-row.result.now c.index.result.now c.requires.edges_are c.in_ok-rows.ensures c.loop-k-test.true
    c.index.ensures c.items-row.ensures in
    let size = ap length c.requires.edges_are in
    let lt : c.loop-k.k < length (edge_names i) = omega (arith, c.loop-k-test.true, size) in
    elim c.if-row-edges.branch [
      | then-row-edges+in_ok-embed_block_of+in_ok-push w ↦
          let t = w.in_ok-embed_block_of.field-0 in
          subst (AreEmbeddedUpTo i (edge_names i) c.args.numbers.now (c.loop-k.k + 1))
          (sym (w.found-is ∙ w.in_ok-push.ensures.ok))
          (AreEmbeddedUpTo-first i c.requires.rules c.args.numbers.now are c.loop-k.k c.loop-k.found t lt
          (sym (ap (λ xs. slice_index xs 0) row_is) ∙ w.if-row-edges.true
          ∙ ap (λ xs. slice_index xs c.loop-k.k) c.requires.edges_are)
          (w.in_ok-embed_block_of.ensures.edges ∙ row_is)
          (subst (λ es. IsEmbeddedBlock i t.verts es t.directed) (sym w.in_ok-embed_block_of.ensures.edges)
          w.in_ok-embed_block_of.ensures.block)
          c.loop-k.invariant)
      | else-row-edges w ↦
          subst (AreEmbeddedUpTo i (edge_names i) c.args.numbers.now (c.loop-k.k + 1)) (sym w.found-is)
          (AreEmbeddedUpTo-other i c.requires.rules c.args.numbers.now are c.loop-k.k c.loop-k.found lt
          (λ e. w.if-row-edges.false (ap (λ xs. slice_index xs 0) row_is ∙ e
          ∙ sym (ap (λ xs. slice_index xs c.loop-k.k) c.requires.edges_are)))
          c.loop-k.invariant)
    ]

pub returns-clause-blocks : goal.returns-clause-blocks
returns-clause-blocks g c =
    let i = g.B.Board.instance c.args.board.now in
    let size = ap length c.requires.edges_are in
    AreEmbeddedUpTo-all i c.requires.rules c.args.numbers.now
    (numbered-own i c.requires.rules c.args.edges.now c.args.numbers.now c.requires) c.loop-k.k c.loop-k.found
    (omega (arith, c.loop-k-test.false, size)) c.loop-k.invariant
