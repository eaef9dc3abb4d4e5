-- The system is that of one block more.
use Rattle.cp_flip.proofs.CellEquations.{item-IsEmbeddedBlock, own-all, system-more}
use Rattle.cp_flip.proofs.cell_equations.board_equations.Goals as goal

pub with_block-requires-clause-block : goal.with_block-requires-clause-block
with_block-requires-clause-block g c =
    item-IsEmbeddedBlock (g.B.Board.instance c.args.board.now) c.args.blocks.now c.loop-block.block-index
    c.block-item.result c.loop-block-test.true c.block-item.is c.requires.blocks

pub loop-block-preserved : goal.loop-block-preserved
loop-block-preserved g c =
    let r = system-more (g.B.Board.instance c.args.board.now) c.args.cells.now c.args.blocks.now
    c.loop-block.block-index c.block-item.result c.loop-block-test.true c.block-item.is c.loop-block.system.vars
    c.in_ok-system.system.vars c.loop-block.system.equations.items c.in_ok-system.system.equations.items
    c.loop-block.invariant.vars c.loop-block.invariant.equations c.loop-block.invariant.own
    c.in_ok-system.ensures.vars c.in_ok-system.ensures.equations c.in_ok-system.ensures.own in
    record { vars = r.0; equations = r.1; own = r.2 }

pub returns-clause-own : goal.returns-clause-own
returns-clause-own g c =
    own-all c.args.blocks.now c.loop-block.block-index c.loop-block-test.false c.loop-block.invariant.own
