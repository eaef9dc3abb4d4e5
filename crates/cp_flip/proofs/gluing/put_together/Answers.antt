-- The bits of each block meet its tree, and its lists are put behind those of the blocks before it.
use Rattle.std.proofs.Common.{◌≤◌, ◌+◌, length, refl, sym, ap, ◌∙◌, subst, rules}
use Rattle.cp_board.specs.Solutions.{IsSolution}
use Rattle.cp_board.specs.Instances.{vert_names}
use Rattle.cp_flip.specs.GluedLists.{back_by, final_lists}
use Rattle.cp_flip.proofs.BlockSteps.{all-IsSolution, bits-cells, empty-AreGlued, own-AreListsWithin, step-AreGlued, step-AreListsWithin, step-MeetsTree, step-behind, step-room}
use Rattle.cp_flip.proofs.gluing.put_together.Goals as goal

pub loop-block-init : goal.loop-block-init
loop-block-init g c =
    let i = g.B.Board.instance c.args.board.now in
    record {
      first_is = refl;
      glued = λ found. empty-AreGlued i found.numbers (back_by i c.args.cells.now c.args.bits.now) c.args.verts.now
          c.in_ok-rows.rows.items c.requires.verts c.in_ok-rows.ensures;
    }

pub overflow_add-end : goal.overflow_add-end
overflow_add-end g c =
    let room : c.loop-block.first + c.vars.result ≤ length c.args.bits.now =
    step-room (g.B.Board.instance c.args.board.now) c.args.cells.now c.requires.cells c.args.blocks.now
    c.requires.blocks c.args.bits.now c.requires.bits c.loop-block.block-index c.block-item.result
    c.loop-block-test.true c.block-item.is c.vars.ensures.own c.loop-block.first c.loop-block.invariant.first_is
    c.vars.result c.vars.ensures.value in
    search rules

pub slice_bounds-block_lists-end : goal.slice_bounds-block_lists-end
slice_bounds-block_lists-end g c =
    let room : c.loop-block.first + c.vars.result ≤ length c.args.bits.now =
    step-room (g.B.Board.instance c.args.board.now) c.args.cells.now c.requires.cells c.args.blocks.now
    c.requires.blocks c.args.bits.now c.requires.bits c.loop-block.block-index c.block-item.result
    c.loop-block-test.true c.block-item.is c.vars.ensures.own c.loop-block.first c.loop-block.invariant.first_is
    c.vars.result c.vars.ensures.value in
    search rules

pub block_lists-requires : goal.block_lists-requires
block_lists-requires g c =
    step-MeetsTree (g.B.Board.instance c.args.board.now) c.args.cells.now c.requires.cells c.args.blocks.now
    c.requires.blocks c.args.bits.now c.requires.bits c.loop-block.block-index c.block-item.result
    c.loop-block-test.true c.block-item.is c.vars.ensures.own c.loop-block.first c.loop-block.invariant.first_is
    c.vars.result c.vars.ensures.value

pub appended-requires-clause-row_each : goal.appended-requires-clause-row_each
appended-requires-clause-row_each g c =
    (c.loop-block.invariant.glued c.requires.blocks).row_each ∙ sym (ap length c.requires.verts)

pub appended-requires-clause-lists : goal.appended-requires-clause-lists
appended-requires-clause-lists g c =
    let i = g.B.Board.instance c.args.board.now in
    let t = c.block-item.result in
    own-AreListsWithin (vert_names i) t.verts t.edges c.args.verts.now c.items.result.now
    c.items-in-loop-block.result.now c.in_ok-lists.lists.items c.as_slice.result.now c.requires.verts c.items.ensures
    c.items-in-loop-block.ensures c.as_slice.ensures.value
    (step-AreListsWithin i c.args.cells.now c.requires.cells c.args.blocks.now
    c.requires.blocks c.args.bits.now c.requires.bits c.loop-block.block-index t
    c.loop-block-test.true c.block-item.is c.vars.ensures.own c.loop-block.first c.loop-block.invariant.first_is
    c.vars.result c.vars.ensures.value c.in_ok-lists.lists.items c.in_ok-lists.ensures)

pub loop-block-preserved : goal.loop-block-preserved
loop-block-preserved g c =
    let i = g.B.Board.instance c.args.board.now in
    let t = c.block-item.result in
    record {
      first_is = step-behind i c.args.cells.now c.requires.cells c.args.blocks.now
          c.requires.blocks c.args.bits.now c.requires.bits c.loop-block.block-index t
          c.loop-block-test.true c.block-item.is c.vars.ensures.own c.loop-block.first c.loop-block.invariant.first_is
          c.vars.result c.vars.ensures.value;
      glued = λ found. step-AreGlued i c.args.cells.now c.requires.cells c.args.blocks.now
          found c.args.bits.now c.requires.bits c.loop-block.block-index t
          c.loop-block-test.true c.block-item.is c.vars.ensures.own c.loop-block.first c.loop-block.invariant.first_is
          c.vars.result c.vars.ensures.value c.in_ok-lists.lists.items c.in_ok-lists.ensures
          c.args.verts.now c.items.result.now c.items-in-loop-block.result.now c.as_slice.result.now
          c.loop-block.rows.items c.in_ok-rows-2.rows.items c.requires.verts c.items.ensures
          c.items-in-loop-block.ensures c.as_slice.ensures.value (c.loop-block.invariant.glued found)
          c.in_ok-rows-2.ensures;
    }

pub solution_of-requires-clause-bits : goal.solution_of-requires-clause-bits
solution_of-requires-clause-bits g c =
    bits-cells (g.B.Board.instance c.args.board.now) c.args.cells.now c.requires.cells c.args.blocks.now
    c.requires.blocks c.args.bits.now c.requires.bits

pub solution_of-requires-clause-row_each : goal.solution_of-requires-clause-row_each
solution_of-requires-clause-row_each g c =
    ap length c.as_slice-2.ensures.value
    ∙ (c.loop-block.invariant.glued c.requires.blocks).row_each ∙ sym (ap length c.requires.verts)

pub returns : goal.returns
returns g c =
    let i = g.B.Board.instance c.args.board.now in
    subst (IsSolution i) (sym (c.in_ok-solution.ensures
    ∙ ap (final_lists i c.args.cells.now c.args.bits.now) c.as_slice-2.ensures.value))
    (all-IsSolution i c.args.cells.now c.requires.cells c.args.blocks.now c.requires.blocks c.args.bits.now
    c.requires.bits c.loop-block.block-index c.loop-block.rows.items c.loop-block-test.false
    (c.loop-block.invariant.glued c.requires.blocks) c.requires.free)
