-- Each fault is the first reason, and without one the lists put together are a solution.
use Rattle.std.proofs.Common.{sym, subst}
use Rattle.std.specs.Prelude.{MatchOption}
use Rattle.std.proofs.lemmas.Result.{err_from_is_err_and}
use Rattle.cp_base.specs.Graphs.{PlainGraph}
use Rattle.cp_board.specs.Reasons.{HasNoCrossing}
use Rattle.cp_conn.specs.Blocks.{HaveNoLoop}
use Rattle.cp_embed.proofs.NumberedBlocks.{numbered-HaveNoLoop}
use Rattle.cp_flip.specs.BlockTrees.{AreBlocksNumbered}
use Rattle.cp_flip.specs.FreeFaults.{IsFirstCrossing}
use Rattle.cp_flip.proofs.FreeReasons.{block-HasNoFreeSolution, crossing-unsolvable, parity-IsFreeReason, told-AreAllBlocks, told-AreBlocksNumbered}
use Rattle.cp_flip.proofs.free.solve_free.Goals as goal

pub blocks-requires : goal.blocks-requires
blocks-requires g c =
    subst (λ (h : PlainGraph). HaveNoLoop h.ends) (sym c.in_ok-g.ensures.graph)
    (numbered-HaveNoLoop (g.B.Board.instance c.args.board.now) c.in_ok-g.ensures.rules)

pub returns-in_err-found-clause-unsolvable : goal.returns-in_err-found-clause-unsolvable
returns-in_err-found-clause-unsolvable g c =
    let i = g.B.Board.instance c.args.board.now in
    let n : AreBlocksNumbered i c.items-edges.result.now c.as_slice.result.now =
    told-AreBlocksNumbered i c.in_ok-g.g.graph c.in_ok-g.g.edges c.items-edges.result.now
    c.in_ok-numbers.numbers.items c.as_slice.result.now c.in_ok-g.ensures.rules c.in_ok-g.ensures.graph
    c.in_ok-g.ensures.edges c.items-edges.ensures c.as_slice.ensures.value c.in_ok-numbers.ensures in
    let p = err_from_is_err_and c.from_residual-in_err-found.result c.from_residual-in_err-found.ensures.1 in
    rw p.1 (block-HasNoFreeSolution i c.items-edges.result.now c.as_slice.result.now n c.in_err-found.field-0.0 p.0 p.2
    c.in_err-found.ensures.refused)

pub returns-in-Some-clause-unsolvable : goal.returns-in-Some-clause-unsolvable
returns-in-Some-clause-unsolvable g c =
    let i = g.B.Board.instance c.args.board.now in
    let n : AreBlocksNumbered i c.items-edges.result.now c.as_slice.result.now =
    told-AreBlocksNumbered i c.in_ok-g.g.graph c.in_ok-g.g.edges c.items-edges.result.now
    c.in_ok-numbers.numbers.items c.as_slice.result.now c.in_ok-g.ensures.rules c.in_ok-g.ensures.graph
    c.in_ok-g.ensures.edges c.items-edges.ensures c.as_slice.ensures.value c.in_ok-numbers.ensures in
    let first : IsFirstCrossing i c.in-Some.vertex =
    subst (λ o. MatchOption o (HasNoCrossing i) (IsFirstCrossing i)) c.in-Some.is c.in_ok-vertex.ensures in
    crossing-unsolvable i c.items-edges.result.now c.as_slice.result.now n c.in-Some.vertex first.crossing

pub solved_bits-requires-clause-blocks : goal.solved_bits-requires-clause-blocks
solved_bits-requires-clause-blocks g c =
    let i = g.B.Board.instance c.args.board.now in
    let n : AreBlocksNumbered i c.items-edges.result.now c.as_slice.result.now =
    told-AreBlocksNumbered i c.in_ok-g.g.graph c.in_ok-g.g.edges c.items-edges.result.now
    c.in_ok-numbers.numbers.items c.as_slice.result.now c.in_ok-g.ensures.rules c.in_ok-g.ensures.graph
    c.in_ok-g.ensures.edges c.items-edges.ensures c.as_slice.ensures.value c.in_ok-numbers.ensures in
    told-AreAllBlocks i c.items-edges.result.now c.as_slice.result.now c.in_ok-found.found c.items.result.now n
    c.in_ok-found.ensures.blocks c.items.ensures

pub returns-in_err-bits-clause-reason : goal.returns-in_err-bits-clause-reason
returns-in_err-bits-clause-reason g c =
    let i = g.B.Board.instance c.args.board.now in
    let p = err_from_is_err_and c.from_residual-in_err-bits.result c.from_residual-in_err-bits.ensures.1 in
    let none : HasNoCrossing i =
    subst (λ o. MatchOption o (HasNoCrossing i) (IsFirstCrossing i)) c.in_default.is c.in_ok-vertex.ensures in
    rw p.1 (parity-IsFreeReason i c.in_err-bits.field-0.0 p.0 p.2 c.requires
    c.in_ok-found.ensures.blocks.embeddable none c.in_err-bits.ensures.unsolvable)

pub put_together-requires-clause-blocks : goal.put_together-requires-clause-blocks
put_together-requires-clause-blocks g c =
    let i = g.B.Board.instance c.args.board.now in
    let n : AreBlocksNumbered i c.items-edges.result.now c.as_slice.result.now =
    told-AreBlocksNumbered i c.in_ok-g.g.graph c.in_ok-g.g.edges c.items-edges.result.now
    c.in_ok-numbers.numbers.items c.as_slice.result.now c.in_ok-g.ensures.rules c.in_ok-g.ensures.graph
    c.in_ok-g.ensures.edges c.items-edges.ensures c.as_slice.ensures.value c.in_ok-numbers.ensures in
    told-AreAllBlocks i c.items-edges.result.now c.as_slice.result.now c.in_ok-found.found c.items-2.result.now n
    c.in_ok-found.ensures.blocks c.items-2.ensures
