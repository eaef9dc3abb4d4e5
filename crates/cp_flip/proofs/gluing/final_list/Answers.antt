-- The cell of a Q-vertex is one of the cells, so there is a bit for it.
use Rattle.std.proofs.Common.{◌≡◌, true, sym, ap, ◌∙◌, arith}
use Rattle.cp_conn.specs.NamedGraphs.{rank}
use Rattle.cp_board.specs.Instances.{is_q}
use Rattle.cp_flip.proofs.CellEquations.{cell-within}
use Rattle.cp_flip.proofs.gluing.final_list.Goals as goal

pub bounds-bits-rank_among : goal.bounds-bits-rank_among
bounds-bits-rank_among g c =
    let i = g.B.Board.instance c.args.board.now in
    let q : is_q i c.args.v ≡ true = sym c.is_q.ensures.value ∙ c.if-not-is_q.false in
    let h = cell-within i c.args.cells.now c.requires.cells c.args.v c.requires.live q in
    let e = c.rank_among.ensures ∙ ap (rank c.args.cells.now) c.cell.ensures in
    omega (arith, h, e, c.requires.bits)
