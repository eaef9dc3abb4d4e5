-- One vertex more is tied to its cell.
use Rattle.std.proofs.Common.{Vec, Global, sym, ap, ◌∙◌}
use Rattle.cp_base.specs.declared.equation.Equation.{Equation}
use Rattle.cp_conn.specs.NamedGraphs.{rank}
use Rattle.cp_flip.proofs.CellEquations.{ties-more_p, ties-more_q}
use Rattle.cp_flip.proofs.cell_equations.with_ties.Goals as goal
use Rattle.cp_flip.proofs.cell_equations.with_ties.Goals.{then-is_q+in_ok-push, else-is_q}

pub loop-k-preserved : goal.loop-k-preserved
loop-k-preserved g c = elim c.if-is_q.branch [
  | then-is_q+in_ok-push w ↦
      ties-more_q (g.B.Board.instance c.args.board.now) c.args.cells.now c.args.verts.now c.args.first c.loop-k.k
      w.rank_among-cell.result c.args.equations.items c.loop-k.all.items c.if-is_q.all.items c.loop-k-test.true
      (sym c.is_q.ensures.value ∙ w.if-is_q.true) (w.rank_among-cell.ensures ∙ ap (rank c.args.cells.now) w.cell.ensures)
      c.loop-k.invariant
      (ap (λ (v : Vec Equation Global). v.items) w.all-is ∙ w.in_ok-push.ensures.items)
  | else-is_q w ↦
      ap (λ (v : Vec Equation Global). v.items) w.all-is
      ∙ ties-more_p (g.B.Board.instance c.args.board.now) c.args.cells.now c.args.verts.now c.args.first c.loop-k.k
      c.args.equations.items c.loop-k.all.items c.loop-k-test.true (sym c.is_q.ensures.value ∙ w.if-is_q.false)
      c.loop-k.invariant
]
