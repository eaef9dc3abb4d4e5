-- The system of all blocks is met by bits exactly where the board has a solution.
use Rattle.std.proofs.Common.{sym, ◌∙◌, subst}
use Rattle.std.proofs.lemmas.Result.{err_from_is_err_and}
use Rattle.std.specs.List.{All}
use Rattle.cp_base.specs.Bits.{IsMet, IsOverVars}
use Rattle.cp_parity.specs.Equations.{HaveNoBits}
use Rattle.cp_flip.proofs.CellEquations.{system-HasNoSolution, system-over}
use Rattle.cp_flip.proofs.cell_equations.solved_bits.Goals as goal

pub solve-requires : goal.solve-requires
solve-requires g c =
    subst (All (IsOverVars c.in_ok-system.system.vars)) (sym c.as_slice.ensures.value)
    (system-over (g.B.Board.instance c.args.board.now) c.args.cells.now c.requires.cells c.args.blocks.now
    c.requires.blocks.embedded.each c.in_ok-system.ensures.own c.in_ok-system.system.equations.items
    c.in_ok-system.ensures.equations c.in_ok-system.system.vars c.in_ok-system.ensures.vars)

pub returns-in_err-bits-clause-unsolvable : goal.returns-in_err-bits-clause-unsolvable
returns-in_err-bits-clause-unsolvable g c =
    let p = err_from_is_err_and c.from_residual-in_err-bits.result c.from_residual-in_err-bits.ensures.1 in
    rw (p.1, p.2) (system-HasNoSolution (g.B.Board.instance c.args.board.now) c.args.cells.now c.requires.cells
    c.args.blocks.now c.requires.blocks.embedded.each c.in_ok-system.ensures.own c.in_ok-system.system.equations.items
    c.in_ok-system.ensures.equations c.requires.blocks.numbers c.requires.blocks.numbered.by_least
    c.in_err-bits.field-0.0
    (subst (λ eqs. HaveNoBits eqs c.in_err-bits.field-0.0) c.as_slice.ensures.value c.in_err-bits.ensures.none))

pub returns-clause-bits : goal.returns-clause-bits
returns-clause-bits g c = record {
  size = c.in_ok-bits.ensures.size ∙ c.in_ok-system.ensures.vars;
  met = subst (All (IsMet c.in_ok-bits.bits.items)) (c.as_slice.ensures.value ∙ c.in_ok-system.ensures.equations)
      c.in_ok-bits.ensures.met;
}
