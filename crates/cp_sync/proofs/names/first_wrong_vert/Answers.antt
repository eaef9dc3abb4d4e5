use Rattle.std.proofs.Common.{ap, subst, arith}
use Rattle.std.proofs.lemmas.List.{get_or_default}
use Rattle.cp_board.specs.declared.parts.Vert.{Vert}
use Rattle.cp_board.specs.declared.parts.Kind.TheVariants.{P}
use Rattle.cp_sync.specs.Checks.{HasFittingCell, IsNextVert}
use Rattle.cp_sync.proofs.Passes.{AllBelow-more}
use Rattle.cp_sync.proofs.names.first_wrong_vert.Goals as goal

pub loop-k-preserved : goal.loop-k-preserved
loop-k-preserved c =
    AllBelow-more (IsNextVert c.args.verts.now) c.loop-k.k c.loop-k.invariant (
      c.is_next_name.ensures.yes c.if-not-is_next_name.false,
      subst HasFittingCell
          (ap (λ (v : Vert). v.kind) (get_or_default c.args.verts.now c.loop-k.k c.index-verts-k.result record { name = 0; kind = P } c.loop-k-test.true))
          (c.has_fitting_cell.ensures.yes c.if-not-has_fitting_cell.false),
    )

pub returns : goal.returns
returns c = λ k lt. c.loop-k.invariant k (omega (arith, lt, c.loop-k-test.false))
