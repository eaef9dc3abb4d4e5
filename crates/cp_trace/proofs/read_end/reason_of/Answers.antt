use Rattle.cp_board.specs.declared.steps.Reason.TheVariants.{NotPlanar, CyclesDiffer, BlocksCross, Conflict}
use Rattle.cp_trace.proofs.EndLines.{is_reason_line, no_reason}
use Rattle.cp_trace.proofs.read_end.reason_of.Goals as goal

pub returns-in-Some : goal.returns-in-Some
returns-in-Some c = (
  (c.in-Some.ensures.0, tt),
  is_reason_line (NotPlanar c.in-Some.edge) c.args.line.now (c.in-Some.ensures.0, tt) c.in-Some.ensures.1,
)

pub returns-in-Some-two_lengths : goal.returns-in-Some-two_lengths
returns-in-Some-two_lengths c =
    let told = c.in-Some-two_lengths.ensures in (
      (told.0, (told.1, tt)),
      is_reason_line (CyclesDiffer c.in-Some-two_lengths.a c.in-Some-two_lengths.b) c.args.line.now
          (told.0, (told.1, tt)) told.2,
    )

pub returns-in-Some-named_number : goal.returns-in-Some-named_number
returns-in-Some-named_number c =
    let told = c.in-Some-named_number.ensures in (
      (told.0, tt),
      is_reason_line (BlocksCross c.in-Some-named_number.vertex) c.args.line.now (told.0, tt) told.1,
    )

pub returns-in-Some-conflict : goal.returns-in-Some-conflict
returns-in-Some-conflict c = (tt, is_reason_line Conflict c.args.line.now tt c.in-Some-conflict.ensures)

pub returns-in-None : goal.returns-in-None
returns-in-None c =
    no_reason c.args.line.now c.in_default.ensures c.in_default-two_lengths.ensures c.in_default-named_number.ensures
    c.in-None.ensures
