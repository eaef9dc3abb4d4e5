use Rattle.std.proofs.Common.{sym}
use Rattle.cp_trace.proofs.CutLemmas.{lacks_from_none, lacks_before, joined_cut}
use Rattle.cp_trace.proofs.word.cut.Goals as goal

pub returns-in_err-place : goal.returns-in_err-place
returns-in_err-place c = rw c.from_residual.ensures
    (lacks_from_none c.args.byte c.args.bytes.now (sym c.in_err-place.ensures))

pub returns : goal.returns
returns c =
    let at = sym c.in_ok-place.ensures in (
      rw c.split_at.ensures.front (lacks_before c.args.byte c.in_ok-place.place c.args.bytes.now at),
      joined_cut c.args.byte c.in_ok-place.place c.in_ok-after.field-0-0.now c.args.bytes.now _ _ _ at
          c.split_at.ensures.front c.split_at.ensures.back c.in_ok-after.ensures.cases.0,
    )
