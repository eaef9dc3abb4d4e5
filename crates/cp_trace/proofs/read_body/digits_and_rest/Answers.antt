use Rattle.std.proofs.Common.{sym}
use Rattle.std.proofs.lemmas.List.{append-nil, take-append-drop}
use Rattle.cp_trace.proofs.DigitFronts.{all_digits, digits_front}
use Rattle.cp_trace.proofs.read_body.digits_and_rest.Goals as goal

pub returns-in-Some : goal.returns-in-Some
returns-in-Some c =
    let parts = digits_front c.in-Some.end c.args.bytes.now (sym c.in-Some.ensures) in (
      rw c.split_at.ensures.front parts.0,
      rw c.split_at.ensures.back parts.1,
      rw (c.split_at.ensures.front, c.split_at.ensures.back) (sym (take-append-drop c.in-Some.end c.args.bytes.now)),
    )

pub returns-in-None : goal.returns-in-None
returns-in-None c = (all_digits c.args.bytes.now (sym c.in-None.ensures), tt, sym (append-nil c.args.bytes.now))
