use Rattle.cp_trace.proofs.BodySame.{no_number_at}
use Rattle.cp_trace.proofs.read_body.number_at.Goals as goal

pub returns-in_err-number_of : goal.returns-in_err-number_of
returns-in_err-number_of c = rw c.from_residual.ensures
    (no_number_at c.args.bytes.now c.digits_and_rest.result.0.now c.digits_and_rest.result.1.now
    c.digits_and_rest.ensures.0 c.digits_and_rest.ensures.1 c.digits_and_rest.ensures.2 c.in_err-number_of.ensures)
