use Rattle.std.proofs.Common.{◌≡◌, ℕ, ap, length, rules}
use Rattle.cp_trace.proofs.BodyReads.{more_than_shape, no_shape}
use Rattle.cp_trace.proofs.read_steps.shape_of.Goals as goal

pub returns-in_default : goal.returns-in_default
returns-in_default c = no_shape c.args.bytes.now (rw c.in_default.is at c.in_ok-body.ensures)

pub returns-else-is_empty : goal.returns-else-is_empty
returns-else-is_empty c =
    more_than_shape c.args.bytes.now c.in-Some.body c.in-Some.rest.now (rw c.in-Some.is at c.in_ok-body.ensures)
    (λ none. let len : length c.in-Some.rest.now ≡ 0 = ap (length {A = ℕ}) none in
    let told = c.if-is_empty.ensures in search rules)
