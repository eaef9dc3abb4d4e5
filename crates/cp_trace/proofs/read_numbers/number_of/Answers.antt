use Rattle.std.proofs.Common.{sym, ◌∙◌, arith}
use Rattle.std.proofs.lemmas.Fmt.{decimal_injective}
use Rattle.cp_trace.proofs.read_numbers.number_of.Goals as goal

pub returns-else-number-lt9223372036854775808 : goal.returns-else-number-lt9223372036854775808
returns-else-number-lt9223372036854775808 c = λ n small spelled.
    let same = decimal_injective n c.in_ok-number.number (omega (arith, small))
    (omega (arith, c.in_ok-number.ensures.0))
    (sym spelled ∙ c.in_ok-number.ensures.1) in
    omega (arith, small, same, c.if-number-lt9223372036854775808.false)
