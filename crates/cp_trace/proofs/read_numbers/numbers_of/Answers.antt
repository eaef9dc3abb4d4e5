use Rattle.std.proofs.Common.{◌++◌, ◌<◌, ◌^◌, map, sym, ap, ◌∙◌}
use Rattle.std.specs.Fmt.{decimal}
use Rattle.cp_trace.proofs.WordLemmas.{next_is_spelled}
use Rattle.cp_trace.proofs.read_numbers.numbers_of.Goals as goal

pub returns-in-None : goal.returns-in-None
returns-in-None c = λ numbers fit spelled.
    let row = sym spelled ∙ c.loop-word.invariant.spelled ∙ ap
    (λ ws. map decimal c.loop-word.numbers.items ++ ws) c.in-Some.ensures in
    let next = next_is_spelled decimal
    (λ n. n < 2 ^ 63) c.loop-word.numbers.items numbers c.in-Some.word.now c.next.new.self fit row in
    c.in-None.ensures next.0 next.1 next.2
