use Rattle.std.proofs.Common.{◌++◌, map, sym, ap, ◌∙◌}
use Rattle.cp_trace.specs.Faults.{IsPair}
use Rattle.cp_trace.specs.Reading.{pair_word}
use Rattle.cp_trace.proofs.WordLemmas.{next_is_spelled}
use Rattle.cp_trace.proofs.read_parts.spelled_pairs.Goals as goal

pub returns-in-None : goal.returns-in-None
returns-in-None c = λ pairs fit spelled.
    let row = sym spelled ∙ c.loop-word.invariant.spelled
    ∙ ap (λ ws. map pair_word c.loop-word.pairs ++ ws) c.in-Some.ensures in
    let next = next_is_spelled pair_word IsPair c.loop-word.pairs pairs c.in-Some.word.now c.next.new.self fit row in
    c.in-None.ensures next.0.0 next.0.1 next.1.0 next.1.1 next.2
