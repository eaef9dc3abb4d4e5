use Rattle.std.proofs.Common.{◌++◌, ◌<◌, map, sym, ap, ◌∙◌}
use Rattle.cp_report.proofs.WordLemmas.{next_is_spelled}
use Rattle.cp_report.specs.Reading.{row_item, row_limit}
use Rattle.cp_report.proofs.read.items_of.Goals as goal

pub returns-in-None : goal.returns-in-None
returns-in-None c = λ items fit spelled.
    let spell = row_item c.args.row in
    let row = sym spelled ∙ c.loop-word.invariant.spelled
    ∙ ap (λ ws. map spell c.loop-word.items.items ++ ws) c.in-Some.ensures in
    let next = next_is_spelled spell (λ i. i < row_limit c.args.row) c.loop-word.items.items items c.in-Some.word.now
    c.next.new.self fit row in
    c.in-None.ensures next.0 next.1 next.2
