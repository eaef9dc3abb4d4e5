use Rattle.std.proofs.Common.{sym, ◌∙◌}
use Rattle.std.proofs.lemmas.Result.{IfOk-weaker}
use Rattle.cp_report.proofs.RowLemmas.{line_by_words, no_line_by_words}
use Rattle.cp_report.proofs.read.list_of.Goals as goal

pub returns-in-Some : goal.returns-in-Some
returns-in-Some c =
    let head = sym c.new-words.ensures ∙ c.in-Some.ensures.1 in
    IfOk-weaker c.items_of.result _ _ (λ found told. line_by_words c.args.row c.args.number c.args.line.now _ found
    c.in-Some.ensures.0 head told) c.items_of.ensures

pub returns-in-None : goal.returns-in-None
returns-in-None c = no_line_by_words c.args.row c.args.number c.args.line.now
    (λ later small h. c.in-None.ensures later small (c.new-words.ensures ∙ h))
