use Rattle.cp_report.proofs.NumberLemmas.{label_tells}
use Rattle.cp_report.proofs.number.is_label.Goals as goal

pub returns-in-Some : goal.returns-in-Some
returns-in-Some c = label_tells c.in-Some.found c.args.number c.args.word.now c.in-Some.ensures
