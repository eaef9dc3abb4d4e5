-- The pieces of the line, in one order of brackets.
use Rattle.std.proofs.Common.{append_assoc, rules}
use Rattle.cp_app.proofs.texts.bad_report.Goals as goal

pub returns : goal.returns
returns c = simp append_assoc (search rules)
