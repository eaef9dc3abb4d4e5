-- The pieces of the line, in one order of brackets.
use Rattle.std.proofs.Common.{append_assoc, rules}
use Rattle.cp_app.proofs.texts.rejected.Goals as goal

pub returns-in_ok-format-in-Genus : goal.returns-in_ok-format-in-Genus
returns-in_ok-format-in-Genus c = rw c.in-Genus.is (simp append_assoc (search rules))
