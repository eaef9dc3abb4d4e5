-- The end and the line of each verdict.
use Rattle.std.specs.Prelude.{◌≡◌, ℕ, List}
use Rattle.cp_check.specs.declared.verdict.Verdict.{Verdict}
use Rattle.cp_check.specs.declared.verdict.Verdict.TheVariants.{Accepted, Rejected}
use Rattle.cp_app.specs.Texts.{accepted_line, rejected_line}
use Rattle.cp_app.specs.declared.end.End.{End}
use Rattle.cp_app.specs.declared.end.End.TheVariants as ends

-- the end and the line are those of the verdict
abbrev pub Tells : Verdict → End → List ℕ → Type 0
Tells Accepted end text = (end ≡ ends.Accepted) × (text ≡ accepted_line)
Tells (Rejected reason) end text = (end ≡ ends.Rejected reason) × (text ≡ rejected_line reason)
