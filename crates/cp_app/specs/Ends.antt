-- The exit status of each end.
use Rattle.std.specs.Prelude.{ℕ}
use Rattle.cp_app.specs.declared.end.End.{End}
use Rattle.cp_app.specs.declared.end.End.TheVariants.{Yes, No, Accepted, Rejected, Done, Refused, BadReport, Usage, ReadFault, WriteFault, TooLong, Memory}

-- the exit status of an end
abbrev pub code_of : End → ℕ
code_of Yes = 0
code_of Accepted = 0
code_of Done = 0
code_of No = 1
code_of (Rejected _) = 1
code_of (Refused _ _) = 2
code_of (BadReport _ _) = 2
code_of Usage = 3
code_of ReadFault = 4
code_of WriteFault = 5
code_of TooLong = 6
code_of Memory = 7
