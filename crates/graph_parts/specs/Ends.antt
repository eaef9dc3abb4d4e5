-- The exit status of each end.
use Rattle.std.specs.Prelude.{ℕ}
use Rattle.graph_parts.specs.declared.end.End.{End}
use Rattle.graph_parts.specs.declared.end.End.TheVariants.{Done, Unfit, Refused, Usage, ReadFault, WriteFault, TooLong, Memory}

-- the exit status of an end
abbrev pub code_of : End → ℕ
code_of Done = 0
code_of Unfit = 1
code_of (Refused _ _) = 2
code_of Usage = 3
code_of ReadFault = 4
code_of WriteFault = 5
code_of TooLong = 6
code_of Memory = 7
