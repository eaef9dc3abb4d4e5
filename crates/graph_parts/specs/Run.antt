-- What a run writes: the text of its answer, a front of it, or the line of a read fault.
use Rattle.std.specs.Prelude.{ℕ, List, Option}
use Rattle.cp_io.specs.Answered.{WroteAnswer, WroteAnswerFront}
use Rattle.cp_io.specs.Commands as commands
use Rattle.graph_parts.specs.Answer.{Answer, shared_ends}
use Rattle.graph_parts.specs.declared.end.End.{End}

-- the end is an answer: no device failed and memory sufficed
abbrev pub IsAnswer : End → Type 0
IsAnswer = commands.IsAnswer shared_ends

-- a text was written whole that, where the source told its bytes, answers them with this end
abbrev pub Wrote : List (List ℕ) → Option (List ℕ) → Option (List ℕ) → Option (List ℕ) → End → Type 0
Wrote words = WroteAnswer (Answer words)

-- a front of one text was written: of one that answers with some end, or of the line of a read fault where the
-- source failed
abbrev pub WroteFront : List (List ℕ) → Option (List ℕ) → Option (List ℕ) → ℕ → ℕ → Option (List ℕ) → Option (List ℕ)
    → Type 0
WroteFront words = WroteAnswerFront (Answer words) commands.read_fault_line
