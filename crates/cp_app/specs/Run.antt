-- What a run writes: the text of its answer, a front of it, or the line of a read fault.
use Rattle.std.specs.Prelude.{◌≡◌, ℕ, List, Option, ◌⊎◌}
use Rattle.cp_io.specs.Answered.{WroteAnswer, WroteAnswerFront}
use Rattle.cp_io.specs.Commands as commands
use Rattle.cp_check.specs.declared.verdict.Reject.{Reject}
use Rattle.cp_app.specs.Answer.{Answer, shared_ends}
use Rattle.cp_app.specs.declared.end.End.{End}
use Rattle.cp_app.specs.declared.end.End.TheVariants as ends

-- the end is an answer: no device failed and memory sufficed
abbrev pub IsAnswer : End → Type 0
IsAnswer = commands.IsAnswer shared_ends

-- the layout was judged
abbrev pub IsJudged : End → Type 0
IsJudged end = (end ≡ ends.Accepted) ⊎ ((reason : Reject) × (end ≡ ends.Rejected reason))

-- the graph was solved
abbrev pub IsSolvedEnd : End → Type 0
IsSolvedEnd end = (end ≡ ends.Yes) ⊎ (end ≡ ends.No)

-- a text was written whole that, where the source told its bytes, answers them with this end
abbrev pub Wrote : List (List ℕ) → Option (List ℕ) → Option (List ℕ) → Option (List ℕ) → End → Type 0
Wrote words = WroteAnswer (Answer words)

-- a front of one text was written: of one that answers with some end, or of the line of a read fault where the
-- source failed
abbrev pub WroteFront : List (List ℕ) → Option (List ℕ) → Option (List ℕ) → ℕ → ℕ → Option (List ℕ) → Option (List ℕ)
    → Type 0
WroteFront words = WroteAnswerFront (Answer words) commands.read_fault_line
