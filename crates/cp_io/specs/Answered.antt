-- What a run writes of its answer, where a relation tells which ends and texts answer all bytes of the source.
use Rattle.std.specs.Prelude.{◌≡◌, ℕ, ◌≤◌, List, length, Option, ◌⊎◌, IfSome}
use Rattle.std.specs.Io.KnownBytes.{Appends}
use Rattle.cp_io.specs.Causes.{Rose}
use Rattle.cp_io.specs.Streams.{Took, TookFront, most_bytes}

-- a text was written whole that, where the source told its bytes, answers them with this end
abbrev pub WroteAnswer : {E : Type 0} → (List ℕ → E → List ℕ → Type 0) → Option (List ℕ)
    → Option (List ℕ) → Option (List ℕ) → E → Type 0
WroteAnswer answers left old new end =
    (text : List ℕ) × IfSome left (λ bytes. answers bytes end text) × Appends old new text

-- a source that told `left` before and `behind` then failed, and gave no more than the most bytes by then
abbrev pub FailedReading : Option (List ℕ) → Option (List ℕ) → ℕ → ℕ → Type 0
FailedReading left behind before now = Rose before now × Took left behind (λ bytes. length bytes ≤ most_bytes)

-- a front of one text was written: of one that answers with some end, or of the line of a read fault where
-- the source failed
abbrev pub WroteAnswerFront : {E : Type 0} → (List ℕ → E → List ℕ → Type 0) → List ℕ → Option (List ℕ) → Option (List ℕ)
    → ℕ → ℕ → Option (List ℕ) → Option (List ℕ) → Type 0
WroteAnswerFront {E} answers fault_line left behind before now old new =
    (text : List ℕ) × (IfSome left (λ bytes. (end : E) × answers bytes end text)
    ⊎ (FailedReading left behind before now × (text ≡ fault_line))) × TookFront old new text
