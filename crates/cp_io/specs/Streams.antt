-- What was taken from a source and what was given to a sink, where they tell their bytes.
use Rattle.std.specs.Prelude.{◌≡◌, ℕ, ◌<◌, ◌≤◌, List, ◌++◌, length, Option, Result, Ok, Err}
use Rattle.std.specs.Io.KnownBytes.{Appends, Consumes, IsAtEnd}
use Rattle.cp_io.specs.Causes.{Rose}
use Rattle.cp_io.specs.declared.whole.ReadEnd.{ReadEnd}
use Rattle.cp_io.specs.declared.whole.ReadEnd.TheVariants as ends

-- the most bytes that an input may have: 64 MiB
abbrev pub most_bytes : ℕ
most_bytes = 67108864

-- some bytes with P were taken from the front of what was left
abbrev pub Took : Option (List ℕ) → Option (List ℕ) → (List ℕ → Type 0) → Type 0
Took old new P = (bytes : List ℕ) × Consumes old new bytes × P bytes

-- a front of the text, maybe none of it or all, was appended to what was taken before
abbrev pub TookFront : Option (List ℕ) → Option (List ℕ) → List ℕ → Type 0
TookFront old new text = (front rest : List ℕ) × (text ≡ front ++ rest) × Appends old new front

-- what reading to the end answers, where `most` bytes are allowed: all bytes and none is left, or a fault
-- after at most so many, or that more came, or want of memory after any number
abbrev pub ReadTo : {V : Type 0} → (V → List ℕ) → ℕ → Option (List ℕ) → Option (List ℕ) → Result V ReadEnd → Type 0
ReadTo view most old new (Ok v) = Consumes old new (view v) × IsAtEnd new × (length (view v) ≤ most)
ReadTo view most old new (Err ends.Fault) = Took old new (λ bytes. length bytes ≤ most)
ReadTo view most old new (Err ends.TooLong) = Took old new (λ bytes. most < length bytes)
ReadTo view most old new (Err ends.Memory) = Took old new (λ _. Unit {0})

-- the count of a source's faults rose where reading ended with a fault, and else is as it was
abbrev pub CountsFault : {V : Type 0} → ℕ → ℕ → Result V ReadEnd → Type 0
CountsFault before now (Ok v) = now ≡ before
CountsFault before now (Err ends.Fault) = Rose before now
CountsFault before now (Err ends.TooLong) = now ≡ before
CountsFault before now (Err ends.Memory) = now ≡ before
