-- What a run of commands ends with and writes, by what each command answers to all bytes of the source.
use Rattle.std.specs.Prelude.{◌≡◌, ◌≢◌, ℕ, ◌<◌, ◌≤◌, List, ◌++◌, [], ◌∷◌, length, codes, Option}
use Rattle.cp_io.specs.Answered.{WroteAnswer, WroteAnswerFront}
use Rattle.cp_io.specs.Streams.{most_bytes}
use Rattle.cp_io.specs.declared.command.Ends.{Ends}

-- the line of a source that failed
abbrev pub read_fault_line : List ℕ
read_fault_line = codes "read fault" ++ 10 ∷ []

-- the line of a source that gave too much
abbrev pub too_long_line : List ℕ
too_long_line = codes "input too long" ++ 10 ∷ []

-- the end is none of those that all commands share
pub record IsOwn {E : Type 0} (ends : Ends E) (end : E) : Type 0 where
  pub usage : end ≢ ends.usage
  pub too_long : end ≢ ends.too_long
  pub read : end ≢ ends.read_fault
  pub write : end ≢ ends.write_fault
  pub memory : end ≢ ends.memory

-- the end is an answer: no device failed and memory sufficed
pub record IsAnswer {E : Type 0} (ends : Ends E) (end : E) : Type 0 where
  pub read : end ≢ ends.read_fault
  pub write : end ≢ ends.write_fault
  pub memory : end ≢ ends.memory

-- no two of the ends that all commands share are one
pub record AreApart {E : Type 0} (ends : Ends E) : Type 0 where
  pub usage : IsAnswer ends ends.usage
  pub too_long : IsAnswer ends ends.too_long
  pub not_too_long : ends.usage ≢ ends.too_long
  pub read_write : ends.read_fault ≢ ends.write_fault
  pub read_memory : ends.read_fault ≢ ends.memory
  pub write_memory : ends.write_fault ≢ ends.memory

-- for these words and bytes a run may end so and write this text: the words ask for no command, or the bytes
-- are too many, or the command that they ask for answers so
pub data Answer {C E : Type 0} (asks : List (List ℕ) → C → Type 0) (answers : C → List ℕ → E → List ℕ → Type 0)
    (ends : Ends E) (usage_line : List ℕ)
    (words : List (List ℕ)) (bytes : List ℕ) : E → List ℕ → Type 0 where
  usage : ((command : C) → ¬ asks words command) → Answer asks answers ends usage_line words bytes ends.usage usage_line
  too_long : (command : C) → asks words command → most_bytes < length bytes
      → Answer asks answers ends usage_line words bytes ends.too_long too_long_line
  told : {end : E} {text : List ℕ} → (command : C) → asks words command → length bytes ≤ most_bytes
      → answers command bytes end text
      → Answer asks answers ends usage_line words bytes end text
