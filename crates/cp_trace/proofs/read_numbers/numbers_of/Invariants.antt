use Rattle.std.proofs.Common.{◌≡◌, ◌++◌, length, map}
use Rattle.std.specs.Fmt.{decimal}
use Rattle.cp_trace.specs.Faults.{AreSmall}
use Rattle.cp_trace.proofs.read_numbers.numbers_of.Given as goal

-- the words taken so far spell the numbers
abbrev pub invariant-loop-word : goal.invariant-loop-word
invariant-loop-word l = record {
  fit : AreSmall l.numbers.items;
  spelled : l.initial.words ≡ map decimal l.numbers.items ++ l.words;
}

abbrev pub decreases-loop-word : goal.decreases-loop-word
decreases-loop-word l = length l.words
