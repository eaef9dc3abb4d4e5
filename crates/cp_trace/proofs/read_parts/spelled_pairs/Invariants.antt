use Rattle.std.proofs.Common.{◌≡◌, ◌++◌, length, map}
use Rattle.std.specs.List.{AllByRecursion}
use Rattle.cp_trace.specs.Faults.{IsPair}
use Rattle.cp_trace.specs.Reading.{pair_word}
use Rattle.cp_trace.proofs.read_parts.spelled_pairs.Given as goal

-- the words taken so far spell the pairs
abbrev pub invariant-loop-word : goal.invariant-loop-word
invariant-loop-word l = record {
  fit : AllByRecursion IsPair l.pairs;
  spelled : l.initial.words ≡ map pair_word l.pairs ++ l.words;
}

abbrev pub decreases-loop-word : goal.decreases-loop-word
decreases-loop-word l = length l.words
