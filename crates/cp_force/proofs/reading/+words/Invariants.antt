-- The first nodes were read.
use Rattle.std.proofs.Common.{◌≡◌, ◌++◌, take}
use Rattle.cp_force.specs.Words.{words_by}
use Rattle.cp_pq.specs.Promises.{in_direction}
use Rattle.cp_force.proofs.reading.+words.Given as goal

abbrev pub invariant-push_words-loop-i : goal.invariant-push_words-loop-i
invariant-push_words-loop-i l = l.word.items ≡ l.fn.word.items ++ words_by l.bits
    (take l.i (in_direction l.turned l.nodes))
