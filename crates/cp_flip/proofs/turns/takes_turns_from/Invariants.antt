-- The places so far are passed.
use Rattle.cp_flip.proofs.TakingTurns.{IsPassed}
use Rattle.cp_flip.proofs.turns.takes_turns_from.Given as goal

abbrev pub invariant-loop-k : goal.invariant-loop-k
invariant-loop-k l = IsPassed l.numbers l.lasts l.place l.k l.far
