-- The numbers so far take no turns.
use Rattle.std.proofs.Common.{ℕ, ◌<◌}
use Rattle.cp_flip.specs.TakingTurns.{TakesNoTurns}
use Rattle.cp_flip.proofs.turns.take_turns.Given as goal

abbrev pub invariant-loop-place : goal.invariant-loop-place
invariant-loop-place l = (p : ℕ) → p < l.place → TakesNoTurns l.numbers p
