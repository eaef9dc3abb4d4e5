-- no turn by fewer items gives the other list
use Rattle.std.proofs.Common.{ℕ, ◌<◌}
use Rattle.cp_lists.specs.Turns.{IsTurnBy}
use Rattle.cp_base.proofs.turns.is_turn.Given as goal

abbrev pub invariant-loop-i : goal.invariant-loop-i
invariant-loop-i l = (k : ℕ) → k < l.i → ¬ IsTurnBy l.xs l.ys k
