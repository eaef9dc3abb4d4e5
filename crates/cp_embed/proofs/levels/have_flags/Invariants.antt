-- The vertices so far have flags.
use Rattle.std.proofs.Common.{◌≡◌, ℕ, ◌<◌, true, false, get_or}
use Rattle.cp_embed.proofs.levels.have_flags.Given as goal

abbrev pub invariant-loop-i : goal.invariant-loop-i
invariant-loop-i l = (k : ℕ) → 0 < k → k < l.i → get_or l.flags (get_or l.order k 0) false ≡ true
