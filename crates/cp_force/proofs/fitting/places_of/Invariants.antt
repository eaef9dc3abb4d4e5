use Rattle.std.proofs.Common.{◌≡◌, ℕ, ◌<◌, get_or}
use Rattle.cp_lists.specs.CyclicLists.{Distinct}
use Rattle.cp_force.specs.Fits.{place_in}
use Rattle.cp_force.proofs.fitting.places_of.Given as goal

abbrev pub invariant-loop-i : goal.invariant-loop-i
invariant-loop-i l = Distinct l.order → (k : ℕ) → k < l.i → place_in l.places (get_or l.order k 0) ≡ k
