use Rattle.std.proofs.Common.{◌≡◌, ◌||◌, ◌++◌, reverse, length}
use Rattle.std.specs.List.{list_any}
use Rattle.cp_pq.specs.Founds.{is_torn, flat_line, flat_ties}
use Rattle.cp_pq.proofs.pour.pour.Given as goal

abbrev pub invariant-loop-found : goal.invariant-loop-found
invariant-loop-found l =
    (flat_line (reverse l.fn.founds) ≡ (reverse l.poured.front ++ l.poured.back) ++ flat_line (reverse l.left))
    × (flat_ties l.fn.founds ++ l.fn.ties ≡ flat_ties l.left ++ l.poured.ties)
    × (list_any is_torn l.fn.founds ≡ (l.poured.torn || list_any is_torn l.left))

abbrev pub decreases-loop-found : goal.decreases-loop-found
decreases-loop-found l = length l.left
