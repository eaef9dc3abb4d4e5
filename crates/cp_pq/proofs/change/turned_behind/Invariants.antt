use Rattle.std.proofs.Common.{◌≡◌, ◌++◌, cond, map, reverse, length}
use Rattle.cp_pq.specs.Founds.{turn_found, turn_behind}
use Rattle.cp_pq.proofs.change.turned_behind.Given as goal

abbrev pub invariant-loop-found : goal.invariant-loop-found
invariant-loop-found l =
    turn_behind (reverse l.fn.founds) ≡ l.turning.row ++ cond l.turning.met (map turn_found (reverse l.left)) (turn_behind (reverse l.left))

abbrev pub decreases-loop-found : goal.decreases-loop-found
decreases-loop-found l = length l.left
