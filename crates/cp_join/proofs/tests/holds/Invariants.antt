use Rattle.std.proofs.Common.{◌≡◌, false, take}
use Rattle.cp_board.specs.Names.{has}
use Rattle.cp_join.proofs.tests.holds.Given as goal

abbrev pub invariant-loop-n : goal.invariant-loop-n
invariant-loop-n l = has (take l.n-index l.numbers) l.number ≡ false
