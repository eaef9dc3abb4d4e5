-- Join keeps solvability.
use Rattle.cp_join.proofs.SolvableJoins.{KeepsSolvable-join}
use Rattle.cp_join.proofs.turning_back.join_keeps_solvable.Goals as goal

pub returns : goal.returns
returns c = KeepsSolvable-join
