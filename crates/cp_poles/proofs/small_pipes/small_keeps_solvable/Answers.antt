-- Small keeps solvability.
use Rattle.cp_poles.proofs.SmallPipes.{KeepsSolvable-small}
use Rattle.cp_poles.proofs.small_pipes.small_keeps_solvable.Goals as goal

pub returns : goal.returns
returns c = KeepsSolvable-small
