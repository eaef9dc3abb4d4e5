-- FreePole keeps solvability.
use Rattle.cp_poles.proofs.FreePoles.{KeepsSolvable-free}
use Rattle.cp_poles.proofs.free_poles.free_pole_keeps_solvable.Goals as goal

pub returns : goal.returns
returns c = KeepsSolvable-free
