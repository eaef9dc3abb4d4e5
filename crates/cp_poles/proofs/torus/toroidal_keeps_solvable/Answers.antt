-- Toroidal keeps solvability.
use Rattle.cp_poles.proofs.TorusSolutions.{KeepsSolvable-toroidal}
use Rattle.cp_poles.proofs.torus.toroidal_keeps_solvable.Goals as goal

pub returns : goal.returns
returns c = KeepsSolvable-toroidal
