use Rattle.std.proofs.Common.{rules}
use Rattle.cp_force.specs.Fits.{place_in}
use Rattle.cp_force.proofs.fitting.place.Goals as goal

pub returns : goal.returns
unfolding place_in
returns c = search rules
