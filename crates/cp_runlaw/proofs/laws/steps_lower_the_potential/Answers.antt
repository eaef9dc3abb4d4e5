use Rattle.cp_runlaw.proofs.Potentials.{lowers}
use Rattle.cp_runlaw.proofs.laws.steps_lower_the_potential.Goals as goal

pub returns : goal.returns
returns c = lowers
