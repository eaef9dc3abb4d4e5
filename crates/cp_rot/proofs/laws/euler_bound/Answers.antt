use Rattle.cp_rot.proofs.Functions.{genus_of}
use Rattle.cp_rot.proofs.laws.euler_bound.Goals as goal

pub returns : goal.returns
returns c = genus_of
