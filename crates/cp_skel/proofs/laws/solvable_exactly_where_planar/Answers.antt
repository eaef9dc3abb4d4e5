use Rattle.cp_skel.proofs.PlanarSkeletons.{planar_exactly}
use Rattle.cp_skel.proofs.laws.solvable_exactly_where_planar.Goals as goal

pub returns : goal.returns
returns c = planar_exactly
