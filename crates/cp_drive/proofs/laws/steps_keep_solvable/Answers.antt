-- By the laws of the kinds of step.
use Rattle.cp_drive.proofs.Pasts.{taken-IsSolvable}
use Rattle.cp_drive.proofs.laws.steps_keep_solvable.Goals as goal

pub returns : goal.returns
returns c = taken-IsSolvable c.small_keeps_solvable.ensures c.free_pole_keeps_solvable.ensures
    c.fuse_poles_keeps_solvable.ensures c.toroidal_keeps_solvable.ensures c.join_keeps_solvable.ensures
    c.propagate_keeps_solvable.ensures
