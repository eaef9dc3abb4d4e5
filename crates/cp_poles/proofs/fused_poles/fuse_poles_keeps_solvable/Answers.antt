-- FusePoles keeps solvability.
use Rattle.cp_poles.proofs.FusedSolutions.{KeepsSolvable-fuse}
use Rattle.cp_poles.proofs.fused_poles.fuse_poles_keeps_solvable.Goals as goal

pub returns : goal.returns
returns c = KeepsSolvable-fuse
