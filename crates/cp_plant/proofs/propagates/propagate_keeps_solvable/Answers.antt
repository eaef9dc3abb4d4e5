-- Propagate keeps solvability.
use Rattle.cp_plantlaw.proofs.PropagateSteps.{propagate-IsSolvable}
use Rattle.cp_plant.proofs.propagates.propagate_keeps_solvable.Goals as goal

pub returns : goal.returns
returns c i j is_i is_j pipe end shape allowed after =
    propagate-IsSolvable i j is_i is_j pipe end shape allowed after
