-- In a solution all cycles have one length.
use Rattle.cp_poles.proofs.TorusTurns.{unequal-unsolvable}
use Rattle.cp_poles.proofs.torus.unequal_cycles_unsolvable.Goals as goal

pub returns : goal.returns
returns c = λ i pipe p a b is live bond h solved.
    unequal-unsolvable i pipe p is live bond a b h solved.0 solved.1
