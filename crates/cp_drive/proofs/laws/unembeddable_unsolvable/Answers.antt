-- By the block of the edge, of which a solution would have a rotation.
use Rattle.cp_plantlaw.proofs.SolvedBlocks.{unembeddable-IsSolvable}
use Rattle.cp_drive.proofs.laws.unembeddable_unsolvable.Goals as goal

pub returns : goal.returns
returns c = λ i e is u. unembeddable-IsSolvable i is e u
