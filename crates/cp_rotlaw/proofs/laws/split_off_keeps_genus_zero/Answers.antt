use Rattle.cp_rotlaw.proofs.RestrictionLaws.{split_keeps_zero}
use Rattle.cp_rotlaw.proofs.SplitVertices.{IsRotation-split}
use Rattle.cp_rotlaw.proofs.laws.split_off_keeps_genus_zero.Goals as goal

pub returns : goal.returns
returns c = λ r is u lt takes meet. (IsRotation-split r is u lt takes, split_keeps_zero r u takes is lt meet)
