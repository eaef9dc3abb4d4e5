use Rattle.cp_rot.proofs.LawCounts.{loop_counts}
use Rattle.cp_rot.proofs.laws.loop_adds_one_face.Goals as goal

pub returns : goal.returns
returns c = loop_counts
