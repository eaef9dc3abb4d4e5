use Rattle.cp_rot.proofs.LawCounts.{side_by_side_counts}
use Rattle.cp_rot.proofs.laws.counts_add_up.Goals as goal

pub returns : goal.returns
returns c = side_by_side_counts
