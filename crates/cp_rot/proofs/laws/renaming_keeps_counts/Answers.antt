use Rattle.cp_rot.proofs.LawCounts.{renamed_counts}
use Rattle.cp_rot.proofs.laws.renaming_keeps_counts.Goals as goal

pub returns : goal.returns
returns c = λ r s h back k undo is_r is_s ren. renamed_counts r s h back k undo is_r is_s ren
