use Rattle.cp_rotlaw.proofs.SplitRuns.{run_zero, run_by_parts}
use Rattle.cp_rotlaw.proofs.laws.run_keeps_genus.Goals as goal

pub returns-clause-split : goal.returns-clause-split
returns-clause-split c = λ r is u lt takes meet run. run_zero r is u lt takes meet run

pub returns-clause-parts : goal.returns-clause-parts
returns-clause-parts c = λ r a b is is_a is_b u lt takes meet run na oa nb ob res_a res_b. run_by_parts r a b is is_a is_b u lt takes meet run na oa nb ob res_a res_b
