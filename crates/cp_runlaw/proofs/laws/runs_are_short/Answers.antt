use Rattle.cp_runlaw.proofs.RunLemmas.{run_short}
use Rattle.cp_runlaw.proofs.laws.runs_are_short.Goals as goal

pub returns : goal.returns
returns c = run_short
