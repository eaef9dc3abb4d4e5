-- A run of commands, of which there are four.
use Rattle.graph_parts.proofs.OwnEnds.{own_told, shared_apart}
use Rattle.graph_parts.proofs.running.run.Goals as goal

pub run_command-requires-clause-apart : goal.run_command-requires-clause-apart
run_command-requires-clause-apart g c = shared_apart

pub run_command-requires-clause-own : goal.run_command-requires-clause-own
run_command-requires-clause-own g c = own_told
