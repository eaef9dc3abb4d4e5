use Rattle.std.proofs.Common.{◌<◌}
use Rattle.cp_cgraph.specs.Clustered.{clusters}
use Rattle.cp_cgraph.proofs.Nesting.{IsRaised}
use Rattle.cp_cgraph.proofs.look_ups.lasts.Given as goal

abbrev pub invariant-raising : goal.invariant-raising
invariant-raising l = record { cluster : l.c < clusters l.g; raised : IsRaised l.g l.lasts.items l.c }

abbrev pub decreases-raising : goal.decreases-raising
decreases-raising l = l.c
