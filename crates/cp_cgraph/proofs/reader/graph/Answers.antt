use Rattle.std.proofs.Common.{sym, subst}
use Rattle.cp_cgraph.specs.LookUps.{IsNested}
use Rattle.cp_cgraph.proofs.Tables.{IsNested-graph_of}
use Rattle.cp_cgraph.proofs.reader.graph.Goals as goal

pub from_stored-requires : goal.from_stored-requires
from_stored-requires c = subst IsNested (sym c.in_ok-stored.ensures) (IsNested-graph_of c.args.entries.now)
