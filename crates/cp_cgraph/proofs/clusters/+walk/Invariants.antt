use Rattle.std.proofs.Common.{◌≡◌, drop}
use Rattle.cp_gml.specs.Trees.{tree}
use Rattle.cp_cgraph.specs.Passes.{read}
use Rattle.cp_cgraph.proofs.clusters.+walk.Given as goal

abbrev pub invariant-read_list-entries : goal.invariant-read_list-entries
invariant-read_list-entries l =
    read l.cluster (tree (drop l.entry-index l.entry-items)) l.out ≡ read l.cluster (tree l.entry-items) l.initial.out
