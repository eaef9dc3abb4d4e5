use Rattle.std.proofs.Common.{◌≡◌, ◌++◌, drop}
use Rattle.std.specs.Prelude.{codes}
use Rattle.std.specs.List.{flat_map}
use Rattle.cp_cgraph.specs.Entries.{keyed}
use Rattle.cp_cgraph.specs.GraphFaults.{nodes_faults, ids_of_node}
use Rattle.cp_cgraph.proofs.nodes.read_nodes.Given as goal

abbrev pub invariant-nodes : goal.invariant-nodes
invariant-nodes l = record {
  ids_are : l.ids ++ flat_map ids_of_node (keyed (codes "node") (drop l.entry-index l.entries)) ≡ l.initial.ids
      ++ flat_map ids_of_node (keyed (codes "node") l.entries);
  faults_are : l.faults ++ nodes_faults l.ids (keyed (codes "node") (drop l.entry-index l.entries)) ≡ l.initial.faults
      ++ nodes_faults l.initial.ids (keyed (codes "node") l.entries);
}
