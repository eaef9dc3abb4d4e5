use Rattle.std.proofs.Common.{◌≡◌, ◌++◌, drop}
use Rattle.std.specs.Prelude.{codes}
use Rattle.std.specs.List.{flat_map}
use Rattle.cp_cgraph.specs.Entries.{keyed}
use Rattle.cp_cgraph.specs.GraphFaults.{edge_faults}
use Rattle.cp_cgraph.specs.GraphOf.{ends_of_edge}
use Rattle.cp_cgraph.proofs.edges.read_edges.Given as goal

abbrev pub invariant-edges : goal.invariant-edges
invariant-edges l = record {
  ends_are : l.ends ++ flat_map (ends_of_edge l.ids) (keyed (codes "edge") (drop l.entry-index l.entries))
      ≡ l.initial.ends ++ flat_map (ends_of_edge l.ids) (keyed (codes "edge") l.entries);
  faults_are : l.faults ++ flat_map (edge_faults l.ids) (keyed (codes "edge") (drop l.entry-index l.entries))
      ≡ l.initial.faults ++ flat_map (edge_faults l.ids) (keyed (codes "edge") l.entries);
}
