use Rattle.std.proofs.Common.{◌≡◌, ◌++◌, [], map, drop}
use Rattle.cp_cgraph.specs.GraphFaults.{names_faults}
use Rattle.cp_cgraph.specs.declared.clusters.Name.{Name}
use Rattle.cp_cgraph.proofs.names.read_names.Given as goal

abbrev pub invariant-names : goal.invariant-names
invariant-names l = record {
  named_are : l.named ++ map (λ (m : Name). m.id) (drop l.name-index l.names) ≡ map (λ (m : Name). m.id) l.names;
  faults_are : l.faults ++ names_faults l.ids l.named (drop l.name-index l.names) ≡ l.initial.faults ++ names_faults
      l.ids [] l.names;
}
