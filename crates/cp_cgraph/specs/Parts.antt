-- All that is read of a list, before its first fault is sought.
use Rattle.std.specs.Prelude.{◌≡◌, ℕ, List, map}
use Rattle.std.specs.List.{flat_map}
use Rattle.cp_gml.specs.declared.tree.Entry.{Entry}
use Rattle.cp_cgraph.specs.Nested.{names, parents}
use Rattle.cp_cgraph.specs.GraphFaults.{known_ids, edge_entries, root_tree, faults}
use Rattle.cp_cgraph.specs.GraphOf.{ends_of_edge}
use Rattle.cp_cgraph.specs.declared.reader.Parts.{Parts}

-- the tables are what the entries of a graph list, which ends at byte `end`, say; the faults are all that they have
pub record AreReadFrom (end : ℕ) (es : List Entry) (p : Parts) : Type 0 where
  pub ids : p.ids ≡ known_ids es
  pub ends : p.ends ≡ flat_map (ends_of_edge (known_ids es)) (edge_entries es)
  pub parents : p.parents ≡ parents 0 1 (root_tree es)
  pub names : p.names ≡ names 0 1 (root_tree es)
  pub named : p.named ≡ map (λ m. m.id) p.names
  pub faults : p.faults ≡ faults end es
