-- The clustered graph (Feng, Cohen and Eades 1995) that a list of keys and values (Himsolt's GML) says.
use Rattle.std.specs.Prelude.{◌≡◌, ℕ, ℤ, if◌then◌else◌, List, [], ◌∷◌, map, Option, Some, None, codes}
use Rattle.std.specs.List.{position, flat_map}
use Rattle.std.specs.Ordering.{int_eq}
use Rattle.cp_gml.specs.declared.tree.Entry.{Entry}
use Rattle.cp_cgraph.specs.Clustered.{Clustered}
use Rattle.cp_cgraph.specs.Entries.{keyed, inner, first_id}
use Rattle.cp_cgraph.specs.Nested.{names, parents}
use Rattle.cp_cgraph.specs.declared.clusters.Name.{Name}
use Rattle.cp_cgraph.specs.GraphFaults.{known_ids, edge_entries, root_tree, faults}

-- the number of the node with the id
abbrev pub node_of_id : List ℤ → Option (ℤ × ℕ) → Option ℕ
node_of_id ids None = None
node_of_id ids (Some id) = position (int_eq id.0) ids

-- both ends, if there are two
abbrev pub both : Option ℕ → Option ℕ → List (ℕ × ℕ)
both None target = []
both (Some v) None = []
both (Some v) (Some w) = (v, w) ∷ []

-- the numbers of the two nodes that an edge names
abbrev pub ends_of_edge : List ℤ → Entry → List (ℕ × ℕ)
ends_of_edge ids e = elim (inner e.value) [
  | None ↦ []
  | Some es ↦ both (node_of_id ids (first_id (keyed (codes "source") es)))
      (node_of_id ids (first_id (keyed (codes "target") es)))
]

-- the cluster of the first entry that names the node with the id, or 0 where none does
abbrev pub home_by : List Name → ℤ → ℕ
home_by [] n = 0
home_by (m ∷ ms) n = if int_eq n m.id then m.cluster else home_by ms n

-- nodes, edges and clusters in the order of their entries, with the parents and homes
abbrev pub graph_of : List Entry → Clustered
graph_of es = record {
  ids = known_ids es;
  ends = flat_map (ends_of_edge (known_ids es)) (edge_entries es);
  parents = parents 0 1 (root_tree es);
  homes = map (home_by (names 0 1 (root_tree es))) (known_ids es);
}

-- the list has no fault, and says this graph
pub record IsGraphOf (end : ℕ) (es : List Entry) (g : Clustered) : Type 0 where
  pub flawless : faults end es ≡ []
  pub says : g ≡ graph_of es
