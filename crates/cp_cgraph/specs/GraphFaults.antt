-- The faults of a list of keys and values (Himsolt's GML) that should say a clustered graph (Feng, Cohen
-- and Eades 1995): all of them, and the first.
use Rattle.std.specs.Prelude.{◌≡◌, ℕ, ℤ, ◌<◌, ◌≤◌, ◌⊎◌, Bool, if◌then◌else◌, List, [], ◌∷◌, ◌++◌, map, Option, Some, None, Contains, codes}
use Rattle.std.specs.List.{All, position, flat_map}
use Rattle.std.specs.Option.{is_some}
use Rattle.std.specs.Ordering.{int_eq}
use Rattle.cp_cgraph.specs.declared.kind.GraphKind.TheVariants.{NoGraph, SecondGraph, NotAList, MissingId, RepeatedKey, BadId, DuplicateNode, UnknownEnd, SecondRoot, UnknownVertex, VertexTwice, MissingEnd}
use Rattle.cp_cgraph.specs.declared.kind.GraphKind.{GraphKind}
use Rattle.cp_cgraph.specs.Kinds.{graph_number}
use Rattle.cp_gml.specs.declared.tree.Entry.{Entry}
use Rattle.cp_gml.specs.Trees.{Tree, tree}
use Rattle.cp_cgraph.specs.Entries.{keyed, has_key, inner, first_id}
use Rattle.cp_cgraph.specs.Nested.{names, wrong_entries}
use Rattle.cp_cgraph.specs.declared.clusters.Name.{Name}
use Rattle.cp_cgraph.specs.declared.fault.GraphFault.{GraphFault}
use Rattle.cp_cgraph.specs.declared.fault.GraphFault.TheVariants.{Graph, Memory}

-- an offset and a kind
abbrev pub Fault : Type 0
Fault = ℕ × GraphKind

-- some entries that stand after the first of their key
abbrev pub later : GraphKind → List Entry → List Fault
later kind es = map (λ e. (e.key_at, kind)) es

-- the entries of the value of the first of some entries
abbrev pub list_of_first : List Entry → List Entry
list_of_first [] = []
list_of_first (first ∷ rest) = elim (inner first.value) [ None ↦ [] | Some es ↦ es ]

-- the entries of the graph list: the value of the first `graph` entry
abbrev pub graph_list : List Entry → List Entry
graph_list es = list_of_first (keyed (codes "graph") es)

-- the entries at depth 0 in reading order, with those of the graph list in its place
abbrev pub spliced : List Entry → List Entry
spliced [] = []
spliced (e ∷ es) =
    if has_key (codes "graph") e
    then list_of_first (e ∷ []) ++ es
    else e ∷ spliced es

-- the entries that may give the root list, of which the first does
abbrev pub roots : List Entry → List Entry
roots es = keyed (codes "rootcluster") (spliced es)

-- no list
abbrev pub unlisted : Entry → List Fault
unlisted e = elim (inner e.value) [ None ↦ (e.value_at, NotAList) ∷ [] | Some es ↦ [] ]

-- no `graph` entry; a second or later one
abbrev pub graph_faults : ℕ → List Entry → List Fault
graph_faults end [] = (end, NoGraph) ∷ []
graph_faults end (first ∷ rest) = unlisted first ++ later SecondGraph rest

-- the value of the first is no id
abbrev pub bad_id : Option (ℤ × ℕ) → ℕ → List Fault
bad_id None at = (at, BadId) ∷ []
bad_id (Some id) at = []

-- the entries of one key, of which there should be one, with an id
abbrev pub id_faults : Fault → List Entry → List Fault
id_faults missing [] = missing ∷ []
id_faults missing (first ∷ rest) = bad_id (first_id (first ∷ rest)) first.value_at ++ later RepeatedKey rest

-- one of the ids is n
abbrev pub is_known : List ℤ → ℤ → Bool
is_known ids n = is_some (position (int_eq n) ids)

-- the id of an earlier node
abbrev pub duplicate : List ℤ → Option (ℤ × ℕ) → List Fault
duplicate earlier None = []
duplicate earlier (Some (n, at)) = if is_known earlier n then (at, DuplicateNode) ∷ [] else []

-- an id that no node has
abbrev pub unknown_end : List ℤ → Option (ℤ × ℕ) → List Fault
unknown_end ids None = []
unknown_end ids (Some (n, at)) = if is_known ids n then [] else (at, UnknownEnd) ∷ []

-- the `id` entries of a node
abbrev pub node_ids : Entry → List Entry
node_ids e = elim (inner e.value) [ None ↦ [] | Some es ↦ keyed (codes "id") es ]

-- the id of a node, if it has one
abbrev pub ids_of_node : Entry → List ℤ
ids_of_node e = elim (first_id (node_ids e)) [ None ↦ [] | Some id ↦ id.0 ∷ [] ]

-- a node whose value is no list; no `id` entry
abbrev pub node_faults : List ℤ → Entry → List Fault
node_faults earlier e = elim (inner e.value) [
  | None ↦ (e.value_at, NotAList) ∷ []
  | Some es ↦ id_faults (e.value_at, MissingId) (keyed (codes "id") es) ++ duplicate earlier
      (first_id (keyed (codes "id") es))
]

-- of some nodes after those with the earlier ids
abbrev pub nodes_faults : List ℤ → List Entry → List Fault
nodes_faults earlier [] = []
nodes_faults earlier (e ∷ es) = node_faults earlier e ++ nodes_faults (earlier ++ ids_of_node e) es

-- the `node` entries of the graph list
abbrev pub node_entries : List Entry → List Entry
node_entries es = keyed (codes "node") (graph_list es)

-- the ids of the nodes, in the order of their entries
abbrev pub known_ids : List Entry → List ℤ
known_ids es = flat_map ids_of_node (node_entries es)

-- one end of an edge: no entry
abbrev pub end_faults : List ℤ → ℕ → List Entry → List Fault
end_faults ids at es = id_faults (at, MissingEnd) es ++ unknown_end ids (first_id es)

-- an edge whose value is no list
abbrev pub edge_faults : List ℤ → Entry → List Fault
edge_faults ids e = elim (inner e.value) [
  | None ↦ (e.value_at, NotAList) ∷ []
  | Some es ↦ end_faults ids e.value_at (keyed (codes "source") es) ++ end_faults ids e.value_at
      (keyed (codes "target") es)
]

-- the `edge` entries of the graph list
abbrev pub edge_entries : List Entry → List Entry
edge_entries es = keyed (codes "edge") (graph_list es)

-- a second or later `rootcluster` entry
abbrev pub root_faults : List Entry → List Fault
root_faults [] = []
root_faults (first ∷ rest) = later SecondRoot rest ++ unlisted first

-- the root list
abbrev pub root_tree : List Entry → Tree
root_tree es = tree (list_of_first (roots es))

-- a `vertex` entry that names no node; one that names a node which an earlier one names
abbrev pub name_faults : List ℤ → List ℤ → ℤ → ℕ → List Fault
name_faults ids earlier n at =
    if is_known ids n
    then (if is_known earlier n then (at, VertexTwice) ∷ [] else [])
    else (at, UnknownVertex) ∷ []

-- of some `vertex` entries after those with the earlier ids
abbrev pub names_faults : List ℤ → List ℤ → List Name → List Fault
names_faults ids earlier [] = []
names_faults ids earlier (m ∷ ms) = name_faults ids earlier m.id m.at ++ names_faults ids (earlier ++ m.id ∷ []) ms

-- all faults of a list, which ends at the given offset
abbrev pub faults : ℕ → List Entry → List Fault
faults end es =
    graph_faults end (keyed (codes "graph") es)
    ++ (nodes_faults [] (node_entries es)
    ++ (flat_map (edge_faults (known_ids es)) (edge_entries es)
    ++ (root_faults (roots es)
    ++ (wrong_entries (root_tree es)
    ++ names_faults (known_ids es) [] (names 0 1 (root_tree es))))))

-- f does not stand behind g
abbrev pub IsUpTo : Fault → Fault → Type 0
IsUpTo f g = (f.0 < g.0) ⊎ ((f.0 ≡ g.0) × (graph_number f.1 ≤ graph_number g.1))

-- the fault of least offset, and among these of least kind
pub record IsFirst (fs : List Fault) (f : Fault) : Type 0 where
  pub stands : Contains fs f
  pub least : All (IsUpTo f) fs

-- the first fault of a list that ends at this offset
abbrev pub IsFaultOf : ℕ → List Entry → GraphKind → ℕ → Type 0
IsFaultOf end es kind at = IsFirst (faults end es) (at, kind)

-- the number is that of a kind, which with the offset has some property
abbrev pub IfGraph : GraphFault → (GraphKind → ℕ → Type 0) → Type 0
IfGraph (Graph number at) P = (kind : GraphKind) × (number ≡ graph_number kind) × P kind at
IfGraph Memory P = Unit {0}
