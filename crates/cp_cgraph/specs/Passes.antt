-- How the reader goes through a list, for contracts of its parts.
use Rattle.std.specs.Prelude.{ℕ, suc, ℤ, if◌then◌else◌, List, [], ◌∷◌, ◌++◌, length, Option, Some, None}
use Rattle.cp_cgraph.specs.declared.kind.GraphKind.{GraphKind}
use Rattle.cp_cgraph.specs.declared.kind.GraphKind.TheVariants.{NotAList, BadId, SecondRoot}
use Rattle.cp_gml.specs.declared.tree.Entry.{Entry}
use Rattle.cp_gml.specs.Trees.{Tree, nil, leaf, node}
use Rattle.cp_cgraph.specs.Entries.{has_key}
use Rattle.cp_cgraph.specs.GraphFaults.{Fault, later, unlisted, list_of_first}
use Rattle.cp_cgraph.specs.Nested.{is_cluster, is_vertex, leaf_id}
use Rattle.cp_cgraph.specs.declared.clusters.Clusters.{Clusters}

-- the entries from the first one with the key on
abbrev pub from_first : List ℕ → List Entry → List Entry
from_first key [] = []
from_first key (e ∷ es) = if has_key key e then e ∷ es else from_first key es

-- the number of entries before the first one with the key
abbrev pub until : List ℕ → List Entry → ℕ
until key [] = 0
until key (e ∷ es) = if has_key key e then 0 else suc (until key es)

-- what is found already, or else the first of some entries
abbrev pub first_of : Option Entry → List Entry → Option Entry
first_of (Some e) es = Some e
first_of None [] = None
first_of None (e ∷ es) = Some e

-- the `rootcluster` entries behind that one
abbrev pub later_of : Option Entry → List Entry → List Fault
later_of (Some e) es = later SecondRoot es
later_of None [] = []
later_of None (e ∷ es) = later SecondRoot es

-- the faults and the entries of the value of an entry that may be there
abbrev pub unlisted_of : Option Entry → List Fault
unlisted_of None = []
unlisted_of (Some e) = unlisted e

-- the entries of the value of an entry that may be there
abbrev pub list_in : Option Entry → List Entry
list_in None = []
list_in (Some e) = list_of_first (e ∷ [])

-- one more cluster is opened in cluster c
abbrev pub with_cluster : ℕ → Clusters → Clusters
with_cluster c s = record { parents = s.parents ++ c ∷ []; names = s.names; faults = s.faults }

-- one more fault
abbrev pub with_fault : ℕ → GraphKind → Clusters → Clusters
with_fault at kind s = record { parents = s.parents; names = s.names; faults = s.faults ++ (at, kind) ∷ [] }

-- a `vertex` entry of the list of cluster c
abbrev pub with_name : ℕ → Option ℤ → ℕ → Clusters → Clusters
with_name c (Some n) at s = record {
  parents = s.parents;
  names = s.names ++ record { cluster = c; id = n; at = at }
      ∷ [];
  faults = s.faults;
}
with_name c None at s = with_fault at BadId s

-- what is read behind what was read before
abbrev pub read : ℕ → Tree → Clusters → Clusters
read c nil s = s
read c (leaf key key_at value at t) s =
    read c t (if is_cluster key then with_fault at NotAList s else (if is_vertex key then with_name c (leaf_id value) at
    s else s))
read c (node key key_at at inner end t) s =
    read c t (if is_cluster key
    then read (length (s.parents ++ c ∷ [])) inner (with_cluster c s)
    else (if is_vertex key then with_fault at BadId s else s))
