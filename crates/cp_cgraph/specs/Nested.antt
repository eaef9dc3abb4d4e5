-- Nested clusters (Feng, Cohen and Eades 1995) in a list of keys and values: what opens them, and what
-- names nodes in them.
use Rattle.std.specs.Prelude.{ℕ, ℤ, ◌+◌, Bool, if◌then◌else◌, List, [], ◌∷◌, ◌++◌, Option, Some, None, codes}
use Rattle.std.specs.Str.{bytes_eq}
use Rattle.cp_cgraph.specs.declared.kind.GraphKind.{GraphKind}
use Rattle.cp_cgraph.specs.declared.kind.GraphKind.TheVariants.{NotAList, BadId}
use Rattle.cp_gml.specs.Tokens.{Leaf, Chars, Whole, Other}
use Rattle.cp_gml.specs.Trees.{Tree, nil, leaf, node}
use Rattle.cp_cgraph.specs.Entries.{spelled_id}
use Rattle.cp_cgraph.specs.declared.clusters.Name.{Name}

-- the key opens a cluster
abbrev pub is_cluster : List ℕ → Bool
is_cluster key = bytes_eq key (codes "cluster")

-- the key names a node
abbrev pub is_vertex : List ℕ → Bool
is_vertex key = bytes_eq key (codes "vertex")

-- the id by which a leaf names a node
abbrev pub leaf_id : Leaf → Option ℤ
leaf_id (Whole n) = Some n
leaf_id Other = None
leaf_id (Chars text) = spelled_id text

-- the number of clusters that are opened in a cluster's list
abbrev pub opened : Tree → ℕ
opened nil = 0
opened (leaf key key_at value at t) = opened t
opened (node key key_at at inner end t) = if is_cluster key then 1 + opened inner + opened t else opened t

-- the parents of the clusters that are opened in the list of cluster c, of which the first has number
-- `next`, in the order in which they are opened
abbrev pub parents : ℕ → ℕ → Tree → List ℕ
parents c next nil = []
parents c next (leaf key key_at value at t) = parents c next t
parents c next (node key key_at at inner end t) =
    if is_cluster key
    then c ∷ parents next (next + 1) inner ++ parents c (next + (1 + opened inner)) t
    else parents c next t

-- a `vertex` entry of the list of cluster c that has an id
abbrev pub name_of : ℕ → Option ℤ → ℕ → List Name
name_of c None at = []
name_of c (Some n) at = record { cluster = c; id = n; at = at } ∷ []

-- the `vertex` entries that have an id, each with the cluster in whose list it stands
abbrev pub names : ℕ → ℕ → Tree → List Name
names c next nil = []
names c next (leaf key key_at value at t) =
    (if is_vertex key then name_of c (leaf_id value) at else []) ++ names c next t
names c next (node key key_at at inner end t) =
    if is_cluster key
    then names next (next + 1) inner ++ names c (next + (1 + opened inner)) t
    else names c next t

-- a name that is no id
abbrev pub bad_name : Option ℤ → ℕ → List (ℕ × GraphKind)
bad_name None at = (at, BadId) ∷ []
bad_name (Some n) at = []

-- a cluster that is no list; a `vertex` entry that has no id
abbrev pub wrong_entries : Tree → List (ℕ × GraphKind)
wrong_entries nil = []
wrong_entries (leaf key key_at value at t) =
    (if is_cluster key then (at, NotAList) ∷ [] else (if is_vertex key then bad_name (leaf_id value) at else []))
    ++ wrong_entries t
wrong_entries (node key key_at at inner end t) =
    (if is_cluster key then wrong_entries inner else (if is_vertex key then (at, BadId) ∷ [] else [])) ++ wrong_entries
    t
