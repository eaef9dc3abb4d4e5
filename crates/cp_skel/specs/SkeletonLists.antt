-- The lists of darts that a layout gives the skeletons of a clustered graph (Bläsius, Rutter 2016).
use Rattle.std.specs.Prelude.{ℕ, ◌+◌, ◌*◌, ◌==◌, cond, List, [], ◌∷◌, ◌++◌, map, length, reverse}
use Rattle.std.specs.List.{flat_map, position_or_len, range_with_len}
use Rattle.cp_cgraph.specs.Clustered.{Clustered, source}
use Rattle.cp_cgraph.specs.Crossings.{contains, crossings}
use Rattle.cp_cgraph.specs.declared.layout.Layout.{Layout}
use Rattle.cp_border.specs.Borders.{cluster_list, end_dart, first_segment}

-- how many borders edge e crosses before that of cluster c, as it runs from its source to its target
abbrev pub crossing_place : Clustered → ℕ → ℕ → ℕ
crossing_place g e c = position_or_len (λ x. x == c) (crossings g e)

-- the darts at the border of cluster c of the segment of edge e that ends there, and of the one that begins there
abbrev pub dart_before : Clustered → ℕ → ℕ → ℕ
dart_before g c e = 2 * (first_segment g e + crossing_place g e c) + 1

-- and the dart of the segment that begins there
abbrev pub dart_behind : Clustered → ℕ → ℕ → ℕ
dart_behind g c e = 2 * (first_segment g e + crossing_place g e c + 1)

-- of the two the one inside the cluster, and the one outside
abbrev pub in_dart : Clustered → ℕ → ℕ → ℕ
in_dart g c e = cond (contains g c (source g e)) (dart_before g c e) (dart_behind g c e)

-- and the dart outside the cluster
abbrev pub out_dart : Clustered → ℕ → ℕ → ℕ
out_dart g c e = cond (contains g c (source g e)) (dart_behind g c e) (dart_before g c e)

-- the clusters but the root
abbrev pub inner_clusters : Clustered → List ℕ
inner_clusters g = range_with_len 1 (length g.parents)

-- the two lists of a border: round all that lies outside the cluster, as it is seen from inside, and round the cluster,
-- as it is seen from outside
abbrev pub border_pair : Clustered → Layout → ℕ → List (List ℕ)
border_pair g l c =
    reverse (map (in_dart g c) (cluster_list l c)) ∷ map (out_dart g c) (cluster_list l c) ∷ []

-- the lists of all skeletons: two for each border, and one for each node
abbrev pub skeleton_lists : Clustered → Layout → List (List ℕ)
skeleton_lists g l = flat_map (border_pair g l) (inner_clusters g) ++ map (map (end_dart g)) l.nodes
