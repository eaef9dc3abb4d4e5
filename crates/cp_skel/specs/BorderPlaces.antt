-- The borders of the border graph by their places, and its border vertices cluster by cluster.
use Rattle.std.specs.Prelude.{ℕ, ◌+◌, ◌*◌, List, map, length, slice_index}
use Rattle.std.specs.List.{flat_map, range_with_len}
use Rattle.cp_cgraph.specs.Clustered.{Clustered}
use Rattle.cp_cgraph.specs.declared.layout.Layout.{Layout}
use Rattle.cp_border.specs.Borders.{border_vertex, cluster_list, first_border_edge}
use Rattle.cp_maps.specs.Borders.{Place}
use Rattle.cp_skel.specs.SkeletonLists.{in_dart, out_dart}

-- the place of the border of cluster c where the edge at place k of its list crosses it
abbrev pub border_place : Clustered → Layout → ℕ → ℕ → Place
border_place g l c k =
    let e = slice_index (cluster_list l c) k in
    record { begins = 2 * (first_border_edge g l c + k); inside = in_dart g c e; outside = out_dart g c e }

-- the border of cluster c
abbrev pub border_of : Clustered → Layout → ℕ → List Place
border_of g l c = map (border_place g l c) (range_with_len 0 (length (cluster_list l c)))

-- the border vertices of cluster c, and of some clusters
abbrev pub vertices_at : Clustered → Layout → ℕ → List ℕ
vertices_at g l c =
    map (λ k. border_vertex g (slice_index (cluster_list l c) k) c) (range_with_len 0 (length (cluster_list l c)))

-- the border vertices of some clusters, one cluster after another
abbrev pub vertices_of : Clustered → Layout → List ℕ → List ℕ
vertices_of g l cs = flat_map (vertices_at g l) cs
