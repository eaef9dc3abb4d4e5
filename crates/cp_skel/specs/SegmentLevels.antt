-- The cluster in which each edge of the border graph lies.
use Rattle.std.specs.Prelude.{◌≡◌, ℕ, ◌/◌, cond, List, [], ◌∷◌, ◌++◌, map, length, slice_index_or}
use Rattle.std.specs.List.{flat_map, range_with_len}
use Rattle.cp_cgraph.specs.Clustered.{Clustered, edges, home, parent, source}
use Rattle.cp_cgraph.specs.Crossings.{contains, crossings}
use Rattle.cp_cgraph.specs.declared.layout.Layout.{Layout}
use Rattle.cp_border.specs.Borders.{cluster_list}

-- the clusters in which the segments of edge e lie that touch the border of cluster c: of the one before the border, as
-- the edge runs from its source to its target, and of the one behind
abbrev pub ahead : Clustered → ℕ → ℕ → ℕ
ahead g e c = cond (contains g c (source g e)) c (parent g c)

-- and the cluster of the segment behind the border
abbrev pub behind : Clustered → ℕ → ℕ → ℕ
behind g e c = cond (contains g c (source g e)) (parent g c) c

-- the segments between the borders of the clusters cs lie in one cluster each, the first in a, and the last in b
abbrev pub Linked : Clustered → ℕ → ℕ → List ℕ → ℕ → Type 0
Linked g e a [] b = a ≡ b
Linked g e a (c ∷ cs) b = (a ≡ ahead g e c) × Linked g e (behind g e c) cs b

-- the clusters of the segments of edge e, from its source to its target
abbrev pub segment_levels : Clustered → ℕ → List ℕ
segment_levels g e = home g (source g e) ∷ map (behind g e) (crossings g e)

-- the cluster of each border edge of cluster c, which is c
abbrev pub border_levels : Layout → ℕ → List ℕ
border_levels l c = map (λ k. c) (range_with_len 0 (length (cluster_list l c)))

-- the clusters of all edges of the border graph
abbrev pub levels : Clustered → Layout → List ℕ
levels g l =
    flat_map (segment_levels g) (range_with_len 0 (edges g))
    ++ flat_map (border_levels l) (range_with_len 1 (length g.parents))

-- the cluster in which a dart of the border graph lies
abbrev pub level : Clustered → Layout → ℕ → ℕ
level g l d = slice_index_or (levels g l) (d / 2) 0
