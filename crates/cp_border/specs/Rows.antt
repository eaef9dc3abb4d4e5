-- Border graphs on which the definitions are tried.
use Rattle.std.specs.Prelude.{◌≡◌, pos, [], ◌∷◌, refl}
use Rattle.cp_cgraph.specs.Clustered.{Clustered}
use Rattle.cp_cgraph.specs.declared.layout.Layout.{Layout}
use Rattle.cp_border.specs.Borders.{borders}

-- an edge that leaves a cluster: the border is a loop at the one border vertex
abbrev pub leaving : Clustered
leaving = record { ids = pos 1 ∷ pos 2 ∷ []; ends = (0, 1) ∷ []; parents = 0 ∷ []; homes = 1 ∷ 0 ∷ [] }

-- a layout of an edge that leaves a cluster
abbrev pub leaving_layout : Layout
leaving_layout = record { nodes = (0 ∷ []) ∷ (1 ∷ []) ∷ []; clusters = (0 ∷ []) ∷ [] }

-- its border graph
leaving_borders : borders leaving leaving_layout ≡ record {
  vertices = 3;
  at = 0 ∷ 2 ∷ 2 ∷ 1 ∷ 2 ∷ 2 ∷ [];
  lists = (0 ∷ []) ∷ (3 ∷ []) ∷ (4 ∷ 1 ∷ 5 ∷ 2 ∷ []) ∷ [];
}
leaving_borders = refl

-- the edge runs into the cluster: its inner segment is the one at its target
abbrev pub entering : Clustered
entering = record { ids = pos 1 ∷ pos 2 ∷ []; ends = (1, 0) ∷ []; parents = 0 ∷ []; homes = 1 ∷ 0 ∷ [] }

-- a layout of an edge that enters a cluster
abbrev pub entering_layout : Layout
entering_layout = record { nodes = (1 ∷ []) ∷ (0 ∷ []) ∷ []; clusters = (0 ∷ []) ∷ [] }

-- its border graph
entering_borders : borders entering entering_layout ≡ record {
  vertices = 3;
  at = 1 ∷ 2 ∷ 2 ∷ 0 ∷ 2 ∷ 2 ∷ [];
  lists = (3 ∷ []) ∷ (0 ∷ []) ∷ (4 ∷ 2 ∷ 5 ∷ 1 ∷ []) ∷ [];
}
entering_borders = refl

-- a loop and two parallel edges from a node two clusters deep to one outside
abbrev pub nested : Clustered
nested = record {
  ids = pos 1 ∷ pos 2 ∷ [];
  ends = (0, 0) ∷ (0, 1) ∷ (0, 1) ∷ [];
  parents = 0 ∷ 1 ∷ [];
  homes =
      2 ∷ 0 ∷ [];
}

-- a layout of two nested clusters
abbrev pub nested_layout : Layout
nested_layout = record { nodes = (0 ∷ 1 ∷ 2 ∷ 4 ∷ []) ∷ (3 ∷ 5 ∷ []) ∷ []; clusters = (1 ∷ 2 ∷ []) ∷ (1 ∷ 2 ∷ []) ∷ [] }

-- vertices 2 and 3 are the crossings of edge 1, first of the inner border; 4 and 5 those of edge 2
nested_borders : borders nested nested_layout ≡ record {
  vertices = 6;
  at = 0 ∷ 0 ∷ 0 ∷ 2 ∷ 2 ∷ 3 ∷ 3 ∷ 1 ∷ 0 ∷ 4 ∷ 4 ∷ 5 ∷ 5 ∷ 1 ∷ 3 ∷ 5 ∷ 5 ∷ 3 ∷ 2 ∷ 4 ∷ 4 ∷ 2 ∷ [];
  lists = (0 ∷ 1 ∷ 2 ∷ 8 ∷ []) ∷ (7 ∷ 13 ∷ []) ∷ (18 ∷ 3 ∷ 21 ∷ 4 ∷ []) ∷ (14 ∷ 5 ∷ 17 ∷ 6 ∷ [])
      ∷ (20 ∷ 9 ∷ 19 ∷ 10 ∷ []) ∷ (16 ∷ 11 ∷ 15 ∷ 12 ∷ []) ∷ [];
}
nested_borders = refl

-- three nodes in no edge, and an empty cluster
abbrev pub isolated : Clustered
isolated = record { ids = pos 1 ∷ pos 2 ∷ pos 3 ∷ []; ends = []; parents = 0 ∷ []; homes = 0 ∷ 0 ∷ 0 ∷ [] }

-- nodes without edges, and an empty cluster
isolated_borders : borders isolated record { nodes = [] ∷ [] ∷ [] ∷ []; clusters = [] ∷ [] }
    ≡ record { vertices = 3; at = []; lists = [] ∷ [] ∷ [] ∷ [] }
isolated_borders = refl
