-- Skeleton lists on which the definitions are tried.
use Rattle.std.specs.Prelude.{◌≡◌, pos, [], ◌∷◌, refl}
use Rattle.cp_cgraph.specs.Clustered.{Clustered}
use Rattle.cp_cgraph.specs.declared.layout.Layout.{Layout}
use Rattle.cp_skel.specs.SegmentLevels.{levels}
use Rattle.cp_skel.specs.SkeletonLists.{skeleton_lists}

-- a loop and two parallel edges from a node two clusters deep to one outside
abbrev nested : Clustered
nested = record {
  ids = pos 1 ∷ pos 2 ∷ [];
  ends = (0, 0) ∷ (0, 1) ∷ (0, 1) ∷ [];
  parents = 0 ∷ 1 ∷ [];
  homes = 2 ∷ 0 ∷ [];
}

-- a layout of it
abbrev nested_layout : Layout
nested_layout = record {
  nodes = (0 ∷ 1 ∷ 2 ∷ 4 ∷ []) ∷ (3 ∷ 5 ∷ []) ∷ [];
  clusters = (1 ∷ 2 ∷ []) ∷ (1 ∷ 2 ∷ []) ∷ [];
}

-- its skeleton lists
nested-skeleton_lists : skeleton_lists nested nested_layout
    ≡ ((11 ∷ 5 ∷ []) ∷ (6 ∷ 12 ∷ []) ∷ (9 ∷ 3 ∷ []) ∷ (4 ∷ 10 ∷ []) ∷ (0 ∷ 1 ∷ 2 ∷ 8 ∷ []) ∷ (7 ∷ 13 ∷ []) ∷ [])
nested-skeleton_lists = refl

-- the clusters of its segments and border edges
nested-levels : levels nested nested_layout ≡ (2 ∷ 2 ∷ 1 ∷ 0 ∷ 2 ∷ 1 ∷ 0 ∷ 1 ∷ 1 ∷ 2 ∷ 2 ∷ [])
nested-levels = refl
