-- Skeletons on which the definitions are tried: those that the worked run begins with.
use Rattle.std.specs.Prelude.{◌≡◌, pos, [], ◌∷◌, refl}
use Rattle.cp_board.specs.Rows.{first}
use Rattle.cp_cgraph.specs.Clustered.{Clustered}
use Rattle.cp_skel.specs.Skeletons.{kept_segments, skeletons}

-- a cluster with two nodes; three edges leave it from one of them and one from the other
abbrev pub worked : Clustered
worked = record {
  ids = pos 1 ∷ pos 2 ∷ pos 3 ∷ pos 4 ∷ [];
  ends = (0, 2) ∷ (0, 2) ∷ (0, 3) ∷ (1, 2) ∷ [];
  parents = 0 ∷ [];
  homes = 1 ∷ 1 ∷ 0 ∷ 0 ∷ [];
}

-- its skeletons are the first instance of the run
worked-skeletons : skeletons worked ≡ first
worked-skeletons = refl

-- a loop and two parallel edges from a node two clusters deep to one outside
abbrev pub nested : Clustered
nested = record {
  ids = pos 1 ∷ pos 2 ∷ [];
  ends = (0, 0) ∷ (0, 1) ∷ (0, 1) ∷ [];
  parents = 0 ∷ 1 ∷ [];
  homes = 2 ∷ 0 ∷ [];
}

-- the segments of the loop are left out
nested-kept : kept_segments nested ≡ (1 ∷ 2 ∷ 3 ∷ 4 ∷ 5 ∷ 6 ∷ [])
nested-kept = refl
