-- Stores as contracts see them: the instances of a run so far, the present one first.
use Rattle.std.specs.Prelude.{List, [], ◌∷◌}
use Rattle.cp_board.specs.Instances.{Synchronized}

-- the present instance
abbrev pub present_of : List Synchronized → Synchronized
present_of [] = record { verts = []; edges = []; pipes = [] }
present_of (i ∷ is) = i
