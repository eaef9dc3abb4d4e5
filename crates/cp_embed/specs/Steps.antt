-- A vertex between a connected part of a map and one other vertex.
use Rattle.std.specs.Prelude.{◌≡◌, ℕ, List, ◌++◌}
use Rattle.cp_lists.specs.CyclicLists.{Has}
use Rattle.cp_lists.specs.Turns.{IsTurn}
use Rattle.cp_faces.specs.Twins.{twin}
use Rattle.cp_maps.specs.Mirrors.{mirror}

-- the list row of a vertex is, up to a turn, its edges to the part with the darts all and then the others, and the
-- others are a run of w, in reverse
pub record StandsBetween (all row w : List ℕ) : Type 0 where
  pub ins : List ℕ
  pub outs : List ℕ
  pub front : List ℕ
  pub behind : List ℕ
  pub turn : IsTurn row (ins ++ outs)
  pub whole : w ≡ front ++ (mirror outs ++ behind)
  pub into : (d : ℕ) → Has d ins → Has (twin d) all
