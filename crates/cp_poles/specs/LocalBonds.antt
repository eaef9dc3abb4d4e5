-- What is known of two vertices in their components alone.
use Rattle.std.specs.Prelude.{ℕ}
use Rattle.cp_conn.specs.NamedGraphs.{NamedGraph}
use Rattle.cp_board.specs.Instances.{Synchronized, IsSynchronized}
use Rattle.cp_local.specs.LocalGraphs.{AreComponents, part}
use Rattle.cp_poles.specs.Between.{AreNumbersBetween}
use Rattle.cp_poles.specs.declared.bonds.Between.{Between}

-- the components as a graph
abbrev pub local_part : Synchronized → Between → NamedGraph
local_part i b = part i b.local.verts b.local.edges

-- these are the components of u and v, and the numbers tell which vertices there are connected without the two
pub record IsBetween (i : Synchronized) (u v : ℕ) (b : Between) : Type 0 where
  pub rules : IsSynchronized i
  pub components : AreComponents i u v b.local.verts b.local.edges
  pub numbers : AreNumbersBetween (local_part i b) u v b.numbers.items
