-- Links between edges of one block.
use Rattle.std.specs.Prelude.{ℕ, ◌<◌, List, length}
use Rattle.std.specs.List.{Contains}
use Rattle.cp_orbits.specs.Connected.{Connected}
use Rattle.cp_conn.specs.Blocks.{AreInOneBlock, Touches}

-- each link is between edges of one block, and the edges of one block at each vertex below bound are connected by links
pub record AreBlockLinks (es : List (ℕ × ℕ)) (bound : ℕ) (links : List (ℕ × ℕ)) : Type 0 where
  pub within : (p : ℕ × ℕ) → Contains links p → (p.0 < length es) × (p.1 < length es) × AreInOneBlock es p.0 p.1
  pub connects : (v e f : ℕ) → v < bound → e < length es → f < length es → Touches es v e → Touches es v f
      → AreInOneBlock es e f → Connected links e f
