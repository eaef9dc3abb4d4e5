-- The other ends of darts in the reverse order.
use Rattle.std.proofs.Common.{reverse}
use Rattle.std.specs.Prelude.{ℕ, List, map}
use Rattle.cp_faces.specs.Twins.{twin}

-- the twins of the items, the last first
abbrev pub mirror : List ℕ → List ℕ
mirror xs = reverse (map twin xs)
