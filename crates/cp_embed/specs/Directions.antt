-- Lists of edges that are kept in either direction.
use Rattle.std.specs.Prelude.{ℕ, ◌/◌, Bool, true, false, Option, Some, None, List}
use Rattle.std.proofs.Common.{reverse}
use Rattle.cp_lists.specs.Turns.{IsTurn}

-- the edge of a dart: edge k has the darts 2 k and 2 k + 1
abbrev pub edge_of : ℕ → ℕ
edge_of d = d / 2

-- the list in the direction of a bit
abbrev pub directed : Bool → List ℕ → List ℕ
directed false xs = xs
directed true xs = reverse xs

-- the cyclic list row is the given list in the direction of the bit, up to a turn; where none is given, each list is
-- right
abbrev pub KeepsDirection : Option (List ℕ) → Bool → List ℕ → Type 0
KeepsDirection None bit row = Unit {0}
KeepsDirection (Some list) bit row = IsTurn (directed bit list) row
