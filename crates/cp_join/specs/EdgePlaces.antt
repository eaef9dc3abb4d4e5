-- Tables that tell the places of edges.
use Rattle.std.specs.Prelude.{◌≡◌, ℕ, List, length, unwrap_or}
use Rattle.std.specs.BTreeMap.{BTreeMap, get}
use Rattle.std.specs.Ordering.{nat_cmp}
use Rattle.cp_conn.specs.NamedGraphs.{rank}
use Rattle.cp_board.specs.Joins.{part_of}

-- the place that the table has for an edge, or none
abbrev pub place_in : BTreeMap ℕ ℕ → ℕ → ℕ → ℕ
place_in places none e = unwrap_or (get nat_cmp places e) none

-- the table has for each edge the place of its part, and none for an edge of no part
abbrev pub TellsParts : List (List ℕ) → BTreeMap ℕ ℕ → Type 0
TellsParts parts places = (e : ℕ) → place_in places (length parts) e ≡ part_of parts e

-- the table has for each edge its place among some, and none for any other one
abbrev pub TellsPlaces : List ℕ → BTreeMap ℕ ℕ → Type 0
TellsPlaces edges places = (e : ℕ) → place_in places (length edges) e ≡ rank edges e
