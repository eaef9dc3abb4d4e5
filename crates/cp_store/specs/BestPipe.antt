-- The pipe of greatest degree and least name, by its degree and its name.
use Rattle.std.specs.Prelude.{◌≡◌, ◌⊎◌, ℕ, ◌<◌, ◌≤◌, List, [], length, Option, Some, None}
use Rattle.std.specs.List.{All, Contains}
use Rattle.cp_board.specs.declared.parts.Pipe.{Pipe}

-- one of the pipes has this degree and name, and the others less degree, or the same and no lesser name
pub record IsBestOf (ps : List Pipe) (degree name : ℕ) : Type 0 where
  pub pipe : Pipe
  pub live : Contains ps pipe
  pub has_degree : length pipe.pairs ≡ degree
  pub has_name : pipe.name ≡ name
  pub others : All (λ q. (length q.pairs < degree) ⊎ ((length q.pairs ≡ degree) × (name ≤ q.name))) ps

-- the best of the pipes has this degree and name; where none is told there are no pipes
abbrev pub IsBest : List Pipe → Option (ℕ × ℕ) → Type 0
IsBest ps None = ps ≡ []
IsBest ps (Some x) = IsBestOf ps x.0 x.1
