-- A given cyclic list as the edges to what is taken and then the others.
use Rattle.std.specs.Prelude.{ℕ, List, ◌++◌}
use Rattle.cp_lists.specs.Turns.{IsTurn}
use Rattle.cp_embed.specs.Arrangements.{IsArrangementOf}

-- the cyclic list is first, which arranges ins, and then second, which arranges outs
pub record IsSplit (list ins outs first second : List ℕ) : Type 0 where
  pub turn : IsTurn list (first ++ second)
  pub first_is : IsArrangementOf first ins
  pub second_is : IsArrangementOf second outs
