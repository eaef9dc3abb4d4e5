-- Orders that a map takes to a turn of themselves, and the marks of cycles by which they are found.
use Rattle.std.specs.Prelude.{◌≡◌, ◌⊎◌, ◌↔◌, ℕ, ◌<◌, Bool, true, false, List, get_or, length, map, slice_index}
use Rattle.std.specs.List.{range_with_len}
use Rattle.std.specs.List.Sorted.{IsPermutation}
use Rattle.cp_lists.specs.Turns.{IsTurn}
use Rattle.cp_orbits.specs.Orbits.{Reaches}
use Rattle.cp_board.specs.declared.parts.Pipe.{Pipe}
use Rattle.cp_board.specs.Instances.{Synchronized, graph}
use Rattle.cp_board.specs.Rotations.{ArrangesEdges}
use Rattle.cp_board.specs.Steps.{IsTurning}

-- the list has each place once, and the permutation takes it to a turn of itself
pub record IsKeptBy (to rows : List ℕ) : Type 0 where
  pub all : IsPermutation (range_with_len 0 (length to)) rows
  pub kept : IsTurn rows (map (slice_index to) rows)

-- the order arranges the edges of the first end of the pipe, and the map of the pipe takes it to a turn of itself
pub record IsKeptOrder (i : Synchronized) (p : Pipe) (order : List ℕ) : Type 0 where
  pub turning : ℕ → ℕ
  pub is_turning : IsTurning i p turning
  pub arranged : ArrangesEdges (graph i) p.a order
  pub kept : IsTurn order (map turning order)

-- marked are the places on the cycles of the places before `at`
pub record AreMet (to : List ℕ) (at : ℕ) (seen : List Bool) : Type 0 where
  pub one_each : length seen ≡ length to
  pub met : (k : ℕ) → (get_or seen k false ≡ true) ↔ ((x : ℕ) × (x < at) × Reaches (slice_index to) x k)

-- marked are the places that were, and those on the cycle of `start`
pub record AddsCycle (to : List ℕ) (start : ℕ) (old new : List Bool) : Type 0 where
  pub one_each : length new ≡ length old
  pub added : (k : ℕ)
      → (get_or new k false ≡ true) ↔ ((get_or old k false ≡ true) ⊎ Reaches (slice_index to) start k)
