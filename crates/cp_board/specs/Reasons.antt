-- Why an instance of synchronized planarity is not solvable.
use Rattle.std.specs.Prelude.{◌≡◌, ◌≢◌, ℕ, ◌<◌, [], length, slice_index}
use Rattle.cp_board.specs.declared.parts.Pipe.{Pipe}
use Rattle.cp_board.specs.declared.steps.Reason.{Reason}
use Rattle.cp_board.specs.declared.steps.Reason.TheVariants.{NotPlanar, CyclesDiffer, BlocksCross, Conflict}
use Rattle.cp_conn.specs.Bonds.{IsBond}
use Rattle.cp_board.specs.Instances.{Synchronized, edges_of, graph}
use Rattle.cp_board.specs.Solutions.{IsSolvable}
use Rattle.cp_board.specs.Blocks.{IsUnembeddable, HaveCrossing}
use Rattle.cp_board.specs.Steps.{IsTurning}
use Rattle.cp_orbits.specs.Orbits.{CycleLength}
use Rattle.cp_board.specs.Runs.{IsGreatest}

-- two cycles of the pipe's map differ: that of the least edge of its end a has length a, and that of the least
-- edge whose cycle has another length has length b
pub record HaveUnequalCycles (i : Synchronized) (p : Pipe) (a b : ℕ) : Type 0 where
  pub turning : ℕ → ℕ
  pub is_turning : IsTurning i p turning
  pub place : ℕ
  pub within : place < length (edges_of i p.a)
  pub first : CycleLength turning (slice_index (edges_of i p.a) 0) a
  pub before : (k : ℕ) → k < place → CycleLength turning (slice_index (edges_of i p.a) k) a
  pub other : CycleLength turning (slice_index (edges_of i p.a) place) b
  pub differ : a ≢ b

-- the pipe of greatest degree and least name joins the two vertices of a bond, and two cycles of its map differ
abbrev pub HasUnequalCycles : Synchronized → ℕ → ℕ → Type 0
HasUnequalCycles i a b = (p : Pipe) × IsGreatest i p × IsBond (graph i) p.a p.b × HaveUnequalCycles i p a b

-- no block is to blame: each has a rotation
abbrev pub IsEmbeddable : Synchronized → Type 0
IsEmbeddable i = (e : ℕ) → ¬ IsUnembeddable i e

-- at no Q-vertex two blocks cross
abbrev pub HasNoCrossing : Synchronized → Type 0
HasNoCrossing i = (q : ℕ) → ¬ HaveCrossing i q

-- no pipe is left, no reason but this one holds, and there is no solution: the directions of cells conflict
pub record HasConflict (i : Synchronized) : Type 0 where
  pub no_pipe : i.pipes ≡ []
  pub embeddable : IsEmbeddable i
  pub no_crossing : HasNoCrossing i
  pub unsolvable : ¬ IsSolvable i

-- the reason is to blame that the instance has no solution
abbrev pub IsBlamed : Synchronized → Reason → Type 0
IsBlamed i (NotPlanar e) = IsUnembeddable i e
IsBlamed i (CyclesDiffer a b) = HasUnequalCycles i a b
IsBlamed i (BlocksCross q) = (i.pipes ≡ []) × IsEmbeddable i × HaveCrossing i q
IsBlamed i Conflict = HasConflict i

-- the first reason, of those that an instance without pipes can have: the least edge of the first block without a
-- rotation, else the least vertex at which blocks cross, else the conflict
abbrev pub IsFirstReason : Synchronized → Reason → Type 0
IsFirstReason i (NotPlanar e) = IsUnembeddable i e × ((f : ℕ) → f < e → ¬ IsUnembeddable i f)
IsFirstReason i (CyclesDiffer a b) = ⊥
IsFirstReason i (BlocksCross q) = IsEmbeddable i × HaveCrossing i q × ((r : ℕ) → r < q → ¬ HaveCrossing i r)
IsFirstReason i Conflict = HasConflict i
