-- The steps that are left lead to the instance of which there is a solution.
use Rattle.std.specs.Prelude.{ℕ, length, reverse, take, ◌≤◌}
use Rattle.cp_board.specs.Solutions.{IsSolution}
use Rattle.cp_store.specs.Histories.{present_of}
use Rattle.cp_drive.specs.Pasts.{IsPast}
use Rattle.cp_drive.proofs.turning_back.turned_back.Given as goal

abbrev pub invariant-loop-left : goal.invariant-loop-left
invariant-loop-left g l = record {
  within : l.left ≤ length l.steps;
  past : IsPast g.first (reverse (take l.left l.steps)) l.store;
  solved : IsSolution (present_of l.store) l.solution;
}

abbrev pub decreases-loop-left : goal.decreases-loop-left
decreases-loop-left g l = l.left
