use Rattle.std.specs.Prelude.{reverse}
use Rattle.cp_board.specs.Runs.{potential}
use Rattle.cp_store.specs.Histories.{present_of}
use Rattle.cp_drive.specs.Pasts.{IsPast}
use Rattle.cp_drive.proofs.advancing.advance_to_end.Given as goal

abbrev pub invariant-steps : goal.invariant-steps
invariant-steps g l = IsPast g.first (reverse l.steps) l.store

abbrev pub decreases-steps : goal.decreases-steps
decreases-steps g l = potential (present_of l.store)
