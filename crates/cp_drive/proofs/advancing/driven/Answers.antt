-- The run so far is the run, and the reason for which it stops is its outcome.
use Rattle.std.proofs.Common.{reverse, subst, sym}
use Rattle.cp_store.specs.Histories.{present_of}
use Rattle.cp_drive.specs.Driving.{IsOutcome}
use Rattle.cp_drive.proofs.Pasts.{past-IsRunFrom, stop-IsOutcome}
use Rattle.cp_drive.proofs.advancing.driven.Goals.{in-Some, in-None+in_ok-outcome-in-None}
use Rattle.cp_drive.proofs.advancing.driven.Goals as goal

pub returns : goal.returns
returns g c =
    past-IsRunFrom g.first _ c.advance_to_end.new.store c.in_ok-stop.ensures.past c.in_ok-last.ensures
    (elim c.match-stop.branch [
      | in-Some w ↦ subst (IsOutcome g.first (present_of c.advance_to_end.new.store)) (sym w.outcome-is)
          (stop-IsOutcome c.steps_keep_solvable.ensures g.first _ c.advance_to_end.new.store c.in_ok-stop.ensures.past
          w.in-Some.reason (rw w.in-Some.is at c.in_ok-stop.ensures.stop))
      | in-None+in_ok-outcome-in-None w ↦ subst (IsOutcome g.first (present_of c.advance_to_end.new.store)) (sym w.outcome-is)
          w.in_ok-outcome-in-None.ensures
    ])
