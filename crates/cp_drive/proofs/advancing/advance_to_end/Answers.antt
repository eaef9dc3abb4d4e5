-- Each step lowers the potential.
use Rattle.cp_runlaw.proofs.Potentials.{lowers}
use Rattle.cp_store.specs.Histories.{present_of}
use Rattle.cp_drive.proofs.advancing.advance_to_end.Goals as goal

pub steps-smaller : goal.steps-smaller
steps-smaller g c =
    let advanced = rw c.in_default.is at c.in_ok-reason.ensures in
    lowers advanced.step (present_of c.steps.store) (present_of c.advance.new.store) advanced.taken.rules_before
    advanced.taken.allowed advanced.taken.after
