-- Each reason of an instance without pipes is one of a run.
use Rattle.std.proofs.Common.{reverse, subst, sym}
use Rattle.cp_board.specs.Blocks.{HaveCrossing, IsUnembeddable}
use Rattle.cp_store.specs.Histories.{present_of}
use Rattle.cp_drive.proofs.Pasts.{past-IsSolvable}
use Rattle.cp_drive.proofs.advancing.free_outcome.Goals as goal

pub returns-in-Err-NotPlanar : goal.returns-in-Err-NotPlanar
returns-in-Err-NotPlanar g c =
    let reason = rw c.in-Err-NotPlanar.field-0-is at c.in-Err-NotPlanar.ensures.reason in
    let none = rw c.in-Err-NotPlanar.field-0-is at c.in-Err-NotPlanar.ensures.unsolvable in (
      subst (IsUnembeddable (present_of c.args.store)) (sym c.in-Err-NotPlanar.edge-is) reason.0,
      (λ s. none (past-IsSolvable c.steps_keep_solvable.ensures g.first (reverse c.args.steps.now) c.args.store
          c.requires.0 s)),
      none,
    )

pub returns-in-Err-BlocksCross : goal.returns-in-Err-BlocksCross
returns-in-Err-BlocksCross g c =
    let reason = rw c.in-Err-BlocksCross.field-0-is at c.in-Err-BlocksCross.ensures.reason in
    let none = rw c.in-Err-BlocksCross.field-0-is at c.in-Err-BlocksCross.ensures.unsolvable in (
      (
        c.requires.1,
        reason.0,
        subst (HaveCrossing (present_of c.args.store)) (sym c.in-Err-BlocksCross.vertex-is) reason.1,
      ),
      (λ s. none (past-IsSolvable c.steps_keep_solvable.ensures g.first (reverse c.args.steps.now) c.args.store
          c.requires.0 s)),
      none,
    )

pub returns-in-Err-Conflict : goal.returns-in-Err-Conflict
returns-in-Err-Conflict g c =
    let reason = rw c.in-Err-Conflict.field-0-is at c.in-Err-Conflict.ensures.reason in
    let none = rw c.in-Err-Conflict.field-0-is at c.in-Err-Conflict.ensures.unsolvable in (
      reason,
      (λ s. none (past-IsSolvable c.steps_keep_solvable.ensures g.first (reverse c.args.steps.now) c.args.store
          c.requires.0 s)),
      none,
    )
