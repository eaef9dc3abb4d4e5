-- One step is undone, and the solution turned back over it.
use Rattle.std.proofs.Common.{◌≡◌, ℕ, ◌-◌, ◌≤◌, reverse, take, length, subst, arith}
use Rattle.cp_board.specs.Solutions.{IsSolution}
use Rattle.cp_store.specs.Histories.{present_of}
use Rattle.cp_drive.specs.Pasts.{IsPast}
use Rattle.cp_drive.proofs.Pasts.{back-one, past-first}
use Rattle.cp_drive.proofs.turning_back.turned_back.Goals as goal

pub loop-left-preserved : goal.loop-left-preserved
loop-left-preserved g c =
    let one = back-one g.first c.args.steps.now c.loop-left.left c.index-steps-left.result c.loop-left.store
    c.undo.new.self c.undo.result (omega (arith, c.loop-left-test.true)) c.loop-left.invariant.within
    c.loop-left.invariant.past c.index-steps-left.is c.undo.ensures.some c.undo.ensures.answer in
    record {
      within = omega (arith, c.loop-left.invariant.within);
      past = one.1;
      solved = c.in_ok-solution.ensures;
    }

pub returns : goal.returns
returns g c =
    let none : c.loop-left.left ≡ 0 = omega (arith, c.loop-left-test.false) in
    let past = subst (λ n. IsPast g.first (reverse (take n c.args.steps.now)) c.loop-left.store) none
    c.loop-left.invariant.past in
    subst (λ i. IsSolution i c.loop-left.solution) (past-first g.first c.loop-left.store past) c.loop-left.invariant.solved
