use Rattle.cp_cgraph.proofs.Firsts.{first_none, first_some}
use Rattle.cp_cgraph.proofs.fault.first_fault.Goals as goal
use Rattle.cp_cgraph.proofs.fault.first_fault.Goals.{in-None, in-Some}

pub seeking-preserved : goal.seeking-preserved
seeking-preserved c =
    let fs = c.args.faults.now in
    let i = c.seeking.fault-index in
    elim c.match-first.branch [
      | in-None w ↦ rw w.first-is (first_none fs i c.seeking.first c.seeking-test.true w.in-None.is c.seeking.invariant)
      | in-Some w ↦ rw w.first-is (first_some fs i c.seeking.first w.in-Some.found w.sooner.result c.seeking-test.true
          w.in-Some.is c.seeking.invariant w.sooner.ensures)
    ]
