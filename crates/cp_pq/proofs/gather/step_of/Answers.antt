use Rattle.std.proofs.Common.{[]}
use Rattle.cp_pq.proofs.GatheredRows.{marks_all, low_one}
use Rattle.cp_pq.proofs.gather.step_of.Goals as goal

pub returns : goal.returns
returns c = λ rising branching pos le.
    let low = low_one c.args.set.now c.args.total c.args.node rising branching pos le in
    (c.in_ok-step.ensures [] low
    (marks_all c.args.set.now c.args.total c.args.node c.new.result c.in_ok-marks.marks c.in_ok-marks.field-0-0 c.new.ensures
    c.in_ok-marks.ensures c.ranges.total.fits low)).0
