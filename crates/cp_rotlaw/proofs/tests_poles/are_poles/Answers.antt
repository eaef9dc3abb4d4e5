use Rattle.cp_rotlaw.proofs.PoleParts.{straight-IsBond}
use Rattle.cp_rotlaw.proofs.tests_poles.are_poles.Goals as goal

pub returns-then-u-v : goal.returns-then-u-v
returns-then-u-v c = λ t.
    straight-IsBond c.args.a.now c.is_rotation.ensures.rotation c.args.u c.args.v c.if-u-v.true (c.lead_to.ensures t)
