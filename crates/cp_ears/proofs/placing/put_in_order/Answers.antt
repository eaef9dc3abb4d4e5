use Rattle.std.proofs.Common.{arith}
use Rattle.cp_ears.proofs.Places.{stand_step}
use Rattle.cp_ears.proofs.placing.put_in_order.Goals as goal

pub loop-i-preserved : goal.loop-i-preserved
loop-i-preserved c =
    stand_step c.args.items.now c.args.places.now c.loop-i.order.items c.loop-i.i c.loop-i.invariant
    (omega arith) c.requires.within c.requires.apart
