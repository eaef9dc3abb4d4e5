use Rattle.std.proofs.Common.{length, arith}
use Rattle.cp_ears.proofs.Rooms.{share_start}
use Rattle.cp_ears.proofs.placing.sizes.Goals as goal

pub loop-left-init : goal.loop-left-init
loop-left-init c = record {
  shared = share_start (length c.args.up.now) c.args.up.now c.in_ok-room.room.items
      (c.in_ok-room.ensures.items_if_clones_equal (λ y e. e));
  some = c.requires.some;
  within = omega arith;
}
