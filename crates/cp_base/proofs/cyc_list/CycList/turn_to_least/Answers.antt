use Rattle.std.proofs.Common.{arith}
use Rattle.cp_lists.proofs.LeastItems.{least_place-LeastSoFar}
use Rattle.cp_base.proofs.cyc_list.CycList.turn_to_least.Goals as goal

pub rotate_left-requires : goal.rotate_left-requires
rotate_left-requires c =
    let within = (least_place-LeastSoFar c.as_slice.result.now).within in
    let len = c.as_slice.ensures.len in
    omega (arith, c.least_place-place.ensures)
