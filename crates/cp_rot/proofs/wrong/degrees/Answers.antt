use Rattle.std.proofs.Common.{arith, ◌≡◌, ◌<◌, length, slice_index, ◌∙◌}
use Rattle.std.proofs.lemmas.List.{get_or_default}
use Rattle.cp_lists.proofs.Counting.{count-le}
use Rattle.cp_rot.specs.Tables.{stands_at}
use Rattle.cp_rot.proofs.wrong.degrees.Goals as goal

pub overflow_add-index_mut : goal.overflow_add-index_mut
overflow_add-index_mut c =
    let v = slice_index c.args.at.now c.loop-v.v-index in
    let vertex = c.requires c.loop-v.v-index c.loop-v-test.true in
    let within : v < length c.loop-v.counts.items = omega arith in
    let read : c.index_mut.result.now ≡ slice_index c.loop-v.counts.items v = c.index_mut.ensures.value ∙ get_or_default c.loop-v.counts.items v c.index_mut.result.now 0 within in
    omega (arith, read, c.loop-v.invariant.counted v vertex, count-le c.loop-v.v-index (stands_at c.args.at.now v))
