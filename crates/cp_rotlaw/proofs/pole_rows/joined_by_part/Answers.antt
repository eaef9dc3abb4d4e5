use Rattle.std.proofs.Common.{◌-◌, ◌++◌, ◌∙◌, ap, arith, length, slice_index}
use Rattle.cp_rotlaw.proofs.PoleLists.{joined_more}
use Rattle.cp_rotlaw.proofs.pole_rows.joined_by_part.Goals as goal

pub loop-i-preserved : goal.loop-i-preserved
loop-i-preserved c =
    let order = c.args.order.now in
    let k = length order - 1 - c.loop-i.i in
    let low = c.requires.order_parts k 0 (omega (arith, c.loop-i-test.true)) in
    joined_more (slice_index c.args.parts.now) c.args.free.now c.args.items.now order c.args.count c.loop-i.i
    c.in_ok-rows.rows.items c.in_ok-rows.ensures (omega (arith, c.loop-i-test.true)) low c.index.ensures
    c.loop-i.invariant
    (c.in_ok-extend_from_slice.ensures.items ∙ ap (λ ys. c.loop-i.row.items ++ ys) c.items.ensures)
