use Rattle.std.proofs.Common.{◌+◌, ◌-◌, ◌/◌, map, length, ◌<◌, arith}
use Rattle.std.proofs.lemmas.List.{length-map}
use Rattle.cp_sync.proofs.Places.{lower_half, upper_half, name_at}
use Rattle.cp_store.proofs.named.lower_place.Goals as goal

pub loop-low-preserved-then-name : goal.loop-low-preserved-then-name
loop-low-preserved-then-name g c =
    let name = g.T.Named.name in
    let items = c.args.items.now in
    let middle = c.loop-low.low + (c.loop-low.high - c.loop-low.low) / 2 in
    let below : middle < c.loop-low.high = omega (arith, c.loop-low-test.true) in
    let in_items : middle < length items = omega (arith, below, c.loop-low.invariant.1) in
    let at = name_at name items middle c.index-items-middle.result in_items c.index-items-middle.is in (
      omega (arith, below),
      c.loop-low.invariant.1,
      lower_half (map name items) c.args.name middle c.requires (omega (arith, in_items, length-map items name)) (omega (arith, at, c.name.ensures, c.if-name.true)),
      c.loop-low.invariant.3,
    )

pub loop-low-preserved : goal.loop-low-preserved
loop-low-preserved g c =
    let name = g.T.Named.name in
    let items = c.args.items.now in
    let middle = c.loop-low.low + (c.loop-low.high - c.loop-low.low) / 2 in
    let below : middle < c.loop-low.high = omega (arith, c.loop-low-test.true) in
    let in_items : middle < length items = omega (arith, below, c.loop-low.invariant.1) in
    let at = name_at name items middle c.index-items-middle.result in_items c.index-items-middle.is in (
      omega (arith, below),
      omega (arith, in_items),
      c.loop-low.invariant.2,
      λ j le lt. upper_half (map name items) c.args.name middle c.requires (omega (arith, at, c.name.ensures, c.if-name.false)) j le (omega (arith, lt, length-map items name)),
    )
