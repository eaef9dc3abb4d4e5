-- The item stands somewhere.
use Rattle.std.proofs.Common.{arith}
use Rattle.cp_lists.proofs.DistinctLists.{Has-place}
use Rattle.cp_flip.proofs.directions.place_of.Goals as goal

pub unreachable-requires : goal.unreachable-requires
unreachable-requires c =
    let w = Has-place c.args.wanted c.args.list.now c.requires in
    c.loop-place.invariant w.0 (omega (arith, w.1, c.loop-place-test.false)) w.2
