use Rattle.std.proofs.Common.{◌≡◌, length, arith, subst}
use Rattle.cp_ears.specs.Placing.{IsPlacing}
use Rattle.cp_ears.proofs.Places.{placing_start, placing_end}
use Rattle.cp_ears.proofs.placing.places_of.Goals as goal

pub loop-vertex-init : goal.loop-vertex-init
loop-vertex-init c = placing_start
    (length c.args.up.now) c.args.up.now c.args.low.now c.in_ok-places.places.items c.in_ok-room.room.items
    c.requires.some c.in_ok-room.ensures (c.in_ok-places.ensures.items_if_clones_equal (λ y e. e))

pub returns : goal.returns
returns c =
    let all : c.loop-vertex.vertex ≡ length c.args.up.now =
    omega (arith, c.loop-vertex-test.false, c.loop-vertex.auto.vertex-end, c.requires.some) in
    placing_end (length c.args.up.now) c.args.up.now c.args.low.now c.loop-vertex.places.items c.loop-vertex.room.items
    c.requires.some c.requires.tree
    (subst (IsPlacing (length c.args.up.now) c.args.up.now c.args.low.now c.loop-vertex.places.items
    c.loop-vertex.room.items) all c.loop-vertex.invariant)
