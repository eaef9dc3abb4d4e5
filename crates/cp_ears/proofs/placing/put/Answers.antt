use Rattle.std.proofs.Common.{length, arith}
use Rattle.cp_ears.proofs.Places.{read_enough, front_fits, back_fits, put_front, put_back}
use Rattle.cp_ears.proofs.placing.put.Goals as goal

pub overflow_sub-index_mut : goal.overflow_sub-index_mut
overflow_sub-index_mut c =
    read_enough (length c.args.up.now) c.args.vertex c.index_mut.result.now c.index-size.result.now c.args.up.now
    c.args.low.now c.args.places.now.items c.args.room.now.items c.requires.tree c.requires.placing c.requires.some
    c.requires.within c.index_mut.ensures.value c.index-size.ensures

pub overflow_add-index_mut : goal.overflow_add-index_mut
overflow_add-index_mut c =
    let h = front_fits (length c.args.up.now) c.args.vertex c.index-size.result.now c.index-then-index.result.now
    c.index_mut-then-index-2.result.now c.args.up.now c.args.low.now c.args.places.now.items c.args.room.now.items
    c.requires.tree c.requires.placing c.requires.some c.requires.within c.index-size.ensures
    c.index_mut-then-index-2.ensures.value in
    omega (arith, h, c.args.places.now.small, c.args.places.now.ok, c.requires.placing.size)

pub overflow_add-index : goal.overflow_add-index
overflow_add-index c =
    let h = back_fits (length c.args.up.now) c.args.vertex c.index_mut.result.now c.index-size.result.now
    c.index-else-index.result.now c.index-else-index-2.result.now c.args.up.now c.args.low.now
    c.args.places.now.items c.args.room.now.items
    c.requires.tree c.requires.placing c.requires.some c.requires.within c.index_mut.ensures.value
    c.index-else-index.ensures c.index-else-index-2.ensures in
    omega (arith, h, c.args.places.now.small, c.args.places.now.ok, c.requires.placing.size)

pub returns-then-index : goal.returns-then-index
returns-then-index c =
    put_front (length c.args.up.now) c.args.vertex c.index_mut.result.now c.index-size.result.now c.index.result.now
    c.index-2.result.now c.index-then-index.result.now c.index_mut-then-index-2.result.now c.args.up.now
    c.args.low.now c.args.places.now.items c.args.room.now.items
    c.requires.tree c.requires.placing c.requires.some c.requires.within c.index_mut.ensures.value c.index-size.ensures
    c.index.ensures c.index-2.ensures c.if-index.true c.index-then-index.ensures
    c.index_mut-then-index-2.ensures.value

pub returns-else-index : goal.returns-else-index
returns-else-index c =
    put_back (length c.args.up.now) c.args.vertex c.index_mut.result.now c.index-size.result.now c.index.result.now
    c.index-2.result.now c.index-else-index.result.now c.index-else-index-2.result.now c.args.up.now c.args.low.now
    c.args.places.now.items c.args.room.now.items
    c.requires.tree c.requires.placing c.requires.some c.requires.within c.index_mut.ensures.value c.index-size.ensures
    c.index.ensures c.index-2.ensures c.if-index.false c.index-else-index.ensures c.index-else-index-2.ensures
