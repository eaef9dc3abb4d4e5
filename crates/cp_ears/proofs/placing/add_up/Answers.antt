use Rattle.std.proofs.Common.{length, arith}
use Rattle.cp_ears.proofs.Places.{share_read}
use Rattle.cp_ears.proofs.placing.add_up.Goals as goal

pub overflow_add-index_mut : goal.overflow_add-index_mut
overflow_add-index_mut c =
    let h = share_read (length c.args.up.now) c.args.vertex c.index_mut.result.now c.index.result.now c.args.up.now
    c.args.room.now.items c.requires.shared c.requires.within c.requires.lower c.index_mut.ensures.value
    c.index.ensures in
    omega (arith, h.1, c.args.room.now.small, c.args.room.now.ok, c.requires.shared.have.size)

pub returns : goal.returns
returns c =
    (share_read (length c.args.up.now) c.args.vertex c.index_mut.result.now c.index.result.now c.args.up.now
    c.args.room.now.items c.requires.shared c.requires.within c.requires.lower c.index_mut.ensures.value
    c.index.ensures).0
