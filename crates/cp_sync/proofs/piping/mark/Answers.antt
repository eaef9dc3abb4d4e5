use Rattle.std.proofs.Common.{refl, slice_set}
use Rattle.std.specs.Prelude.{Some}
use Rattle.cp_sync.proofs.PipeTables.{IsMarked-from}
use Rattle.cp_sync.proofs.piping.mark.Goals as goal

pub returns : goal.returns
returns c =
    IsMarked-from c.args.verts.now c.args.p.now c.args.piped.now.items
    (slice_set c.args.piped.now.items c.lower_place-a.result (Some c.args.p.now.name))
    (slice_set (slice_set c.args.piped.now.items c.lower_place-a.result (Some c.args.p.now.name)) c.lower_place-b.result (Some c.args.p.now.name))
    c.lower_place-a.result c.lower_place-b.result
    c.requires.rising c.requires.live c.requires.one_each
    c.lower_place-a.ensures c.lower_place-b.ensures refl refl
