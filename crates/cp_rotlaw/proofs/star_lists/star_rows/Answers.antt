use Rattle.std.proofs.Common.{refl}
use Rattle.cp_rotlaw.proofs.StarCode.{rows_more}
use Rattle.cp_rotlaw.proofs.star_lists.star_rows.Goals as goal

pub loop-d-preserved : goal.loop-d-preserved
loop-d-preserved c =
    rows_more c.args.a.now c.args.u c.args.parts c.loop-d.d-index _ c.part-i.result c.args.entered.now c.darts.ensures.rotation c.requires.vertex c.requires.entered c.loop-d.invariant
    c.items-d-items.ensures c.list.ensures c.loop-d-test.true refl c.part-i.ensures c.index_mut.ensures.value c.in_ok-push.ensures.ok
