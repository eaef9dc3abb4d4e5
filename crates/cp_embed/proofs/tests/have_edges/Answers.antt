use Rattle.cp_ears.proofs.Samples.{touch_start, touch_step, touched_all}
use Rattle.cp_embed.proofs.tests.have_edges.Goals as goal

pub loop-first-init : goal.loop-first-init
loop-first-init c = touch_start c.args.vertices c.args.ends.now c.in_ok-touched.touched.items
    (c.in_ok-touched.ensures.items_if_clones_equal (λ y e. e))

pub loop-first-preserved : goal.loop-first-preserved
loop-first-preserved c = touch_step c.args.vertices c.args.ends.now c.loop-first.touched.items c.loop-first.first-index
    c.loop-first.invariant c.loop-first-test.true

pub returns : goal.returns
returns c all = touched_all c.args.vertices c.args.ends.now c.loop-first.touched.items c.as_slice.result.now
    c.loop-first.invariant c.as_slice.ensures.value (c.are_true.ensures all)
