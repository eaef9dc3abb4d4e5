-- The walk marks one place more, and goes on along the cycle.
use Rattle.std.proofs.Common.{◌≡◌, ◌+◌, length, slice_index, sym, subst, arith}
use Rattle.cp_poles.specs.Cycles.{AreMarked}
use Rattle.cp_poles.proofs.CycleOrders.{AddsCycle-walked, IsWalked, IsWalked-more, IsWalked-start}
use Rattle.cp_poles.proofs.CycleWalks.{AreMarked-more, CycleLength-next}
use Rattle.cp_poles.proofs.cycles.mark_cycle.Goals as goal

pub loop-step-init : goal.loop-step-init
loop-step-init c = record {
  marks = c.requires.marks;
  within = c.requires.within;
  cycle = c.requires.cycle;
  walked = IsWalked-start c.args.to.now c.args.start c.args.seen.now.items;
}

pub mark-requires : goal.mark-requires
mark-requires c = omega (arith, c.loop-step.invariant.within, c.loop-step.invariant.marks.one_each)

pub loop-step-preserved : goal.loop-step-preserved
loop-step-preserved c =
    let to = c.args.to.now in
    let at = c.loop-step.at in
    let inv = c.loop-step.invariant in
    record {
      marks = subst (AreMarked to c.args.size) (sym c.mark.ensures)
          (AreMarked-more to c.args.size c.loop-step.seen.items at inv.marks inv.cycle);
      within = c.requires.permutes.below at inv.within;
      cycle = CycleLength-next (length to) (slice_index to) c.requires.permutes at c.args.size inv.within inv.cycle;
      walked = subst (IsWalked to c.args.start (c.loop-step.step + 1) (slice_index to at) c.args.seen.now.items)
          (sym c.mark.ensures)
          (IsWalked-more to c.args.start c.loop-step.step at c.args.seen.now.items c.loop-step.seen.items
          (omega (arith, inv.within, inv.marks.one_each)) inv.walked);
    }

pub returns-clause-added : goal.returns-clause-added
returns-clause-added c =
    let to = c.args.to.now in
    let whole : c.loop-step.step ≡ c.args.size = omega (arith, c.loop-step-test.false, c.loop-step.auto.step-end) in
    AddsCycle-walked to c.args.start c.args.size c.loop-step.at c.args.seen.now.items c.loop-step.seen.items
    c.requires.cycle
    (subst (λ n. IsWalked to c.args.start n c.loop-step.at c.args.seen.now.items c.loop-step.seen.items) whole
    c.loop-step.invariant.walked)
