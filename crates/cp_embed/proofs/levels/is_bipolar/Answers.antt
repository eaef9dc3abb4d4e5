-- The flags show that the order is bipolar.
use Rattle.std.proofs.Common.{sym, subst}
use Rattle.cp_embed.specs.Levels.{AreEarlier, AreLater}
use Rattle.cp_embed.specs.VertexOrders.{AreLaterEnds}
use Rattle.cp_embed.proofs.BipolarTests.{flags-IsBipolar, later-EndWithin}
use Rattle.cp_embed.proofs.levels.is_bipolar.Goals as goal

pub sides_of-requires-clause-within : goal.sides_of-requires-clause-within
sides_of-requires-clause-within c =
    later-EndWithin c.args.ends.now c.args.order.now c.as_slice.result.now c.requires.once
    (subst (AreLaterEnds c.args.ends.now c.args.order.now) (sym c.as_slice.ensures.value) c.in_ok-later.ensures)

pub returns : goal.returns
returns c = λ yes.
    flags-IsBipolar c.args.ends.now c.args.order.now c.as_slice.result.now c.requires.once
    (subst (AreLaterEnds c.args.ends.now c.args.order.now) (sym c.as_slice.ensures.value) c.in_ok-later.ensures)
    c.args.s c.args.t c.as_slice-2.result.now c.as_slice-3.result.now
    (c.leads.ensures c.if-not-leads.false)
    (subst (AreLater c.args.ends.now c.as_slice.result.now) (sym c.as_slice-2.ensures.value) c.in_ok-sides.ensures.later)
    (c.have_flags.ensures c.if-not-have_flags.false)
    (subst (AreEarlier c.args.ends.now c.as_slice.result.now) (sym c.as_slice-3.ensures.value)
    c.in_ok-sides.ensures.earlier)
    (c.have_flags-2.ensures yes)
