use Rattle.std.proofs.Common.{ap, sym, ◌∙◌, arith}
use Rattle.cp_skel.proofs.SegmentRows.{owners-more}
use Rattle.cp_skel.proofs.border_pairs.push_segments.Goals as goal

pub loop-k-preserved : goal.loop-k-preserved
loop-k-preserved c =
    c.in_ok-push.ensures.items
    ∙ owners-more c.args.g.now c.args.e c.requires.edge
    (λ same. c.if-source-target.false
    (ap (λ p. p.0) c.ends-source.ensures.ends ∙ same ∙ sym (ap (λ p. p.1) c.ends-source.ensures.ends)))
    c.loop-k._k c.loop-k.owners.items (omega (arith, c.crossed-k-end.ensures.value)) c.loop-k.invariant
