use Rattle.std.proofs.Common.{arith, ◌∙◌, take_all}
use Rattle.cp_rot.specs.Genus.{end_pairs}
use Rattle.cp_rotlaw.proofs.StarCode.{length-end_pairs, pairs_more}
use Rattle.cp_rotlaw.proofs.star_parts.ends_of.Goals as goal

pub loop-e-preserved : goal.loop-e-preserved
loop-e-preserved c =
    pairs_more c.args.a.now.at c.loop-e.e c.at.result c.at-in-loop-e.result (omega (arith, c.loop-e-test.true, c.darts-e-end.ensures.value)) c.loop-e.invariant c.at.ensures c.at-in-loop-e.ensures c.in_ok-push.ensures.items

pub returns : goal.returns
returns c = c.loop-e.invariant ∙ take_all c.loop-e.e (end_pairs c.args.a.now.at) (omega (arith, c.loop-e-test.false, c.darts-e-end.ensures.value, length-end_pairs c.args.a.now.at))
