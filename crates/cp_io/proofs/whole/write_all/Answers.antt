use Rattle.std.proofs.Common.{◌∙◌}
use Rattle.cp_io.proofs.StreamLemmas.{front_more}
use Rattle.cp_io.proofs.whole.write_all.Goals as goal

pub loop-rest-preserved : goal.loop-rest-preserved
loop-rest-preserved g c = record {
  front = let before = c.loop-rest.invariant.front in
      front_more _ _ _ _ _ _ _ _ before.1 before.2 c.split_at.ensures.back c.in_ok-count.ensures.bytes;
  kept = c.in_ok-count.ensures.cause.kept ∙ c.loop-rest.invariant.kept;
}
