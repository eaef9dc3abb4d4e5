-- One edge more stands in the row of its number.
use Rattle.cp_flip.proofs.NumberedRows.{AreRowsByNumber-more}
use Rattle.cp_flip.proofs.block_rows.edges_by_number.Goals as goal

pub loop-k-preserved : goal.loop-k-preserved
loop-k-preserved c =
    AreRowsByNumber-more c.args.edges.now c.args.numbers.now c.loop-k.rows.items c.loop-k.k c.index_mut.result.now
    c.push.new.self c.requires.rising c.requires.one_each c.requires.below c.loop-k-test.true c.loop-k.invariant
    c.index_mut.ensures.value c.in_ok-push.ensures.ok
