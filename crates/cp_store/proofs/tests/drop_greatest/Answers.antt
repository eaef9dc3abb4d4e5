use Rattle.cp_store.specs.Histories.{present_of}
use Rattle.cp_store.proofs.DroppedPipes.{IsRewriteOf-greatest}
use Rattle.cp_store.proofs.tests.drop_greatest.Goals as goal

pub rewrite-requires : goal.rewrite-requires
rewrite-requires c =
    IsRewriteOf-greatest (present_of c.args.store.now) c.in-Some.pipe c.in_ok-w.w c.max_pipe.ensures.rules c.in-Some.ensures.some c.in_ok-w.ensures
