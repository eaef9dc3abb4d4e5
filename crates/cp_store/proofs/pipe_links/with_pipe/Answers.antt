use Rattle.cp_store.proofs.PipeTests.{HasPipeLinks-more}
use Rattle.cp_store.proofs.pipe_links.with_pipe.Goals as goal

pub returns-clause-links : goal.returns-clause-links
returns-clause-links c ps has =
    HasPipeLinks-more c.args.forest.now c.linked_down.new.forest c.linked.new.forest c.linked-2.new.forest
    c.args.roots c.in_ok-ranks.ranks c.in_ok-first.first c.in_ok-poles.poles ps c.args.p.now c.len.result c.len.ensures
    c.in_ok-ranks.ensures.keeps c.in_ok-first.ensures.keeps c.in_ok-poles.ensures.keeps c.in_ok-ranks.ensures.links
    c.in_ok-first.ensures.links c.in_ok-poles.ensures.links has
