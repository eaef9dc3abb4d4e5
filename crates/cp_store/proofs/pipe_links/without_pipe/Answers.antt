use Rattle.cp_store.proofs.PipeTests.{HasPipeLinks-less}
use Rattle.cp_store.proofs.pipe_links.without_pipe.Goals as goal

pub returns-clause-links : goal.returns-clause-links
returns-clause-links c kept ps up found has =
    HasPipeLinks-less c.args.forest.now c.unlinked_down.new.forest c.unlinked.new.forest c.unlinked-2.new.forest
    c.args.roots c.in_ok-ranks.ranks c.in_ok-first.first c.in_ok-poles.poles kept ps c.args.p.now c.len.result
    c.len.ensures c.in_ok-ranks.ensures.keeps c.in_ok-first.ensures.keeps c.in_ok-poles.ensures.keeps
    c.in_ok-ranks.ensures.links c.in_ok-first.ensures.links c.in_ok-poles.ensures.links up found has
