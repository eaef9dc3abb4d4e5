use Rattle.std.proofs.Common.{◌++◌, not, subst}
use Rattle.std.specs.Prelude.{filter}
use Rattle.cp_board.specs.declared.parts.Pipe.{Pipe}
use Rattle.cp_board.specs.Names.{has}
use Rattle.cp_store.specs.Exchanges.{items_of}
use Rattle.cp_store.specs.PipeLinks.{HasPipeLinks}
use Rattle.cp_store.proofs.Grown.{Keeps-next}
use Rattle.cp_store.proofs.Indexes.{HasLinks-keeps}
use Rattle.cp_store.proofs.PipeTests.{HasPipeLinks-keeps, ArePipeTrees-links}
use Rattle.cp_store.proofs.indexing.rewritten_roots.Goals as goal

pub without_names-requires-clause-trees : goal.without_names-requires-clause-trees
without_names-requires-clause-trees c =
    let items = items_of c.args.pipes.now.entries.items in
    ArePipeTrees-links c.rewritten_links.new.forest c.args.roots.pipes items
    (HasPipeLinks-keeps c.args.forest.now c.rewritten_links.new.forest c.args.roots.pipes items
    c.in_ok-ends.ensures.keeps c.requires.pipes)

pub returns-clause-ends : goal.returns-clause-ends
returns-clause-ends c test has_links =
    HasLinks-keeps c.rewritten_links.new.forest c.with_pipes.new.forest c.in_ok-ends.ends _
    (Keeps-next c.rewritten_links.new.forest c.without_names.new.forest c.with_pipes.new.forest
    c.in_ok-kept.ensures.keeps c.in_ok-pipes.ensures.keeps)
    (c.in_ok-ends.ensures.links test has_links)

pub returns-clause-pipes : goal.returns-clause-pipes
returns-clause-pipes c =
    let items = items_of c.args.pipes.now.entries.items in
    let w = c.args.w.now in
    let kept = c.in_ok-kept.ensures.links
    (HasPipeLinks-keeps c.args.forest.now c.rewritten_links.new.forest c.args.roots.pipes items
    c.in_ok-ends.ensures.keeps c.requires.pipes) in
    subst (λ ps. HasPipeLinks c.with_pipes.new.forest c.in_ok-pipes.pipes
    (filter (λ (q : Pipe). not (has w.drop_pipes q.name)) items ++ ps)) c.items-2.ensures
    (c.in_ok-pipes.ensures.links (filter (λ (q : Pipe). not (has w.drop_pipes q.name)) items)
    (subst (λ ns. HasPipeLinks c.without_names.new.forest c.in_ok-kept.kept
    (filter (λ (q : Pipe). not (has ns q.name)) items)) c.items.ensures kept))
