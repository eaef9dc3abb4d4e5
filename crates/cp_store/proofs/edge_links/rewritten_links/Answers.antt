use Rattle.std.proofs.Common.{subst}
use Rattle.std.proofs.lemmas.Result.{IfOk-weaker}
use Rattle.cp_store.specs.Links.{HasLinks}
use Rattle.cp_store.specs.EdgeLinks.{moved_links, added_links}
use Rattle.cp_store.proofs.edge_links.rewritten_links.Goals as goal

pub returns-clause-links : goal.returns-clause-links
returns-clause-links c =
    IfOk-weaker c.with_edges.result _ _
    (λ new go test has.
    subst (λ es. HasLinks c.with_edges.new.forest new (added_links es (moved_links c.args.w.now.moves test)))
    c.items-2.ensures
    (go _ (subst (λ ms. HasLinks c.with_moves.new.forest c.in_ok-moved.moved (moved_links ms test)) c.items.ensures
    (c.in_ok-moved.ensures.links test has))))
    c.with_edges.ensures.links
