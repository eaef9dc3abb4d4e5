use Rattle.std.proofs.lemmas.Result.{IfOk-weaker}
use Rattle.cp_store.specs.Links.{with_link, down}
use Rattle.cp_store.proofs.Indexes.{HasLinks-same}
use Rattle.cp_store.proofs.PipeTests.{down-with}
use Rattle.cp_store.proofs.linking.linked_down.Goals as goal

pub returns-clause-links : goal.returns-clause-links
returns-clause-links c =
    IfOk-weaker c.linked.result _ _
    (λ new go test has. HasLinks-same c.linked.new.forest new _ (down (with_link test c.args.key c.args.name))
    (λ k n lt. down-with test c.args.key c.args.name c.ranges.name.fits k n lt) (go (down test) has))
    c.linked.ensures.links
