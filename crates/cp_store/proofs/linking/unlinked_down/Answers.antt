use Rattle.std.proofs.lemmas.Result.{IfOk-weaker}
use Rattle.cp_store.specs.Links.{without_link, down}
use Rattle.cp_store.proofs.Indexes.{HasLinks-same}
use Rattle.cp_store.proofs.PipeTests.{down-without}
use Rattle.cp_store.proofs.linking.unlinked_down.Goals as goal

pub returns-clause-links : goal.returns-clause-links
returns-clause-links c =
    IfOk-weaker c.unlinked.result _ _
    (λ new go test has. HasLinks-same c.unlinked.new.forest new _ (down (without_link test c.args.key c.args.name))
    (λ k n lt. down-without test c.args.key c.args.name c.ranges.name.fits k n lt) (go (down test) has))
    c.unlinked.ensures.links
